-- The cases of directions of specs/DirectionCorners hold: each is computed from the definitions. Assumes nothing.
use Rattle.std.specs.Prelude.{refl}
use Rattle.std.specs.Float.Ieee as Ieee
use Rattle.std.specs.Float.Ieee.{of_bits}
use Rattle.laws.specs.Exact as Exact
use Rattle.laws.specs.WholeRoot as WholeRoot
use Rattle.scalar.specs.Root as Root
use Rattle.scalar.specs.Powers as Powers
use Rattle.scalar.specs.Sign as Sign
use Rattle.vector.specs.Operators as Operators
use Rattle.vector.specs.Products as Products
use Rattle.vector.specs.Comparisons as Comparisons
use Rattle.vector.specs.Normalizing as Normalizing
use Rattle.vector.specs.Scaled as Scaled
use Rattle.vector.specs.DirectionOf as DirectionOf
use Rattle.vector.specs.Optics as Optics
use Rattle.vector.specs.Orthogonal as Orthogonal
use Rattle.commands.specs.Rows as Rows
use Rattle.commands.specs.Rows.{direction, fresh, with_row}
use Rattle.commands.specs.Fields as Fields
use Rattle.commands.specs.Commands as Commands
use Rattle.commands.specs.Effects as Effects
use Rattle.commands.specs.Refusals as Refusals
use Rattle.commands.specs.Model as Model
use Rattle.commands.specs.Model.{with_rows, step_of}
use Rattle.commands.specs.DirectionCorners.{DirectionCorners}

pub direction_corners : DirectionCorners
unfolding Model.run_by Model.step_of Model.applied Model.remembering Effects.effect_of Effects.direction_in Effects.unless_refused Effects.command_effect Rows.fresh Rows.row_at Rows.with_row Commands.table Commands.entry_at Fields.allows DirectionOf.direction_of DirectionOf.direction_unchecked DirectionOf.three_zeros Scaled.scaled Powers.times_power Ieee.size Refusals.unknown Refusals.no_row Refusals.nothing_remembered Refusals.bad_source Refusals.out_of_order Refusals.out_of_range Refusals.bad_value Refusals.no_refraction Refusals.is_nothing Refusals.lacks_direction Refusals.no_factor Refusals.no_direction Refusals.no_meeting Refusals.not_finite Refusals.first Refusals.early Refusals.late Refusals.refusals Refusals.refusal_of Comparisons.is_finite Normalizing.try_normalize Normalizing.usable Products.length Products.length_squared Products.length_recip Products.dot Operators.mul_number Operators.number_mul Operators.add Operators.sub Optics.reflect Optics.refract Optics.refract_k Orthogonal.any_orthonormal_pair Sign.signum Root.root Root.root_units WholeRoot.whole_root Exact.size_in Exact.negative Ieee.round Ieee.neg Ieee.div Ieee.sub Ieee.le Ieee.lt Ieee.eq Ieee.add Ieee.sum Ieee.mul Ieee.of_bits Ieee.to_bits
direction_corners = record {
  short = refl;
  drawing = refl;
  smallest = refl;
  subnormal = refl;
  longest = refl;
  far_apart = refl;
  large = refl;
  vanished_no_more = refl;
  small_component = refl;
  zeros = refl;
  minus_zeros = refl;
  projected = refl;
  rejected = refl;
  no_angle = refl;
  mirrored = refl;
  bent = refl;
  paired = refl;
  mirrored_zeros = refl;
  bent_zeros = refl;
  paired_infinite = refl;
}
