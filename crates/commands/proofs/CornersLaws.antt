-- The marked cases of specs/Corners hold: each is computed from the definitions. Assumes nothing.
use Rattle.std.specs.Prelude.{refl}
use Rattle.std.specs.Float.Ieee as Ieee
use Rattle.laws.specs.Exact as Exact
use Rattle.laws.specs.WholeRoot as WholeRoot
use Rattle.scalar.proofs.CornersLaws.{corners as scalar_corners}
use Rattle.scalar.specs.Root as Root
use Rattle.scalar.specs.ExactRoot as ExactRoot
use Rattle.scalar.specs.Sign as Sign
use Rattle.scalar.specs.Acos as Acos
use Rattle.scalar.specs.Powers as Powers
use Rattle.vector.proofs.CornersLaws.{corners as vector_corners}
use Rattle.vector.specs.Operators as Operators
use Rattle.vector.specs.Products as Products
use Rattle.vector.specs.Comparisons as Comparisons
use Rattle.vector.specs.Normalizing as Normalizing
use Rattle.vector.specs.Optics as Optics
use Rattle.vector.specs.Orthogonal as Orthogonal
use Rattle.vector.specs.Scaled as Scaled
use Rattle.vector.specs.DirectionOf as DirectionOf
use Rattle.commands.specs.Rows as Rows
use Rattle.commands.specs.Fields as Fields
use Rattle.commands.specs.Commands as Commands
use Rattle.commands.specs.Effects as Effects
use Rattle.commands.specs.Refusals as Refusals
use Rattle.commands.specs.Model as Model
use Rattle.commands.proofs.PlaneCornersLaws.{plane_corners}
use Rattle.commands.proofs.DirectionCornersLaws.{direction_corners}
use Rattle.commands.specs.Corners.{Corners}

pub corners : Corners
unfolding Model.run_by Model.step_of Model.applied Model.remembering Model.restored Effects.effect_of Effects.direction_in Effects.unless_refused Effects.command_effect Rows.fresh Rows.row_at Rows.with_row Commands.table Commands.entry_at Fields.allows DirectionOf.direction_of DirectionOf.direction_unchecked DirectionOf.three_zeros Scaled.scaled Powers.times_power Ieee.size Refusals.unknown Refusals.no_row Refusals.nothing_remembered Refusals.bad_source Refusals.out_of_order Refusals.out_of_range Refusals.bad_value Refusals.no_refraction Refusals.is_nothing Refusals.lacks_direction Refusals.no_factor Refusals.no_direction Refusals.no_meeting Refusals.not_finite Refusals.first Refusals.early Refusals.late Refusals.refusals Refusals.refusal_of Comparisons.is_finite Normalizing.try_normalize Normalizing.usable Products.length Products.length_and_exactness Products.distance_and_exactness Products.length_squared Products.length_recip Products.dot Operators.mul_number Operators.number_mul Operators.sub Optics.refract Optics.refract_k Optics.angle_between Acos.acos_approx Orthogonal.any_orthonormal_pair Sign.signum Sign.copysign Sign.abs ExactRoot.exact_root ExactRoot.root_and_exactness Root.root Root.root_units WholeRoot.whole_root Exact.size_in Exact.negative Ieee.round Ieee.neg Ieee.div Ieee.sub Ieee.le Ieee.lt Ieee.eq Ieee.add Ieee.sum Ieee.mul Ieee.of_bits Ieee.to_bits
corners = record {
  scalars = scalar_corners;
  vectors = vector_corners;
  planes = plane_corners;
  directions = direction_corners;
  listed = refl;
  all_empty = refl;
  emptied = refl;
  empty_again = refl;
  short = refl;
  pair = refl;
  pair_second = refl;
  along = refl;
  reflected = refl;
  four_taken = refl;
  above_four = refl;
  quarter_taken = refl;
  below_quarter = refl;
  above_last = refl;
  nothing_yet = refl;
  point_back = refl;
  lost_back = refl;
  emptied_back = refl;
  empty_back = refl;
  pair_back = refl;
  pair_empty = refl;
  others_kept = refl;
  one_by_one = refl;
  first_stays = refl;
  whole_triangle = refl;
  not_whole = refl;
  zero_length = refl;
  no_distance = refl;
  vanished = refl;
  sum_rounded = refl;
  overflowed = refl;
  dot_plain = refl;
  angle_plain = refl;
}
