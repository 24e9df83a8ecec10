-- Each refusal that the handbook lists is given: its sittings, run on the reference model. Assumes nothing.
use mathlib.Core.Path.{◌≡◌, refl}
use mathlib.Core.List.{map}
use lib.Ieee as Ieee
use Rattle.laws.specs.Exact as Exact
use Rattle.laws.specs.WholeRoot as WholeRoot
use Rattle.scalar.specs.Root as Root
use Rattle.scalar.specs.ExactRoot as ExactRoot
use Rattle.scalar.specs.Sign as Sign
use Rattle.scalar.specs.Acos as Acos
use Rattle.scalar.specs.Euclid as Euclid
use Rattle.scalar.specs.Fused as Fused
use Rattle.scalar.specs.Integral as Integral
use Rattle.scalar.specs.Powers as Powers
use Rattle.vector.specs.Operators as Operators
use Rattle.vector.specs.Products as Products
use Rattle.vector.specs.Projections as Projections
use Rattle.vector.specs.LengthClamps as LengthClamps
use Rattle.vector.specs.Interpolation as Interpolation
use Rattle.vector.specs.Rounding as Rounding
use Rattle.vector.specs.Comparisons as Comparisons
use Rattle.vector.specs.Normalizing as Normalizing
use Rattle.vector.specs.Optics as Optics
use Rattle.vector.specs.Scaled as Scaled
use Rattle.vector.specs.DirectionOf as DirectionOf
use Rattle.commands.specs.Rows as Rows
use Rattle.commands.specs.Fields as Fields
use Rattle.commands.specs.Planes as Planes
use Rattle.commands.specs.Commands as Commands
use Rattle.commands.specs.Effects as Effects
use Rattle.commands.specs.Refusals as Refusals
use Rattle.commands.specs.Model as Model
use Rattle.commands.specs.HandbookSittings.{sittings}
use Rattle.commands.specs.Handbook.{handbook, pairs_from, all_pairs, given_in}

pub given : map given_in sittings ≡ all_pairs
unfolding sittings handbook pairs_from Model.run_by Model.step_of Model.applied Model.remembering Effects.effect_of Effects.direction_in Effects.unless_refused Effects.command_effect Rows.fresh Rows.row_at Rows.with_row Commands.table Commands.entry_at Fields.allows DirectionOf.direction_of DirectionOf.direction_unchecked DirectionOf.three_zeros Scaled.scaled Powers.times_power Ieee.size Refusals.unknown Refusals.no_row Refusals.nothing_remembered Refusals.bad_source Refusals.out_of_order Refusals.out_of_range Refusals.bad_value Refusals.no_refraction Refusals.is_nothing Refusals.lacks_direction Refusals.no_factor Refusals.no_direction Refusals.no_meeting Refusals.not_finite Refusals.first Refusals.early Refusals.late Refusals.refusals Refusals.refusal_of Planes.offset_through Planes.height Planes.is_parallel Planes.meeting Comparisons.is_finite Normalizing.try_normalize Normalizing.usable Products.length Products.length_and_exactness Products.distance_and_exactness Products.length_squared Products.length_recip Products.dot Products.cross Operators.add Operators.sub Operators.mul_number Operators.div_number Operators.number_mul Projections.project_onto Projections.reject_from LengthClamps.clamp_length Interpolation.lerp Interpolation.move_towards Interpolation.midpoint Interpolation.mul_add Rounding.div_euclid Rounding.rem_euclid Euclid.div_euclid Euclid.rem_euclid Fused.fused_multiply_add Integral.integral Optics.refract_k Optics.angle_between Acos.acos_approx Sign.abs ExactRoot.exact_root ExactRoot.root_and_exactness Root.root Root.root_units WholeRoot.whole_root Exact.size_in Exact.negative Ieee.round Ieee.rem Ieee.neg Ieee.div Ieee.sub Ieee.le Ieee.lt Ieee.eq Ieee.add Ieee.sum Ieee.mul Ieee.of_bits Ieee.to_bits
given = refl
