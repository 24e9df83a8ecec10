-- The cases of planes of specs/PlaneCorners hold: each is computed from the definitions. Assumes nothing.
use Rattle.std.specs.Prelude.{refl}
use Rattle.std.specs.Float.Ieee as Ieee
use Rattle.std.specs.Float.Ieee.{of_bits}
use Rattle.laws.specs.Exact as Exact
use Rattle.laws.specs.WholeRoot as WholeRoot
use Rattle.scalar.specs.Root as Root
use Rattle.scalar.specs.Powers as Powers
use Rattle.vector.specs.Operators as Operators
use Rattle.vector.specs.Products as Products
use Rattle.vector.specs.Comparisons as Comparisons
use Rattle.vector.specs.Normalizing as Normalizing
use Rattle.vector.specs.Scaled as Scaled
use Rattle.vector.specs.DirectionOf as DirectionOf
use Rattle.commands.specs.Rows as Rows
use Rattle.commands.specs.Rows.{ModelRow, empty, point, direction, plane, row_at, fresh}
use Rattle.commands.specs.Fields as Fields
use Rattle.commands.specs.Planes as Planes
use Rattle.commands.specs.Commands as Commands
use Rattle.commands.specs.Effects as Effects
use Rattle.commands.specs.Refusals as Refusals
use Rattle.commands.specs.Model as Model
use Rattle.commands.specs.Model.{run_from}
use Rattle.commands.specs.PlaneCorners.{PlaneCorners}

pub plane_corners : PlaneCorners
unfolding Model.run_by Model.step_of Model.applied Model.remembering Model.restored Effects.effect_of Effects.direction_in Effects.unless_refused Effects.command_effect Rows.fresh Rows.row_at Rows.with_row Commands.table Commands.entry_at Fields.allows DirectionOf.direction_of DirectionOf.three_zeros Scaled.scaled Powers.times_power Ieee.size Refusals.unknown Refusals.no_row Refusals.nothing_remembered Refusals.bad_source Refusals.out_of_order Refusals.out_of_range Refusals.bad_value Refusals.no_refraction Refusals.is_nothing Refusals.lacks_direction Refusals.no_direction Refusals.no_meeting Planes.offset_through Planes.height Planes.is_parallel Planes.meeting Refusals.not_finite Refusals.first Refusals.early Refusals.late Refusals.refusals Refusals.refusal_of Comparisons.is_finite Normalizing.try_normalize Normalizing.usable Products.length Products.length_squared Products.length_recip Products.dot Operators.mul_number Operators.number_mul Operators.add Root.root Root.root_units WholeRoot.whole_root Exact.size_in Exact.negative Ieee.round Ieee.neg Ieee.div Ieee.sub Ieee.le Ieee.lt Ieee.eq Ieee.add Ieee.sum Ieee.mul Ieee.of_bits Ieee.to_bits
plane_corners = record {
  made = refl;
  offset_told = refl;
  above = refl;
  met = refl;
  met_aslant = refl;
  shown = refl;
  over_plane = refl;
  no_plane = refl;
  not_point = refl;
  not_direction = refl;
  not_over = refl;
  over_direction = refl;
  from_direction = refl;
  along_point = refl;
  to_point = refl;
  to_direction = refl;
  to_empty = refl;
  offset_of_point = refl;
  direction_of_plane = refl;
  plane_added = refl;
  plane_reflected = refl;
  plane_measured = refl;
  plane_unused = refl;
  row_64 = refl;
  row_one = refl;
  row_first = refl;
  beside = refl;
  vanished = refl;
  vanished_below = refl;
  beside_above = refl;
  grazing = refl;
  both = refl;
  offset_infinite = refl;
  height_infinite = refl;
  minus_zero = refl;
  made_back = refl;
  plane_back = refl;
  offset_back = refl;
  told_not_back = refl;
  four_numbers = refl;
  emptied = refl;
  pointed = refl;
  aimed = refl;
  met_over = refl;
}
