-- The marked cases of specs/Corners hold: each is computed from the definitions. Assumes nothing.
use Rattle.std.specs.Prelude.{refl}
use Rattle.std.specs.Float.Ieee as Ieee
use Rattle.laws.specs.Exact as Exact
use Rattle.laws.specs.WholeRoot as WholeRoot
use Rattle.scalar.specs.Root as Root
use Rattle.scalar.specs.Powers as Powers
use Rattle.scalar.specs.ExactRoot as ExactRoot
use Rattle.vector.specs.Operators as Operators
use Rattle.vector.specs.Products as Products
use Rattle.vector.specs.Comparisons as Comparisons
use Rattle.vector.specs.Normalizing as Normalizing
use Rattle.vector.specs.Scaled as Scaled
use Rattle.vector.specs.DirectionOf as DirectionOf
use Rattle.commands.specs.Rows as Rows
use Rattle.commands.specs.Rows.{fresh}
use Rattle.commands.specs.Planes as Planes
use Rattle.commands.specs.Commands as Commands
use Rattle.commands.specs.Refusals as Refusals
use Rattle.commands.specs.Effects as Effects
use Rattle.commands.specs.Model as Model
use Rattle.commands.specs.Fields as Fields
use Rattle.lines.specs.Field as Field
use Rattle.lines.specs.Columns as Columns
use Rattle.lines.specs.CommandLine as CommandLine
use Rattle.lines.specs.AnswerLine as AnswerLine
use Rattle.lines.specs.Corners as Texts
use Rattle.lines.specs.Corners.{bytes}
use Rattle.stream.specs.Responses as Responses
use Rattle.stream.specs.Stream as Stream
use Rattle.stream.specs.Corners.{Corners}

pub corners : Corners
unfolding Texts.bytes Responses.response Responses.answer_text Stream.pushed Stream.byte_fed Stream.feed_of Stream.end_of Fields.command_of Field.digits Field.decimal Field.value_from Field.value Field.leading_zero Field.number Field.glyph Field.lead Field.written Columns.field_at Columns.both Columns.numbers_at Columns.text CommandLine.numbers AnswerLine.answer_line Model.step_of Model.applied Model.remembering Model.restored Effects.effect_of Effects.direction_in Effects.unless_refused Effects.command_effect Rows.fresh Rows.row_at Rows.with_row Commands.table Commands.entry_at Fields.allows DirectionOf.direction_of DirectionOf.three_zeros Scaled.scaled Powers.times_power Ieee.size Refusals.unknown Refusals.no_row Refusals.nothing_remembered Refusals.bad_source Refusals.out_of_order Refusals.out_of_range Refusals.bad_value Refusals.no_refraction Refusals.is_nothing Refusals.lacks_direction Refusals.no_factor Refusals.no_direction Refusals.no_meeting Planes.offset_through Planes.is_parallel Planes.meeting Refusals.not_finite Refusals.first Refusals.early Refusals.late Refusals.refusals Refusals.refusal_of Comparisons.is_finite Normalizing.try_normalize Normalizing.usable Products.length Products.length_and_exactness Products.length_squared Products.length_recip Products.dot Operators.add Operators.mul_number ExactRoot.exact_root ExactRoot.root_and_exactness Root.root Root.root_units WholeRoot.whole_root Exact.size_in Exact.negative Ieee.round Ieee.neg Ieee.div Ieee.sub Ieee.le Ieee.lt Ieee.eq Ieee.add Ieee.sum Ieee.mul Ieee.of_bits Ieee.to_bits
corners = record { listed = refl; taken_back = refl; plane_met = refl; empty = refl; blank_line = refl; column_more = refl; columns_more = refl; unended = refl; in_between = refl }
