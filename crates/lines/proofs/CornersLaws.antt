-- The marked cases of specs/Corners hold: each is computed from the definitions. Assumes nothing.
use Rattle.std.specs.Prelude.{refl}
use Rattle.lines.specs.Field.{digits, decimal, value_from, value, leading_zero, number, glyph, lead, written}
use Rattle.lines.specs.Columns.{field_at, both, numbers_at, text}
use Rattle.lines.specs.CommandLine.{numbers}
use Rattle.lines.specs.AnswerLine.{answer_line}
use Rattle.lines.specs.Corners.{Corners, bytes}

pub corners : Corners
unfolding bytes digits decimal value_from value leading_zero number glyph lead written field_at both numbers_at text numbers answer_line
corners = record {
  handed_back = refl;
  all_blank = refl;
  one = refl;
  two = refl;
  three = refl;
  blank_inside = refl;
  blank_after = refl;
  sign = refl;
  tab = refl;
  before_0 = refl;
  after_9 = refl;
  blanks_only = refl;
  no_column = refl;
  zero = refl;
  zeros = refl;
  leading_zero_ill = refl;
  largest = refl;
  too_large = refl;
  eleven_digits = refl;
  largest_zero = refl;
  written_0 = refl;
  written_999 = refl;
  written_largest = refl;
  too_narrow = refl;
  point = refl;
  length = refl;
  direction = refl;
  column_less = refl;
  column_more = refl;
  carriage_return = refl;
  no_byte = refl;
  beside_edge = refl;
  point_answer = refl;
  length_answer = refl;
  direction_answer = refl;
}
