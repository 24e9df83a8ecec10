-- The corners of fields and lines, and document 01's listing, computed from the definitions. Texts stand for their bytes.
use Rattle.std.specs.Prelude.{◌≡◌, ℕ, List, [], ◌∷◌, ◌++◌, Option, None, Some}
use Prim.Native.Char.{code}
use Prim.Native.String.{String, [] as nil, ◌∷◌ as cons}
use Rattle.lines.specs.Field.{digits, number, written}
use Rattle.lines.specs.CommandLine.{numbers}
use Rattle.lines.specs.AnswerLine.{answer_line}

-- the bytes of a text of ASCII characters
unfoldable pub bytes : String → List ℕ
bytes nil = []
bytes (cons c s) = code c ∷ bytes s

abbrev field : String → Option ℕ
field s = number (digits (bytes s))

pub record Corners : Type 0 where
  -- "its digits without the blanks before them are handed back"
  pub handed_back : digits (bytes "  12") ≡ bytes "12"
  pub all_blank : digits (bytes "   ") ≡ []
  -- "blanks, then decimal digits to its right edge"
  pub one : field "  1" ≡ Some 1
  pub two : field " 12" ≡ Some 12
  pub three : field "999" ≡ Some 999
  pub blank_inside : field "1 2" ≡ None
  pub blank_after : field "12 " ≡ None
  pub sign : field " +1" ≡ None
  pub tab : number (digits (9 ∷ 49 ∷ [])) ≡ None
  pub before_0 : field " 1/" ≡ None
  pub after_9 : field " 1:" ≡ None
  -- "at least one"
  pub blanks_only : field "   " ≡ None
  pub no_column : field "" ≡ None
  -- "no leading zero but in 0 alone"
  pub zero : field "  0" ≡ Some 0
  pub zeros : field " 00" ≡ None
  pub leading_zero_ill : field "012" ≡ None
  -- "ill formed above 4294967295"
  pub largest : field " 4294967295" ≡ Some 4294967295
  pub too_large : field " 4294967296" ≡ None
  pub eleven_digits : field "10000000000" ≡ None
  pub largest_zero : field "04294967295" ≡ None
  -- a number written, and one that has more digits than the field has columns
  pub written_0 : written 3 0 ≡ bytes "  0"
  pub written_999 : written 3 999 ≡ bytes "999"
  pub written_largest : written 11 4294967295 ≡ bytes " 4294967295"
  pub too_narrow : written 3 1005 ≡ bytes "005"
  -- document 01's input, line by line
  pub point : numbers (bytes "  1  0  0  0 1077936128 1082130432          0") ≡ Some (1 ∷ 0 ∷ 0 ∷ 0 ∷ 1077936128 ∷ 1082130432 ∷ 0 ∷ [])
  pub length : numbers (bytes " 26  0  0  0          0          0          0") ≡ Some (26 ∷ 0 ∷ 0 ∷ 0 ∷ 0 ∷ 0 ∷ 0 ∷ [])
  pub direction : numbers (bytes "  2  1  0  0          0          0          0") ≡ Some (2 ∷ 1 ∷ 0 ∷ 0 ∷ 0 ∷ 0 ∷ 0 ∷ [])
  -- a column less, a column more, a carriage return, nothing
  pub column_less : numbers (bytes "  2  1  0  0          0          0         0") ≡ None
  pub column_more : numbers (bytes "  2  1  0  0          0          0           0") ≡ None
  pub carriage_return : numbers (bytes "  2  1  0  0          0          0          0" ++ (13 ∷ [])) ≡ None
  pub no_byte : numbers [] ≡ None
  -- a digit beside its field's right edge
  pub beside_edge : numbers (bytes "  2  1 0  0           0          0          0") ≡ None
  -- document 01's output, line by line, the second as document 02's c has it
  pub point_answer : answer_line 0 0 1 1077936128 1082130432 0 ≡ bytes "  0  0  1 1077936128 1082130432          0" ++ (10 ∷ [])
  pub length_answer : answer_line 0 0 5 1084227584 0 0 ≡ bytes "  0  0  5 1084227584          0          0" ++ (10 ∷ [])
  pub direction_answer : answer_line 0 1 2 1058642330 1061997773 0 ≡ bytes "  0  1  2 1058642330 1061997773          0" ++ (10 ∷ [])
