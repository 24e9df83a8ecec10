-- Document 01's listing as a whole input, a point that is taken back, a plane that a line meets, and the inputs without a command, computed from the definitions. Texts stand for their bytes.
use Rattle.std.specs.Prelude.{ℕ, ◌≡◌, List, [], ◌∷◌, ◌++◌}
use Prim.Native.String.{String}
use Rattle.commands.specs.Rows.{fresh}
use Rattle.lines.specs.Corners.{bytes}
use Rattle.stream.specs.Inputs.{output_of}

-- the bytes of a line with its line feed
abbrev pub line : String → List ℕ
line s = bytes s ++ (10 ∷ [])

-- document 01's first two lines and their answer lines, and that of a line that 1 refuses
abbrev pub point : List ℕ
point = line "  1  0  0  0 1077936128 1082130432          0"

abbrev pub point_answer : List ℕ
point_answer = line "  0  0  1 1077936128 1082130432          0"

abbrev length : List ℕ
length = line " 26  0  0  0          0          0          0"

abbrev length_answer : List ℕ
length_answer = line "  0  0  5 1084227584          0          0"

-- a 33, with fields that it does not use
abbrev back : List ℕ
back = line " 33999999999 2143289344 2143289344 2143289344"

abbrev pub ill : List ℕ
ill = line "  1  0  0          0          0          0"

pub record Corners : Type 0 where
  -- "(the point (3, 4, 0), its length, its direction) prints"; "the second answer becomes kind 5"
  pub listed :
      output_of fresh (point ++ length ++ line "  2  1  0  0          0          0          0")
      ≡ point_answer ++ length_answer ++ line "  0  1  2 1058642330 1061997773          0"
  -- document 02, a: a point is taken back, and then "nothing remembered is refused by 11"
  pub taken_back :
      output_of fresh (point ++ back ++ back)
      ≡ point_answer ++ line "  0  0  0          0          0          0" ++ line " 11  0  0          0          0          0"
  -- document 02, d: the plane through (0, 2, 0) with the normal (0, 1, 0), its offset, and the point of it below (0, 5, 0), written over the plane, whose row u is
  -- "the whole number in field u"
  pub plane_met :
      output_of fresh
      (line "  1  0  0  0          0 1073741824          0"
      ++ line "  1  1  0  0          0 1065353216          0"
      ++ line "  2  2  1  0          0          0          0"
      ++ line " 34  3  0  2          0          0          0"
      ++ line " 37  0  3  0          0          0          0"
      ++ line "  1  4  0  0          0 1084227584          0"
      ++ line " 36  3  4  2          3          0          0")
      ≡ line "  0  0  1          0 1073741824          0"
      ++ line "  0  1  1          0 1065353216          0"
      ++ line "  0  2  2          0 1065353216          0"
      ++ line "  0  3  6          0 1065353216          0"
      ++ line "  0  0  3 1073741824          0          0"
      ++ line "  0  4  1          0 1084227584          0"
      ++ line "  0  3  1          0 1073741824          0"
  -- "input without bytes gives no output"
  pub empty : output_of fresh [] ≡ []
  -- "1, not 45 bytes before a line feed"
  pub blank_line : output_of fresh (10 ∷ []) ≡ ill
  pub column_more : output_of fresh (32 ∷ point) ≡ ill
  pub columns_more : output_of fresh (32 ∷ 32 ∷ point) ≡ ill
  -- "Bytes after the last line feed are a line too, refused by 1"
  pub unended : output_of fresh (bytes "  1  0  0  0 1077936128 1082130432          0") ≡ ill
  -- "one they refuse runs none and leaves every row"
  pub in_between : output_of fresh (point ++ (10 ∷ []) ++ length ++ (32 ∷ [])) ≡ point_answer ++ ill ++ length_answer ++ ill
