-- Command lines (document 01, "Lines"): "A command line is 45 bytes and a line feed: four fields of 3 columns (command, t, a, b), three of 11
-- (u, v, w as f32 bits in decimal, ill formed above 4294967295)."
use Rattle.std.specs.Prelude.{ℕ, Bool, true, false, cond, List, [], ◌∷◌, ◌++◌, length, drop, ◌==◌, nat_lt, Option, None, Some}
use Rattle.lines.specs.Columns.{numbers_at}

abbrev pub widths : List ℕ
widths = 3 ∷ 3 ∷ 3 ∷ 3 ∷ 11 ∷ 11 ∷ 11 ∷ []

-- "45 bytes and a line feed"
abbrev pub line_length : ℕ
line_length = 45

-- the seven numbers of the bytes before a line feed: none where the line is ill formed
unfoldable pub numbers : List ℕ → Option (List ℕ)
numbers l = cond (length l == line_length) (numbers_at 0 widths l) None

-- ---- the numbers in places that a caller lends

-- with fewer than seven places lent, nothing is read
unfoldable pub read_into : List ℕ → List ℕ → Option (List ℕ)
read_into l f = cond (nat_lt (length f) 7) None (numbers l)

unfoldable pub is_read : Option (List ℕ) → Bool
is_read None = false
is_read (Some ns) = true

-- the places afterwards: the first seven hold the numbers, if they were read, and nothing else changes
unfoldable pub places_after : Option (List ℕ) → List ℕ → List ℕ
places_after None f = f
places_after (Some ns) f = ns ++ drop 7 f
