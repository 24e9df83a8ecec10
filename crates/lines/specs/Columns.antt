-- Fields side by side (document 01, "Lines": "Each field is read at its own columns of the line").
use Rattle.std.specs.Prelude.{ℕ, ◌+◌, List, [], ◌∷◌, ◌++◌, take, drop, Option, None, Some}
use Rattle.lines.specs.Field.{digits, number, written}

-- the number of the w columns from `at` on
unfoldable pub field_at : ℕ → ℕ → List ℕ → Option ℕ
field_at at w l = number (digits (take w (drop at l)))

-- the number of a field and those of the fields after it
unfoldable pub both : Option ℕ → Option (List ℕ) → Option (List ℕ)
both (Some n) (Some ns) = Some (n ∷ ns)
both (Some n) None = None
both None ns = None

-- the numbers of the fields of these widths, the first of which begins at column `at`: none where a field is ill formed
unfoldable pub numbers_at : ℕ → List ℕ → List ℕ → Option (List ℕ)
numbers_at at [] l = Some []
numbers_at at (w ∷ ws) l = both (field_at at w l) (numbers_at (at + w) ws l)

-- numbers in fields of these widths
unfoldable pub text : List ℕ → List ℕ → List ℕ
text (w ∷ ws) (n ∷ ns) = written w n ++ text ws ns
text (w ∷ ws) [] = []
text [] ns = []
