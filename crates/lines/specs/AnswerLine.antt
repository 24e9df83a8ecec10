-- Answer lines (document 01, "Lines"): "An answer line is 42 bytes and a line feed: three fields of 3, three of 11."
use Rattle.std.specs.Prelude.{ℕ, cond, List, [], ◌∷◌, ◌++◌, length, drop, nat_lt}
use Rattle.lines.specs.Columns.{text}

abbrev pub widths : List ℕ
widths = 3 ∷ 3 ∷ 3 ∷ 11 ∷ 11 ∷ 11 ∷ []

-- refusal number, row, kind and three values; 10 is the line feed
unfoldable pub answer_line : ℕ → ℕ → ℕ → ℕ → ℕ → ℕ → List ℕ
answer_line refusal row kind x y z = text widths (refusal ∷ row ∷ kind ∷ x ∷ y ∷ z ∷ []) ++ (10 ∷ [])

-- "42 bytes and a line feed"
abbrev pub answer_length : ℕ
answer_length = 43

-- the lent bytes afterwards: "fewer than 43 bytes lent for an answer line, [..] no byte written"; "Longer buffers stay unchanged past their first 43 bytes."
unfoldable pub answer_into : ℕ → ℕ → ℕ → ℕ → ℕ → ℕ → List ℕ → List ℕ
answer_into refusal row kind x y z out = cond (nat_lt (length out) answer_length) out (answer_line refusal row kind x y z ++ drop answer_length out)
