-- One field (document 01, "Lines"): "A field is blanks, then decimal digits to its right edge, at least one, no leading zero but in 0 alone."
use Rattle.std.specs.Prelude.{ℕ, zero, suc, ◌+◌, ◌-◌, ◌*◌, ◌/◌, ◌%◌, Bool, true, cond, ◌&&◌, List, [], ◌∷◌, ◌++◌, length, ◌==◌, nat_le, nat_lt, slice_index, Option, None, Some}

-- "A blank is the byte 32."
abbrev pub blank : ℕ
blank = 32

-- "its digits without the blanks before them"
unfoldable pub digits : List ℕ → List ℕ
digits [] = []
digits (b ∷ l) = cond (b == blank) (digits l) (b ∷ l)

-- ---- what digits mean

-- the bytes of the decimal digits 0 to 9
abbrev pub is_digit : ℕ → Bool
is_digit b = nat_le 48 b && nat_le b 57

unfoldable pub decimal : List ℕ → Bool
decimal [] = true
decimal (b ∷ l) = is_digit b && decimal l

-- the number that digits give after those that gave n
unfoldable pub value_from : ℕ → List ℕ → ℕ
value_from n [] = n
value_from n (b ∷ l) = value_from (n * 10 + (b - 48)) l

-- "ill formed above 4294967295"
abbrev pub limit : ℕ
limit = 4294967295

-- decimal digits of a number up to the limit
unfoldable pub value : List ℕ → Option ℕ
value l = cond (decimal l) (cond (nat_le (value_from 0 l) limit) (Some (value_from 0 l)) None) None

-- a zero with digits after it
unfoldable pub leading_zero : List ℕ → Bool
leading_zero l = nat_lt 1 (length l) && slice_index l 0 == 48

-- "decimal digits [..], at least one, no leading zero but in 0 alone"
unfoldable pub number : List ℕ → Option ℕ
number l = cond (length l == 0) None (cond (leading_zero l) None (value l))

-- ---- a number written

-- the last digit of n, or a blank where n is 0
unfoldable pub glyph : ℕ → ℕ
glyph n = cond (n == 0) blank (48 + n % 10)

-- the digits of n in w columns, the last on the right and blanks before the first: of 0, blanks alone
unfoldable pub lead : ℕ → ℕ → List ℕ
lead zero n = []
lead (suc w) n = lead w (n / 10) ++ (glyph n ∷ [])

-- n in w columns, right-justified; the last w digits of a number that has more
unfoldable pub written : ℕ → ℕ → List ℕ
written zero n = []
written (suc w) n = lead w (n / 10) ++ ((48 + n % 10) ∷ [])
