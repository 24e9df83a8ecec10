-- Whole results (document 01, "Scalars": "`trunc`, `floor`, `round`: whole results; zero results of `trunc` and `round` keep the
-- argument's sign; `floor` of -0 is -0. `round` sends ties to even. Infinities stay; NaN gives NaN").
use Rattle.std.specs.Prelude.{ℕ, ◌+◌, ◌*◌, ◌/◌, ◌%◌, Bool, cond, eqb, Float}
use Rattle.std.specs.Float.{nan, inf, fin, binary32}
use Rattle.std.specs.Float.Ieee.{up, down, round}
use Rattle.std.specs.Float.Ieee.Nearest.{closest}

-- IEEE 754's roundToIntegral: `by` says which whole number is taken for the size a / b of a number of the sign s.
unfoldable pub integral : (Bool → ℕ → ℕ → ℕ) → Float → Float
unfolding round
integral by nan = nan
integral by (inf s) = inf s
integral by (fin s m e) = round binary32 s (by s (m * up e) (down e)) 1

-- roundTowardZero: truncated
abbrev pub toward_zero : Bool → ℕ → ℕ → ℕ
toward_zero s a b = a / b

-- roundTowardNegative: away from zero where the number is negative
abbrev pub toward_negative : Bool → ℕ → ℕ → ℕ
toward_negative s a b = cond s (a / b + cond (eqb (a % b) 0) 0 1) (a / b)

-- roundTiesToEven: to nearest even
abbrev pub ties_to_even : Bool → ℕ → ℕ → ℕ
ties_to_even s a b = closest a b

abbrev pub trunc : Float → Float
trunc x = integral toward_zero x

abbrev pub floor : Float → Float
floor x = integral toward_negative x

abbrev pub round_even : Float → Float
round_even x = integral ties_to_even x
