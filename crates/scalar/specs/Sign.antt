-- Signs (document 01, "Scalars": "`abs`, `copysign` act on the sign bit; `signum` gives 1 or -1 by sign bit, NaN for NaN").
-- The language shows no sign of a NaN, so that a NaN as a float counts as positive; on bit patterns each NaN has its sign.
use Rattle.std.specs.Prelude.{ℕ, ◌+◌, ◌%◌, Bool, false, cond, leb, Float}
use Rattle.std.specs.Float.{nan, inf, fin, binary32}
use Rattle.std.specs.Float.Ieee.{neg, of_bits}
use Rattle.laws.specs.Exact.{negative}

abbrev pub one : Float
one = of_bits binary32 0x3f800000

unfoldable pub abs : Float → Float
abs nan = nan
abs (inf s) = inf false
abs (fin s m e) = fin false m e

-- x with the sign bit of y
unfoldable pub copysign : Float → Float → Float
unfolding abs neg negative
copysign x y = cond (negative y) (neg (abs x)) (abs x)

unfoldable pub signum : Float → Float
unfolding copysign
signum nan = nan
signum (inf s) = copysign one (inf s)
signum (fin s m e) = copysign one (fin s m e)

-- ---- on bit patterns

-- the highest bit
abbrev pub sign_bit : ℕ → Bool
sign_bit b = leb 2147483648 b

-- the highest bit of b before the 31 lower ones of a
abbrev pub copysign_bits : ℕ → ℕ → ℕ
copysign_bits a b = cond (sign_bit b) 2147483648 0 + a % 2147483648
