-- What `mul_add` of finite a, b and c is, said of exact values: a times b plus c, rounded once.
use Rattle.std.specs.Prelude.{◌≡◌, Bool, ◌&&◌, ℕ, ◌^◌, ◌<◌, ℤ, pos, ◌+ℤ◌, ◌*ℤ◌, Float}
use Rattle.std.specs.Float.{fin, binary32}
use Rattle.std.specs.Float.Ieee.{unlike}
use Rattle.laws.specs.Exact.{negative, signed, exact}
use Rattle.laws.specs.RoundsTo.{RoundsTo}

-- the exact sum, as a whole number of 2^-298
abbrev pub exact_sum : Float → Float → Float → ℤ
exact_sum a b c = exact binary32 a *ℤ exact binary32 b +ℤ exact binary32 c *ℤ pos (2 ^ 149)

pub record RoundedOnce (a b c r : Float) : Type 0 where
  -- a sum that is not zero: to nearest, ties to even, overflow to infinity, of its sign
  pub some : (s : Bool) (n : ℕ) → 0 < n → signed s n ≡ exact_sum a b c → RoundsTo binary32 s n (2 ^ 298) r
  -- a sum of zero: -0 where the product and c are both negative, else +0 (IEEE 754, 6.3)
  pub none : exact_sum a b c ≡ pos 0 → r ≡ fin (unlike (negative a) (negative b) && negative c) 0 (pos 0)
