-- "Rounded" (document 01, "Scalars"): "to nearest, ties to even, overflow to infinity (IEEE 754)", said of any result.
use Rattle.std.specs.Prelude.{◌≡◌, Bool, cond, not, ℕ, suc, ◌+◌, ◌-◌, ◌*◌, ◌%◌, ◌^◌, ◌≤◌, ◌<◌, T, Float}
use Rattle.std.specs.Bool.{beq}
use Rattle.std.specs.Float.{inf, Format}
use Rattle.std.specs.Float.Ieee.{prec, emax, low, fits, is_nan, to_bits}
use Rattle.std.specs.Float.Ieee.Scale.{finite}
use Rattle.laws.specs.Exact.{negative, size_in}
use Rattle.laws.specs.Within.{distance}
use Rattle.laws.specs.Determines.{Determines}

-- How far apart two whole numbers with signs are.
abbrev pub gap : Bool → ℕ → Bool → ℕ → ℕ
gap s a t b = cond (beq s t) (distance a b) (a + b)

-- How far the float x is from ±a / c: c times as many smallest values.
abbrev pub off : Format → Float → Bool → ℕ → ℕ → ℕ
off f x s a c = gap (negative x) (size_in f x * c) s (a * 2 ^ low f)

-- Half a unit in the last place past the largest value: 2 ^ 128 - 2 ^ 103 in binary32.
abbrev pub limit : Format → ℕ
limit f = (2 ^ suc (prec f) - 1) * 2 ^ (emax f - prec f)

-- r is ±a / c rounded to the format f.
pub record RoundsTo (f : Format) (s : Bool) (a c : ℕ) (r : Float) : Type 0 where
  -- it is a value of the format, of the fraction's sign
  pub value : T (fits f r)
  pub number : T (not (is_nan r))
  pub sign : negative r ≡ s
  -- overflow to infinity
  pub below : a < limit f * c → T (finite r)
  pub beyond : limit f * c ≤ a → r ≡ inf s
  -- no finite value of the format is nearer
  pub nearest : T (finite r) → (y : Float) → T (fits f y) → T (finite y) → off f r s a c ≤ off f y s a c
  -- and where another one is as near, the last bit of r is 0
  pub even : T (finite r) → (y : Float) → T (fits f y) → T (finite y) → off f r s a c ≡ off f y s a c → (r ≡ y → ⊥) → to_bits f r % 2 ≡ 0

-- This leaves no choice: two results with the same meaning are equal.
abbrev pub RoundingDetermined : Type 0
RoundingDetermined = (f : Format) (s : Bool) (a c : ℕ) → 0 < c → Determines (RoundsTo f s a c)
