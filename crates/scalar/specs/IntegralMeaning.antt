-- What `trunc`, `floor` and `round` of a finite x are, said of exact values: sizes are counts of 2^-149, and 2 ^ 149 of them make 1.
use Rattle.std.specs.Prelude.{◌≡◌, true, false, ℕ, ◌+◌, ◌*◌, ◌%◌, ◌^◌, ◌≤◌, ◌<◌, T, Float}
use Rattle.std.specs.Float.{binary32}
use Rattle.std.specs.Float.Ieee.{fits}
use Rattle.std.specs.Float.Ieee.Scale.{finite}
use Rattle.laws.specs.Exact.{negative, size_in}
use Rattle.laws.specs.Within.{distance}

-- r is the whole number w with the sign of x: a finite f32, exactly w, and a zero keeps the sign
pub record Whole (x r : Float) (w : ℕ) : Type 0 where
  pub value : T (fits binary32 r)
  pub number : T (finite r)
  pub sign : negative r ≡ negative x
  pub size : size_in binary32 r ≡ w * 2 ^ 149

-- toward zero: no size above that of x, and the next whole number is above it
pub record Truncated (x r : Float) : Type 0 where
  pub w : ℕ
  pub whole : Whole x r w
  pub below : w * 2 ^ 149 ≤ size_in binary32 x
  pub above : size_in binary32 x < (w + 1) * 2 ^ 149

-- the largest whole number at or below x
pub record Floored (x r : Float) : Type 0 where
  pub w : ℕ
  pub whole : Whole x r w
  pub positive : negative x ≡ false → (w * 2 ^ 149 ≤ size_in binary32 x) × (size_in binary32 x < (w + 1) * 2 ^ 149)
  pub minus : negative x ≡ true → (size_in binary32 x ≤ w * 2 ^ 149) × (w * 2 ^ 149 < size_in binary32 x + 2 ^ 149)

-- no whole number v is nearer to x, and where another one is as near, w is even
pub record RoundedEven (x r : Float) : Type 0 where
  pub w : ℕ
  pub whole : Whole x r w
  pub nearest : (v : ℕ) → distance (w * 2 ^ 149) (size_in binary32 x) ≤ distance (v * 2 ^ 149) (size_in binary32 x)
  pub even : (v : ℕ) → (w ≡ v → ⊥) → distance (w * 2 ^ 149) (size_in binary32 x) ≡ distance (v * 2 ^ 149) (size_in binary32 x) → w % 2 ≡ 0
