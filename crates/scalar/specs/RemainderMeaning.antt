-- What `%` of a finite a and a finite b that is not zero is, said of exact values (document 01, "Scalars": "the exact remainder of the
-- quotient cut toward zero, with the dividend's sign").
use Rattle.std.specs.Prelude.{◌≡◌, ℕ, ◌+◌, ◌*◌, ◌<◌, T, Float}
use Rattle.std.specs.Float.{binary32}
use Rattle.std.specs.Float.Ieee.{fits}
use Rattle.std.specs.Float.Ieee.Scale.{finite}
use Rattle.laws.specs.Exact.{negative, size_in}

pub record Remainder (a b r : Float) : Type 0 where
  -- a finite f32
  pub value : T (fits binary32 r)
  pub number : T (finite r)
  pub quotient : ℕ
  -- exact: nothing is rounded
  pub exact : size_in binary32 a ≡ quotient * size_in binary32 b + size_in binary32 r
  pub smaller : size_in binary32 r < size_in binary32 b
  pub sign : negative r ≡ negative a
