-- Cases of document 02's f and g, computed from the definitions. f is the float of a bit pattern.
use Rattle.std.specs.Prelude.{◌≡◌, true, ℕ, Float, Some, None}
use Rattle.std.specs.Float.{nan, inf, binary32}
use Rattle.std.specs.Float.Ieee.{of_bits}
use Rattle.vector.specs.Vectors.{vec, zer, one, X}
use Rattle.vector.specs.Normalizing.{try_normalize}
use Rattle.vector.specs.Scaled.{scaled}
use Rattle.vector.specs.DirectionOf.{direction_of, direction_unchecked}

abbrev f : ℕ → Float
f b = of_bits binary32 b

pub record ScaledCorners : Type 0 where
  -- "The marked case (2^-64, 0, 0) now gives (1, 0, 0)"; "`try_normalize` itself keeps its answers": of (2^-80, 0, 0), whose square vanishes, there is none
  pub short : direction_of (vec (f 0x1f800000) zer zer) ≡ Some X
  pub unscaled : try_normalize (vec (f 0x17800000) zer zer) ≡ None
  pub shorter : direction_of (vec (f 0x17800000) zer zer) ≡ Some X
  -- the largest size just below 1 and just below 2, by the powers 2 and 1
  pub below_one : scaled (vec (f 0x3f7fffff) zer zer) ≡ vec (f 0x3fffffff) zer zer
  pub below_two : scaled (vec zer (f 0xbfffffff) one) ≡ vec zer (f 0xbfffffff) one
  -- the smallest f32: the power 2^149 is no f32
  pub smallest : scaled (vec zer (f 1) zer) ≡ vec zer one zer
  -- 2^127, whose power 2^-127 is a subnormal f32, beside -2^-149, which vanishes and keeps its sign
  pub longest : scaled (vec (f 0x7f000000) (f 0x80000001) zer) ≡ vec one (f 0x80000000) zer
  -- "each exact product is rounded once": a little less than 3 times 2^-150 is 2^-149; by 2^-126 and then 2^-1 it would be 2^-148
  pub once : scaled (vec (f 0x7f000000) zer (f 0x34bfffff)) ≡ vec one zer (f 1)
  -- to even: 3 times 2^-149 and 2^-1 are 2 times 2^-149
  pub tie : scaled (vec (f 0x40000000) (f 3) zer) ≡ vec one (f 2) zer
  -- "exactly for three zeros .. for those or a number not finite"
  pub zeros : direction_of (vec zer (f 0x80000000) zer) ≡ None
  pub infinite : direction_of (vec one (inf true) zer) ≡ None
  -- without the test: the direction where there is one; NaNs of three zeros and of a NaN, and zeros beside an infinite component
  pub unchecked : direction_unchecked (vec (f 0x1f800000) zer zer) ≡ X
  pub unchecked_zeros : direction_unchecked (vec zer (f 0x80000000) zer) ≡ vec nan nan nan
  pub unchecked_nan : direction_unchecked (vec nan one (inf true)) ≡ vec nan nan nan
  pub unchecked_infinite : direction_unchecked (vec one (inf true) (f 0x80000001)) ≡ vec zer nan (f 0x80000000)
