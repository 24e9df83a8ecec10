-- The marked corners of document 01 that concern vectors, and cases of document 02's b and c, computed from the definitions. f is the float of a bit pattern.
use Rattle.std.specs.Prelude.{◌≡◌, true, false, ℕ, Float}
use Rattle.std.specs.Float.{nan, inf, binary32}
use Rattle.std.specs.Float.Ieee.{of_bits, lt}
use Rattle.vector.specs.declared.vec3.Vec3.{Vec3}
use Rattle.vector.specs.Vectors.{vec, zer, one, ZERO, X, ONE}
use Rattle.vector.specs.Elements.{min, min_position}
use Rattle.vector.specs.Products.{length, length_and_exactness, distance_and_exactness}
use Rattle.vector.specs.Optics.{two, refract_k, refract}
use Rattle.vector.specs.Orthogonal.{any_orthogonal_vector, any_orthonormal_pair}
use Rattle.vector.specs.ScaledCorners.{ScaledCorners}

abbrev f : ℕ → Float
f b = of_bits binary32 b

-- all NaNs, and (0, 1, 0)
abbrev NAN : Vec3
NAN = vec nan nan nan

abbrev Y : Vec3
Y = vec zer one zer

pub record Corners : Type 0 where
  -- those of document 02's f
  pub scaling : ScaledCorners
  -- "`min`(NaN, 1) is 1; `min`(1, NaN) is NaN."
  pub min_of_nan : min NAN ONE ≡ ONE
  pub min_with_nan : min ONE NAN ≡ NAN
  -- "`min_position`: (2, 1, 1) gives 1; (NaN, 1, 0) gives 0."
  pub first_least : min_position (vec two one one) ≡ 1
  pub nan_first : min_position (vec nan one zer) ≡ 0
  -- "`any_orthogonal_vector`(1, 1, 2) is (0, 2, -1)."
  pub orthogonal : any_orthogonal_vector (vec one one two) ≡ vec zer two (f 0xbf800000)
  -- "24 on (0, 0, 1): (1, -0, -0) and (-0, 1, -0)", which the pair is before its directions are taken.
  pub pair :
      any_orthonormal_pair (vec zer zer one) ≡ record { first = vec one (f 0x80000000) (f 0x80000000); second = vec (f 0x80000000) one (f 0x80000000) }
  -- "23 with (1, 0, 0) and (0, 1, 0): u = 1 gives (1, 0, 0)", which `refract` gives before its direction is taken;
  pub along : refract X Y one ≡ X
  -- "u = 2 refusal 8": k is below zero.
  pub reflected : lt (refract_k X Y two) zer ≡ true
  -- document 02, b: "squares that vanish": (2^-75, 0, 0) has length 0, and its neighbour the root of 2^-149;
  pub vanished : length (vec (f 0x1a000000) zer zer) ≡ zer
  pub next_vanished : length (vec (f 0x1a000001) zer zer) ≡ f 0x1a3504f3
  -- squares that overflow, and "Infinities count": (2^64, 0, 0) is as long as (-infinity, 1, 1)
  pub overflowed : length (vec (f 0x5f800000) zer zer) ≡ inf false
  pub infinite : length (vec (f 0xff800000) one one) ≡ inf false
  -- document 02, c: (3, 4, 0) has the exact root 5, (1, 1, 0) none; from (4096, 1, 0) to the origin it is 4096, exactly, since "the sum of squares before it may have been rounded"
  pub whole : length_and_exactness (vec (f 0x40400000) (f 0x40800000) zer) ≡ record { root = f 0x40a00000; exact = true }
  pub not_whole : length_and_exactness (vec one one zer) ≡ record { root = f 0x3fb504f3; exact = false }
  pub sum_rounded : distance_and_exactness (vec (f 0x45800000) one zer) ZERO ≡ record { root = f 0x45800000; exact = true }
  -- "infinity, NaN .. have none"
  pub mark_of_infinity : length_and_exactness (vec (f 0x5f800000) zer zer) ≡ record { root = inf false; exact = false }
  pub mark_of_nan : length_and_exactness NAN ≡ record { root = nan; exact = false }
