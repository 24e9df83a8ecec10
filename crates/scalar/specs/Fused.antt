-- The fused multiply-add (document 01, "Scalars": "a times b plus c rounded once").
use Rattle.std.specs.Prelude.{ℕ, ◌*◌, Bool, ℤ, Float}
use Rattle.std.specs.Float.{nan, inf, fin, binary32}
use Rattle.std.specs.Float.Ieee.{up, down, unlike, sum, add, mul}

-- ±m 2^e times ±n 2^d plus ±k 2^g: the exact fractions over one denominator, added and rounded once. A sum of zero has IEEE 754's sign.
abbrev pub fused : Bool → ℕ → ℤ → Bool → ℕ → ℤ → Bool → ℕ → ℤ → Float
fused s m e t n d u k g =
    sum binary32 (unlike s t) (m * up e * (n * up d) * down g) u (k * up g * (down e * down d)) (down e * down d * down g)

-- IEEE 754's fusedMultiplyAdd. Where a factor is not finite the product is exact, so that the two operations round as one; so does an infinite c.
unfoldable pub fused_multiply_add : Float → Float → Float → Float
fused_multiply_add nan b c = nan
fused_multiply_add (inf s) b c = add binary32 (mul binary32 (inf s) b) c
fused_multiply_add (fin s m e) nan c = nan
fused_multiply_add (fin s m e) (inf t) c = add binary32 (mul binary32 (fin s m e) (inf t)) c
fused_multiply_add (fin s m e) (fin t n d) nan = nan
fused_multiply_add (fin s m e) (fin t n d) (inf u) = inf u
fused_multiply_add (fin s m e) (fin t n d) (fin u k g) = fused s m e t n d u k g

-- `mul_add(a, b, c)`: a times b plus c
abbrev pub mul_add : Float → Float → Float → Float
mul_add a b c = fused_multiply_add a b c
