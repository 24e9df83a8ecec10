-- What the functions of the one rounding and of the fused multiply-add promise each other.
use Rattle.std.specs.Prelude.{◌≡◌, Bool, Option, None, Some, ◌⊎◌, ℕ, ◌*◌, ◌%◌, ◌^◌, ◌≤◌, ◌<◌, Float}
use Rattle.std.specs.Int.Count.{count_leading_zeros}
use Rattle.std.specs.Float.{nan, inf, fin}
use Rattle.std.specs.Float.Ieee.Exact.{HasValue}
use Rattle.laws.specs.Sticky.{sticky}
use Rattle.scalar.specs.declared.fused.Factor.{Factor}

-- w is v shifted left to 64 bits, and then right by one with a sticky bit: normalized, in 63 bits
pub record Normalized (v w : ℕ) : Type 0 where
  pub zeros : count_leading_zeros 64 v < 64
  pub low : 2 ^ 63 ≤ v * 2 ^ count_leading_zeros 64 v
  pub high : v * 2 ^ count_leading_zeros 64 v < 2 ^ 64
  pub is : w ≡ sticky (v * 2 ^ count_leading_zeros 64 v) 2
  pub most : w < 2 ^ 63

-- a factor whose product with any other is exact: not a number, an infinity or a zero
abbrev pub Plain : Float → Type 0
Plain nan = Unit {0}
Plain (inf s) = Unit {0}
Plain (fin s m e) = m ≡ 0

-- x is ±m times 2 ^ (k - 172), m having 24 bits
pub record Normal (x : Float) (s : Bool) (m k : ℕ) : Type 0 where
  pub size : ℕ
  pub value : HasValue x s size (2 ^ 149)
  pub same : m * 2 ^ k ≡ size * 2 ^ 23
  pub low : 2 ^ 23 ≤ m
  pub high : m < 2 ^ 24
  pub range : k ≤ 276

abbrev pub Factored : Option Factor → Float → Type 0
Factored None x = Plain x
Factored (Some f) x = Normal x f.negative f.m f.k

-- Two terms of up to 62 bits, the last 14 of them zeros, so that a term loses bits only where it is shifted right by 15 or more. The one
-- that then is not shifted has 61 bits or more, or its exponent is so low that an f32's last bit lies two bits above its own.
pub record Terms (x i y j : ℕ) : Type 0 where
  pub x_low : 2 ^ 60 ≤ x
  pub x_high : x < 2 ^ 62
  pub x_zeros : x % 2 ^ 14 ≡ 0
  pub y_low : (2 ^ 60 ≤ y) ⊎ (j ≤ 275)
  pub y_high : y < 2 ^ 62
  pub y_zeros : y % 2 ^ 14 ≡ 0
