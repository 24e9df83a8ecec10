-- The marked corners of document 01 that concern scalars, and cases of document 02's c, computed from the definitions. f is the float of a bit pattern.
use Rattle.std.specs.Prelude.{◌≡◌, true, false, ℕ, Float}
use Rattle.std.specs.Float.{binary32}
use Rattle.std.specs.Float.Ieee.{of_bits, add, mul}
use Rattle.scalar.specs.Root.{root}
use Rattle.scalar.specs.ExactRoot.{exact_root}
use Rattle.scalar.specs.Integral.{round_even}
use Rattle.scalar.specs.Euclid.{div_euclid, rem_euclid}
use Rattle.scalar.specs.Fused.{mul_add}

abbrev f : ℕ → Float
f b = of_bits binary32 b

pub record Corners : Type 0 where
  -- "Root of 25 is 5; of 2 is 0x3FB504F3; of -0 is -0."
  pub root_of_25 : root (f 0x41c80000) ≡ f 0x40a00000
  pub root_of_2 : root (f 0x40000000) ≡ f 0x3fb504f3
  pub root_of_minus_0 : root (f 0x80000000) ≡ f 0x80000000
  -- document 02, c: whether a root is exact; "Either zero has an exact root; infinity, NaN and anything below zero have none."
  pub exact_of_25 : exact_root (f 0x41c80000) ≡ true
  pub exact_of_2 : exact_root (f 0x40000000) ≡ false
  pub exact_of_0 : exact_root (f 0) ≡ true
  pub exact_of_minus_0 : exact_root (f 0x80000000) ≡ true
  pub exact_of_infinity : exact_root (f 0x7f800000) ≡ false
  pub exact_of_minus_infinity : exact_root (f 0xff800000) ≡ false
  pub exact_of_nan : exact_root (f 0x7fc00000) ≡ false
  pub exact_of_minus_25 : exact_root (f 0xc1c80000) ≡ false
  -- the square of a rounded root may round to the argument, and the root is not exact: of 2^-149, the least such, and of 3
  pub exact_of_least : exact_root (f 1) ≡ false
  pub square_of_least : mul binary32 (root (f 1)) (root (f 1)) ≡ f 1
  pub exact_of_3 : exact_root (f 0x40400000) ≡ false
  pub square_of_3 : mul binary32 (root (f 0x40400000)) (root (f 0x40400000)) ≡ f 0x40400000
  -- "`round` 0.5, 1.5, 2.5, -0.5: 0, 2, 2, -0."
  pub round_half : round_even (f 0x3f000000) ≡ f 0
  pub round_3_halves : round_even (f 0x3fc00000) ≡ f 0x40000000
  pub round_5_halves : round_even (f 0x40200000) ≡ f 0x40000000
  pub round_minus_half : round_even (f 0xbf000000) ≡ f 0x80000000
  -- "`rem_euclid`(-2^-30, 1) is 1, not less than 1; `div_euclid`(-7, 4) is -2."
  pub rem_euclid_tiny : rem_euclid (f 0xb0800000) (f 0x3f800000) ≡ f 0x3f800000
  pub div_euclid_negative : div_euclid (f 0xc0e00000) (f 0x40800000) ≡ f 0xc0000000
  -- "`mul_add`(1+2^-12, 1+2^-12, -(1+2^-11)) is 2^-24; two roundings give 0."
  pub rounded_once : mul_add (f 0x3f800800) (f 0x3f800800) (f 0xbf801000) ≡ f 0x33800000
  pub rounded_twice : add binary32 (mul binary32 (f 0x3f800800) (f 0x3f800800)) (f 0xbf801000) ≡ f 0
