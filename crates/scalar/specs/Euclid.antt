-- Division with a remainder (document 01, "Scalars": "`%` is the exact remainder of the quotient cut toward zero, with the dividend's
-- sign"; "`div_euclid`, `rem_euclid` .. run the operations of src/f32/math.rs in its order").
use Rattle.std.specs.Prelude.{cond, Float}
use Rattle.std.specs.Float.{binary32}
use Rattle.std.specs.Float.Ieee.{of_bits, add, sub, div, rem, lt}
use Rattle.scalar.specs.Sign.{abs, one}
use Rattle.scalar.specs.Integral.{trunc}

abbrev pub zer : Float
zer = of_bits binary32 0

-- a % b
abbrev pub remainder : Float → Float → Float
remainder a b = rem binary32 a b

-- let q = trunc(a / b); if a % b < 0.0 { return if b > 0.0 { q - 1.0 } else { q + 1.0 }; } q
unfoldable pub div_euclid : Float → Float → Float
div_euclid a b =
    let q = trunc (div binary32 a b) in
    cond (lt (remainder a b) zer) (cond (lt zer b) (sub binary32 q one) (add binary32 q one)) q

-- let r = a % b; if r < 0.0 { r + abs(b) } else { r }
unfoldable pub rem_euclid : Float → Float → Float
rem_euclid a b =
    let r = remainder a b in
    cond (lt r zer) (add binary32 r (abs b)) r
