-- The scalar functions give values of binary32. Assumes nothing.
use mathlib.Core.Bool.{Bool, ◌&&◌, beq}
use Prim.Native.Nat.{ℕ, ◌+◌, ◌-◌, ◌*◌}
use lib.Dec.{T, ltb}
use lib.Ieee.{Float, nan, inf, fin, binary32, up, down, unlike, fits, sum, mul, div, rem, lt}
use lib.Ieee.Fits.{round-fits, cond-fits, nan-fits, inf-fits, add-fits, sub-fits, rem-fits}
use Rattle.scalar.specs.Sign.{abs, one}
use Rattle.scalar.specs.Fused.{fused_multiply_add}
use Rattle.scalar.specs.Integral.{integral, trunc}
use Rattle.scalar.specs.Euclid.{zer, div_euclid, rem_euclid}

abbrev pub Fits32 : Float → Type 0
Fits32 x = T (fits binary32 x)

sum_fits : (s : Bool) (a : ℕ) (t : Bool) (b c : ℕ) → Fits32 (sum binary32 s a t b c)
unfolding sum
sum_fits s a t b c =
    cond-fits binary32 (beq s t) _ _ (round-fits binary32 s (a + b) c)
    (cond-fits binary32 (ltb a b) _ _ (round-fits binary32 t (b - a) c) (round-fits binary32 (s && ltb b a) (a - b) c))

pub fused_fits : (x y z : Float) → Fits32 (fused_multiply_add x y z)
unfolding fused_multiply_add
fused_fits nan y z = nan-fits binary32
fused_fits (inf s) y z = add-fits binary32 (mul binary32 (inf s) y) z
fused_fits (fin s m e) nan z = nan-fits binary32
fused_fits (fin s m e) (inf t) z = add-fits binary32 (mul binary32 (fin s m e) (inf t)) z
fused_fits (fin s m e) (fin t n d) nan = nan-fits binary32
fused_fits (fin s m e) (fin t n d) (inf u) = inf-fits binary32 u
fused_fits (fin s m e) (fin t n d) (fin u k g) = sum_fits (unlike s t) (m * up e * (n * up d) * down g) u (k * up g * (down e * down d)) (down e * down d * down g)

pub integral_fits : (by : Bool → ℕ → ℕ → ℕ) (x : Float) → Fits32 (integral by x)
unfolding integral
integral_fits by nan = nan-fits binary32
integral_fits by (inf s) = inf-fits binary32 s
integral_fits by (fin s m e) = round-fits binary32 s (by s (m * up e) (down e)) 1

pub div_euclid_fits : (x y : Float) → Fits32 (div_euclid x y)
unfolding div_euclid
div_euclid_fits x y =
    let q = trunc (div binary32 x y) in
    cond-fits binary32 (lt (rem binary32 x y) zer) _ q
    (cond-fits binary32 (lt zer y) _ _ (sub-fits binary32 q one) (add-fits binary32 q one))
    (integral_fits _ (div binary32 x y))

pub rem_euclid_fits : (x y : Float) → Fits32 x → Fits32 (rem_euclid x y)
unfolding rem_euclid
rem_euclid_fits x y p =
    let r = rem binary32 x y in
    cond-fits binary32 (lt r zer) _ r (add-fits binary32 r (abs y)) (rem-fits binary32 x y p)
