-- A squared length is an f32 and not negative, of any vector. Assumes nothing.
use mathlib.Core.Path.{◌≡◌, refl, ◌∙◌}
use mathlib.Core.Bool.{true, false, true≢false}
use Prim.Native.Nat.{◌+◌, ◌*◌}
use native.Mathlib.Nat.{mul-pos}
use lib.Dec.{T}
use lib.Ieee.{Float, nan, inf, fin, Format, binary32, up, down, unlike, fits, sum, add, mul}
use lib.Ieee.Fits.{add-fits, down_pos}
use Rattle.laws.specs.Exact.{negative}
use Rattle.laws.proofs.operations.SumSigns.{unlike_self}
use Rattle.laws.proofs.rounding.RoundNearest.{round_nearest}
use Rattle.vector.specs.declared.vec3.Vec3.{Vec3}
use Rattle.vector.specs.Products.{dot, length_squared}

pub square_sign : (f : Format) (x : Float) → negative (mul f x x) ≡ false
unfolding mul negative
square_sign f nan = refl
square_sign f (inf s) = unlike_self s
square_sign f (fin s m e) = (round_nearest f (unlike s s) (m * up e * (m * up e)) (down e * down e) (mul-pos (down_pos e) (down_pos e))).sign ∙ unlike_self s

pub sum_sign : (f : Format) (x y : Float) → negative x ≡ false → negative y ≡ false → negative (add f x y) ≡ false
unfolding add sum negative
sum_sign f nan y p q = refl
sum_sign f (inf true) y p q = absurd (true≢false p)
sum_sign f (inf false) nan p q = refl
sum_sign f (inf false) (inf true) p q = refl
sum_sign f (inf false) (inf false) p q = refl
sum_sign f (inf false) (fin t n d) p q = refl
sum_sign f (fin true m e) y p q = absurd (true≢false p)
sum_sign f (fin false m e) nan p q = refl
sum_sign f (fin false m e) (inf t) p q = q
sum_sign f (fin false m e) (fin true n d) p q = absurd (true≢false q)
sum_sign f (fin false m e) (fin false n d) p q = (round_nearest f false (m * up e * down d + n * up d * down e) (down e * down d) (mul-pos (down_pos e) (down_pos d))).sign

pub squared_sign : (a : Vec3) → negative (length_squared a) ≡ false
unfolding length_squared dot
squared_sign a =
    sum_sign binary32 (add binary32 (mul binary32 a.x a.x) (mul binary32 a.y a.y)) (mul binary32 a.z a.z)
    (sum_sign binary32 (mul binary32 a.x a.x) (mul binary32 a.y a.y) (square_sign binary32 a.x) (square_sign binary32 a.y))
    (square_sign binary32 a.z)

pub squared_fits : (a : Vec3) → T (fits binary32 (length_squared a))
unfolding length_squared dot
squared_fits a = add-fits binary32 (add binary32 (mul binary32 a.x a.x) (mul binary32 a.y a.y)) (mul binary32 a.z a.z)
