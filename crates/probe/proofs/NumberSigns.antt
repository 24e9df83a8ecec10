-- Where no argument is a NaN, the sign functions on numbers give what those on bit patterns give. The values x, y, v, w are those of the patterns, m and n say
-- whether they have a NaN, and r is what the function gives. Assumes nothing.
use mathlib.Core.Path.{◌≡◌, sym, subst}
use mathlib.Core.Bool.{Bool, true, false, not, ◌||◌, true≢false}
use Prim.Native.Nat.{ℕ}
use lib.Dec.{T}
use lib.Ieee.{Float, binary32, of_bits, is_nan}
use Rattle.laws.specs.Exact.{negative}
use Rattle.scalar.specs.Sign as Sign
use Rattle.scalar.specs.Sign.{sign_bit}
use Rattle.scalar.proofs.floats.BitSignLaws.{sign_of_bits, copysign_of_bits}
use Rattle.vector.specs.declared.vec3.Vec3.{Vec3}
use Rattle.vector.specs.Comparisons as Comparisons
use Rattle.vector.specs.Signs as Signs
use Rattle.vector.specs.Signs.{of_patterns, is_negative_bitmask, is_negative_bitmask_bits}
use Rattle.vector.proofs.meanings.SignsLaws.{bitmask_of_patterns, copysign_of_patterns}

number : (x : Float) → is_nan x ≡ false → T (not (is_nan x))
number x e = subst (λ (b : Bool). T (not b)) (sym e) tt

second : (m n : Bool) → (m || n) ≡ false → n ≡ false
second true n e = absurd (true≢false e)
second false n e = e

pub sign_of_number : {x : Float} {n r : Bool} (a : ℕ) → x ≡ of_bits binary32 a → n ≡ is_nan x → n ≡ false → r ≡ negative x → r ≡ sign_bit a
sign_of_number a e p h k = let q : is_nan (of_bits binary32 a) ≡ false = cc in cc (sign_of_bits a (number (of_bits binary32 a) q))

pub copysign_of_numbers : {x y r : Float} {m n : Bool} (a b : ℕ) → x ≡ of_bits binary32 a → y ≡ of_bits binary32 b → m ≡ is_nan x → n ≡ is_nan y → (m || n) ≡ false
    → r ≡ Sign.copysign x y → r ≡ of_bits binary32 (Sign.copysign_bits a b)
copysign_of_numbers {m} {n} a b e f o p h k =
    let s : n ≡ false = second m n h in
    let q : is_nan (of_bits binary32 b) ≡ false = cc in
    cc (copysign_of_bits a b (number (of_bits binary32 b) q))

pub bitmask_of_numbers : {v : Vec3} {n : Bool} {r : ℕ} (x y z : ℕ) → v ≡ of_patterns x y z → n ≡ Comparisons.is_nan v → n ≡ false → r ≡ is_negative_bitmask v → r ≡ is_negative_bitmask_bits x y z
bitmask_of_numbers x y z e p h k = let q : Comparisons.is_nan (of_patterns x y z) ≡ false = cc in cc (bitmask_of_patterns x y z q)

pub copysign_of_vectors : {v w r : Vec3} {m n : Bool} (x y z a b c : ℕ) → v ≡ of_patterns x y z → w ≡ of_patterns a b c → m ≡ Comparisons.is_nan v → n ≡ Comparisons.is_nan w → (m || n) ≡ false
    → r ≡ Signs.copysign v w → r ≡ Signs.copysign_bits x y z a b c
copysign_of_vectors {m} {n} x y z a b c e f o p h k =
    let s : n ≡ false = second m n h in
    let q : Comparisons.is_nan (of_patterns a b c) ≡ false = cc in
    cc (copysign_of_patterns x y z a b c q)
