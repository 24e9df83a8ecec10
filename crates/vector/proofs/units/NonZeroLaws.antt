-- The squared length of a finite vector is a number, maybe infinite, and above zero where it is not zero. Assumes nothing.
use mathlib.Core.Path.{◌≡◌, subst, sym}
use mathlib.Core.Bool.{Bool, true, false, not, ◌||◌, true≢false}
use Prim.Native.Nat.{ℕ, zero, suc, ◌*◌}
use native.Mathlib.Nat.{zero-mul}
use native.Mathlib.Omega.{arith}
use lib.Dec.{T, lt→ltb}
use lib.Ieee.{Float, nan, inf, fin, up, down, is_nan, level, below, eq, lt, of_bits}
use Rattle.laws.specs.Exact.{negative}
use Rattle.laws.proofs.values.FiniteLaws.{finite_number}
use Rattle.vector.specs.declared.vec3.Vec3.{Vec3}
use Rattle.vector.specs.Vectors.{zer}
use Rattle.vector.specs.Products.{length_squared}
use Rattle.vector.specs.ExactVectors.{FiniteVec}
use Rattle.vector.specs.Asserts.{non_zero}
use Rattle.vector.specs.AssertLaws.{zero_length}
use Rattle.vector.proofs.errors.SquaredLengthLaws.{squared_sign}
use Rattle.vector.proofs.scaling.UncheckedLaws.{squared_nan}

squared_number : (a : Vec3) → FiniteVec a → T (not (is_nan (length_squared a)))
squared_number a h = subst (λ (b : Bool). T (not b)) (sym (squared_nan a)) (none _ _ _ (finite_number a.x h.finite_x) (finite_number a.y h.finite_y) (finite_number a.z h.finite_z))
  where
    none : (p q r : Bool) → T (not p) → T (not q) → T (not r) → T (not (p || q || r))
    none true q r x y z = x
    none false true r x y z = y
    none false false r x y z = z

above_zero : (n : ℕ) → T (not (level false n false 0)) → T (below false 0 false n)
above_zero zero h = absurd h
above_zero (suc n) h = lt→ltb 0 (suc n) (omega arith)

number_above : (l : Float) → negative l ≡ false → T (not (is_nan l)) → T (not (eq l zer)) → T (lt zer l)
unfolding negative is_nan eq lt of_bits
number_above nan p i h = absurd i
number_above (inf true) p i h = absurd (true≢false p)
number_above (inf false) p i h = tt
number_above (fin true m e) p i h = absurd (true≢false p)
number_above (fin false m e) p i h =
    subst (λ (z : ℕ). T (not (level false (m * up e * 1) false z)) → T (below false z false (m * up e * 1))) (sym (zero-mul (down e))) (above_zero (m * up e * 1)) h

pub non_zero_lem : (a : Vec3) → FiniteVec a → T (not (zero_length a)) → T (non_zero a)
unfolding non_zero
non_zero_lem a f h = number_above (length_squared a) (squared_sign a) (squared_number a f) h
