-- Components by their index: what holds of three holds of each, and makes the vector. Assumes nothing.
use mathlib.Core.Path.{◌≡◌}
use mathlib.Core.Bool.{Bool, true, false, not, ◌||◌, true≢false}
use Prim.Native.Nat.{ℕ, zero, suc, ◌≤◌}
use native.Mathlib.Omega.{arith}
use lib.Dec.{T, lit≤}
use lib.Ieee.{is_nan}
use Rattle.vector.specs.declared.vec3.Vec3.{Vec3}
use Rattle.vector.specs.Indexed.{indexed, component}
use Rattle.vector.specs.Vectors.{vec}
use Rattle.vector.specs.Comparisons as Comparisons
use Rattle.vector.specs.ElementsMeaning.{at}

-- for each index
pub by_index : (P : ℕ → Type 0) → P 0 → P 1 → P 2 → (i : ℕ) → i ≤ 2 → P i
by_index P x y z zero h = x
by_index P x y z (suc zero) h = y
by_index P x y z (suc (suc zero)) h = z
by_index P x y z (suc (suc (suc i))) h = absurd (omega arith)

-- equal components make equal vectors
pub same_vector : (a b : Vec3) → ((i : ℕ) → i ≤ 2 → at a i ≡ at b i) → a ≡ b
unfolding component indexed
same_vector a b e = λ k. vec (e 0 (lit≤ tt) k) (e 1 (lit≤ tt) k) (e 2 (lit≤ tt) k)

-- without NaNs each component is a number
pub number_at : (a : Vec3) → Comparisons.is_nan a ≡ false → (i : ℕ) → i ≤ 2 → T (not (is_nan (at a i)))
unfolding component indexed Comparisons.is_nan
number_at a e = by_index (λ (i : ℕ). T (not (is_nan (at a i)))) n.0 n.1.0 n.1.1
  where
    none : (p q r : Bool) → p || q || r ≡ false → T (not p) × (T (not q) × T (not r))
    none false false false e = (tt, (tt, tt))
    none false false true e = absurd (true≢false e)
    none false true r e = absurd (true≢false e)
    none true q r e = absurd (true≢false e)

    n : T (not (is_nan a.x)) × (T (not (is_nan a.y)) × T (not (is_nan a.z)))
    n = none (is_nan a.x) (is_nan a.y) (is_nan a.z) e
