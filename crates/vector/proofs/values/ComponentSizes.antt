-- The sizes of a vector's components whose squared length is near 1, in whole numbers: 1 is d, a rounding's error is e. Assumes nothing.
use mathlib.Core.List.{[], ◌∷◌}
use Prim.Native.Nat.{ℕ, ◌+◌, ◌*◌, ◌≤◌}
use native.Mathlib.Nat.{le_trans}
use native.Mathlib.Omega.{arith}
use Rattle.laws.proofs.solvers.Ring.{var, lit, ◌⊕◌, ◌⊗◌}
use Rattle.laws.proofs.solvers.Certificates.{ring≤, cert, by, done, square}
use Rattle.laws.proofs.numbers.WholeRootLaws.{square_le}

-- a square of at most 1 + 64 e has a root of at most 1 + 32 e
pub size_le : (d e x : ℕ) → x * x ≤ d * d + 64 * (e * d) → x ≤ d + 32 * e
size_le d e x h =
    square_le x (d + 32 * e)
    (le_trans h (ring≤ (d ∷ e ∷ []) (var 0 ⊗ var 0 ⊕ lit 64 ⊗ (var 1 ⊗ var 0)) ((var 0 ⊕ lit 32 ⊗ var 1) ⊗ (var 0 ⊕ lit 32 ⊗ var 1)) tt))

pub twice_product : (x y : ℕ) → 2 * (x * y) ≤ x * x + y * y
twice_product x y = cert (x ∷ y ∷ []) (lit 2 ⊗ (var 0 ⊗ var 1)) (var 0 ⊗ var 0 ⊕ var 1 ⊗ var 1) (by (lit 1) (var 0 ⊗ var 1 ⊕ var 1 ⊗ var 0) (var 0 ⊗ var 0 ⊕ var 1 ⊗ var 1) (square x y) done) tt

-- each of three numbers is at most their sum, and so are the first two
pub parts_of : (a b c s : ℕ) → a + b + c ≤ s → (a ≤ s) × ((b ≤ s) × ((c ≤ s) × (a + b ≤ s)))
parts_of a b c s h = (omega arith, (omega arith, (omega arith, omega arith)))
