-- The whole root: squares keep their order, and the definition's root, found a bit at a time, is the largest whose square fits.
-- Assumes nothing.
use mathlib.Core.Path.{◌≡◌, refl}
use mathlib.Core.Bool.{Bool, true, false, not, cond}
use mathlib.Core.List.{[], ◌∷◌}
use Prim.Native.Nat.{ℕ, zero, suc, ◌+◌, ◌*◌, ◌/◌, ◌^◌, ◌≤◌, ◌<◌}
use native.Mathlib.Nat.{le_of_eq, le_antisymm, lt_of_lt_of_le, lt_of_le_of_lt, lt_of_not-le, not-le_of_lt, mul-le-mul, div-lt_iff_lt-mul, pow-suc}
use native.Mathlib.Omega.{arith}
use lib.Dec.{T, leb, leb→le, nleb→lt, lit<}
use Rattle.laws.proofs.solvers.Ring.{var, lit, ◌⊕◌, ◌⊗◌}
use Rattle.laws.proofs.solvers.RingNat.{ring}
use Rattle.laws.specs.WholeRoot.{WholeRoot, grown, whole_root}

-- ---- squares in order
pub square_lt : (x y : ℕ) → x * x < y * y → x < y
square_lt x y h = lt_of_not-le (λ (g : y ≤ x). not-le_of_lt h (mul-le-mul g g))

pub le_of_lt_next : (x y : ℕ) → x < y + 1 → x ≤ y
le_of_lt_next x y h = omega arith

pub square_le : (x y : ℕ) → x * x ≤ y * y → x ≤ y
square_le x y h = le_of_lt_next x y (square_lt x (y + 1) (omega arith))

pub root_lt : (n r b : ℕ) → WholeRoot n r → n < b * b → r < b
root_lt n r b w h = square_lt r b (lt_of_le_of_lt w.below h)

pub root_le : (n r b : ℕ) → WholeRoot n r → n < (b + 1) * (b + 1) → r ≤ b
root_le n r b w h = le_of_lt_next r b (root_lt n r (b + 1) w h)

pub root_ge : (n r b : ℕ) → WholeRoot n r → b * b ≤ n → b ≤ r
root_ge n r b w h = le_of_lt_next b r (square_lt b (r + 1) (lt_of_le_of_lt h w.above))

pub root_unique : (n r s : ℕ) → WholeRoot n r → WholeRoot n s → r ≡ s
root_unique n r s v w = le_antisymm (root_le n r s v w.above) (root_le n s r w v.above)

pub next_square : (r : ℕ) → (r + 1) * (r + 1) ≡ r * r + 2 * r + 1
next_square r = ring (r ∷ []) ((var 0 ⊕ lit 1) ⊗ (var 0 ⊕ lit 1)) (var 0 ⊗ var 0 ⊕ lit 2 ⊗ var 0 ⊕ lit 1) refl

pub square_mono : (x y : ℕ) → x < y → x * x < y * y
square_mono x y h = omega (arith, mul-le-mul (next h) (next h), next_square x)
  where
    next : {x y : ℕ} → x < y → x + 1 ≤ y
    next h = omega arith

pub odd_square : (r : ℕ) → (2 * r + 1) * (2 * r + 1) ≡ 4 * (r * r) + 4 * r + 1
odd_square r = ring (r ∷ []) ((lit 2 ⊗ var 0 ⊕ lit 1) ⊗ (lit 2 ⊗ var 0 ⊕ lit 1)) (lit 4 ⊗ (var 0 ⊗ var 0) ⊕ lit 4 ⊗ var 0 ⊕ lit 1) refl

-- ---- one more bit of the root
pub even_square : (r : ℕ) → 2 * r * (2 * r) ≡ 4 * (r * r)
even_square r = ring (r ∷ []) (lit 2 ⊗ var 0 ⊗ (lit 2 ⊗ var 0)) (lit 4 ⊗ (var 0 ⊗ var 0)) refl

pub bit_one : (n r : ℕ) → WholeRoot (n / 4) r → (2 * r + 1) * (2 * r + 1) ≤ n → WholeRoot n (2 * r + 1)
bit_one n r w h = record { below = h; above = omega (arith, w.above, even_square (r + 1), twice r) }
  where
    twice : (r : ℕ) → (2 * r + 1 + 1) * (2 * r + 1 + 1) ≡ 2 * (r + 1) * (2 * (r + 1))
    twice r = ring (r ∷ []) ((lit 2 ⊗ var 0 ⊕ lit 1 ⊕ lit 1) ⊗ (lit 2 ⊗ var 0 ⊕ lit 1 ⊕ lit 1)) (lit 2 ⊗ (var 0 ⊕ lit 1) ⊗ (lit 2 ⊗ (var 0 ⊕ lit 1))) refl

pub bit_zero : (n r : ℕ) → WholeRoot (n / 4) r → n < (2 * r + 1) * (2 * r + 1) → WholeRoot n (2 * r)
bit_zero n r w h = record { below = omega (arith, w.below, even_square r); above = h }

pub grown_is : (n r : ℕ) → WholeRoot (n / 4) r → WholeRoot n (grown (2 * r) n)
grown_is n r w = go (leb ((2 * r + 1) * (2 * r + 1)) n) (leb→le ((2 * r + 1) * (2 * r + 1)) n) (nleb→lt ((2 * r + 1) * (2 * r + 1)) n)
  where
    go : (b : Bool) → (T b → (2 * r + 1) * (2 * r + 1) ≤ n) → (T (not b) → n < (2 * r + 1) * (2 * r + 1)) → WholeRoot n (cond b (2 * r + 1) (2 * r))
    go true x y = bit_one n r w (x tt)
    go false x y = bit_zero n r w (y tt)

-- ---- the definition's whole root is one
pub whole_root_is : (k n : ℕ) → n < 4 ^ k → WholeRoot n (whole_root k n)
unfolding whole_root
whole_root_is zero n h = record { below = omega arith; above = h }
whole_root_is (suc k) n h =
    grown_is n (whole_root k (n / 4)) (whole_root_is k (n / 4) ((div-lt_iff_lt-mul (lit< tt)).1 (lt_of_lt_of_le h (le_of_eq (pow-suc 4 k)))))
