-- Whole numbers by sign and size: their sums and products, and that both are told by the number. Assumes nothing.
use mathlib.Core.Path.{◌≡◌, refl, sym, ap, ◌∙◌}
use mathlib.Core.Bool.{Bool, true, false, not}
use mathlib.Core.List.{[], ◌∷◌}
use mathlib.Core.Logic.{◌⊎◌, inl, inr}
use Prim.Native.Nat.{ℕ, zero, suc, ◌+◌, ◌-◌, ◌*◌, ◌≤◌, ◌<◌}
use native.Mathlib.Omega.{arith}
use lib.IntN.{ℤ, pos, negsuc, neg_ℤ, nat_abs, ◌+ℤ◌, ◌*ℤ◌, pos-+ℤ-pos, pos-*ℤ-pos, neg_ℤ-+ℤ, pos-ne-negsuc}
use lib.Ieee.{unlike}
use Rattle.laws.specs.Exact.{signed}
use Rattle.laws.proofs.solvers.RingInt.{var, ◌⊕◌, ◌⊗◌, ⊖◌, ringℤ}

pub signed_mul : (s t : Bool) (a b : ℕ) → signed s a *ℤ signed t b ≡ signed (unlike s t) (a * b)
signed_mul true true a b = ringℤ (pos a ∷ pos b ∷ []) (⊖ var 0 ⊗ ⊖ var 1) (var 0 ⊗ var 1) refl ∙ pos-*ℤ-pos a b
signed_mul true false a b = ringℤ (pos a ∷ pos b ∷ []) (⊖ var 0 ⊗ var 1) (⊖ (var 0 ⊗ var 1)) refl ∙ ap neg_ℤ (pos-*ℤ-pos a b)
signed_mul false true a b = ringℤ (pos a ∷ pos b ∷ []) (var 0 ⊗ ⊖ var 1) (⊖ (var 0 ⊗ var 1)) refl ∙ ap neg_ℤ (pos-*ℤ-pos a b)
signed_mul false false a b = pos-*ℤ-pos a b

pub signed_add : (s : Bool) (a b : ℕ) → signed s a +ℤ signed s b ≡ signed s (a + b)
signed_add true a b = sym (neg_ℤ-+ℤ (pos a) (pos b)) ∙ ap neg_ℤ (pos-+ℤ-pos a b)
signed_add false a b = pos-+ℤ-pos a b

-- of two signs, that of the larger size
pub signed_sub : (s : Bool) (a b : ℕ) → b ≤ a → signed s a +ℤ signed (not s) b ≡ signed s (a - b)
signed_sub s a b h = ap (λ (n : ℕ). signed s n +ℤ signed (not s) b) (sym (back a b h)) ∙ cancel s (a - b)
  where
    back : (a b : ℕ) → b ≤ a → a - b + b ≡ a
    back a b h = omega arith

    cancel : (s : Bool) (c : ℕ) → signed s (c + b) +ℤ signed (not s) b ≡ signed s c
    cancel true c = ap (λ (x : ℤ). neg_ℤ x +ℤ pos b) (sym (pos-+ℤ-pos c b)) ∙ ringℤ (pos c ∷ pos b ∷ []) (⊖ (var 0 ⊕ var 1) ⊕ var 1) (⊖ var 0) refl
    cancel false c = ap (λ (x : ℤ). x +ℤ neg_ℤ (pos b)) (sym (pos-+ℤ-pos c b)) ∙ ringℤ (pos c ∷ pos b ∷ []) (var 0 ⊕ var 1 ⊕ ⊖ var 1) (var 0) refl

-- ---- sign and size are told by the number
pub size_of : (s : Bool) (n : ℕ) → nat_abs (signed s n) ≡ n
size_of true zero = refl
size_of true (suc n) = refl
size_of false n = refl

pub signed_unique : (s t : Bool) (n m : ℕ) → 0 < n → signed s n ≡ signed t m → (s ≡ t) × (n ≡ m)
signed_unique s t n m h e = (signs s t n m h e, sizes)
  where
    sizes : n ≡ m
    sizes = sym (size_of s n) ∙ ap nat_abs e ∙ size_of t m

    signs : (s t : Bool) (n m : ℕ) → 0 < n → signed s n ≡ signed t m → s ≡ t
    signs true true n m h e = refl
    signs false false n m h e = refl
    signs true false zero m h e = absurd (omega arith)
    signs true false (suc n) m h e = absurd (pos-ne-negsuc m n (sym e))
    signs false true zero m h e = absurd (omega arith)
    signs false true (suc n) zero h e = absurd (pos_suc n (ap nat_abs e))
      where
        pos_suc : (n : ℕ) → suc n ≡ 0 → ⊥
        pos_suc n e = omega arith
    signs false true (suc n) (suc m) h e = absurd (pos-ne-negsuc (suc n) m e)

-- ---- and each number but zero has them
pub zero_or_signed : (z : ℤ) → (z ≡ pos 0) ⊎ ((s : Bool) × (n : ℕ) × (0 < n) × (signed s n ≡ z))
zero_or_signed (pos zero) = inl refl
zero_or_signed (pos (suc n)) = inr (false, suc n, omega arith, refl)
zero_or_signed (negsuc n) = inr (true, suc n, omega arith, refl)
