-- What `compare` says of two numbers, as a fact. Assumes nothing.
use mathlib.Core.Path.{◌≡◌, refl, subst}
use mathlib.Core.Bool.{not}
use mathlib.Core.Logic.{◌⊎◌, inl, inr}
use Prim.Native.Nat.{ℕ, ◌≤◌, ◌<◌, compare, Ordering}
use native.Mathlib.Omega.{arith}
use lib.Dec.{T, is_le, compare_is_eq, leb→le, nleb→lt, eqb→eq, eqb, eqb_refl}
use lib.Arith.{lt_of_le-ne}

abbrev pub Cmp : Ordering → ℕ → ℕ → Type 0
Cmp Ordering.lt a b = a < b
Cmp Ordering.eq a b = a ≡ b
Cmp Ordering.gt a b = b < a

pub cmp : (a b : ℕ) → Cmp (compare a b) a b
cmp a b = go (compare a b) (leb→le a b) (nleb→lt a b) (eqb→eq a b) (λ (e : a ≡ b). subst (λ (x : ℕ). T (eqb a x)) e (eqb_refl a))
  where
    go : (o : Ordering) → (T (is_le o) → a ≤ b) → (T (not (is_le o)) → b < a) → (T (compare_is_eq o) → a ≡ b) → (a ≡ b → T (compare_is_eq o)) → Cmp o a b
    go Ordering.lt h k e n = lt_of_le-ne (h tt) n
    go Ordering.eq h k e n = e tt
    go Ordering.gt h k e n = k tt

-- two comparisons with the same outcome
same_order : (a b a' b' : ℕ) (o o' : Ordering) → Cmp o a b → Cmp o' a' b' → (a < b → a' < b') → (a ≡ b → a' ≡ b') → (b < a → b' < a') → o ≡ o'
same_order a b a' b' Ordering.lt Ordering.lt p q f g h = refl
same_order a b a' b' Ordering.lt Ordering.eq p q f g h = let z = f p in absurd (omega arith)
same_order a b a' b' Ordering.lt Ordering.gt p q f g h = let z = f p in absurd (omega arith)
same_order a b a' b' Ordering.eq Ordering.lt p q f g h = let z = g p in absurd (omega arith)
same_order a b a' b' Ordering.eq Ordering.eq p q f g h = refl
same_order a b a' b' Ordering.eq Ordering.gt p q f g h = let z = g p in absurd (omega arith)
same_order a b a' b' Ordering.gt Ordering.lt p q f g h = let z = h p in absurd (omega arith)
same_order a b a' b' Ordering.gt Ordering.eq p q f g h = let z = h p in absurd (omega arith)
same_order a b a' b' Ordering.gt Ordering.gt p q f g h = refl

pub same_compare : (a b a' b' : ℕ) → (a < b → a' < b') → (a ≡ b → a' ≡ b') → (b < a → b' < a') → compare a b ≡ compare a' b'
same_compare a b a' b' f g h = same_order a b a' b' (compare a b) (compare a' b') (cmp a b) (cmp a' b') f g h

-- two numbers are equal or not
pub equal_or_not : (a b : ℕ) → (a ≡ b) ⊎ (a ≡ b → ⊥)
equal_or_not a b = go (compare a b) (cmp a b)
  where
    go : (o : Ordering) → Cmp o a b → (a ≡ b) ⊎ (a ≡ b → ⊥)
    go Ordering.lt h = inr (λ (e : a ≡ b). omega arith)
    go Ordering.eq h = inl h
    go Ordering.gt h = inr (λ (e : a ≡ b). omega arith)
