-- The kit's `sum` is the exact sum of two signed fractions, rounded once; a sum of zero is -0 where both terms are negative, else +0. Assumes nothing.
use mathlib.Core.Path.{◌≡◌, refl, sym, ap, ap₂, ◌∙◌, subst}
use mathlib.Core.Bool.{Bool, true, false, not, ◌&&◌, cond}
use Prim.Native.Nat.{ℕ, zero, suc, ◌+◌, ◌-◌, ◌<◌, ◌≤◌}
use native.Mathlib.Nat.{le_of_lt}
use native.Mathlib.Omega.{arith}
use lib.Dec.{T, ltb, ltb→lt, nltb→le}
use lib.IntN.{ℤ, pos, ◌+ℤ◌, +ℤ_comm}
use lib.Ieee.{Float, Format, round, sum}
use Rattle.laws.specs.Exact.{signed}
use Rattle.laws.proofs.numbers.BoolLaws.{and_true, and_false}
use Rattle.laws.proofs.numbers.SignedLaws.{signed_add, signed_sub, signed_unique}

-- the rounded value of a sign and a size that make the number z; for zero of the sign o
abbrev Rounds : Format → ℕ → Bool → ℤ → Float → Type 0
Rounds f c o z r = ((u : Bool) (n : ℕ) → 0 < n → signed u n ≡ z → r ≡ round f u n c) × (z ≡ pos 0 → r ≡ round f o 0 c)

module _ (f : Format) (c : ℕ) where
  rounds : (o s : Bool) (n : ℕ) → 0 < n → Rounds f c o (signed s n) (round f s n c)
  rounds o s n h = (some, λ e. absurd (lt_zero (signed_unique s false n 0 h e).1))
    where
      lt_zero : n ≡ 0 → ⊥
      lt_zero e = omega arith

      some : (u : Bool) (m : ℕ) → 0 < m → signed u m ≡ signed s n → round f s n c ≡ round f u m c
      some u m k e = let p = signed_unique u s m n k e in ap₂ (λ (b : Bool) (i : ℕ). round f b i c) (sym p.0) (sym p.1)

  rounds_zero : (o : Bool) → Rounds f c o (pos 0) (round f o 0 c)
  rounds_zero o = ((λ u n h e. absurd (lt_zero n h (signed_unique u false n 0 h e).1)), λ e. refl)
    where
      lt_zero : (n : ℕ) → 0 < n → n ≡ 0 → ⊥
      lt_zero n h e = omega arith

  like : (o s : Bool) (n : ℕ) → o ≡ s → Rounds f c o (signed s n) (round f s n c)
  like o s zero e = subst (λ (z : ℤ). Rounds f c o z (round f s 0 c)) (none s) (subst (λ (b : Bool). Rounds f c o (pos 0) (round f b 0 c)) e (rounds_zero o))
    where
      none : (s : Bool) → pos 0 ≡ signed s 0
      none true = refl
      none false = refl
  like o s (suc n) e = rounds o s (suc n) (omega arith)

  -- one sign and the other
  unlike_signs : (s : Bool) (a b : ℕ)
      → Rounds f c false (signed s a +ℤ signed (not s) b) (cond (ltb a b) (round f (not s) (b - a) c) (round f (s && ltb b a) (a - b) c))
  unlike_signs s a b = go (ltb a b) (ltb b a) (ltb→lt a b) (nltb→le a b) (ltb→lt b a) (nltb→le b a)
    where
      twice : (s : Bool) → not (not s) ≡ s
      twice true = refl
      twice false = refl

      level : (a b : ℕ) → b ≤ a → a ≤ b → a - b ≡ 0
      level a b h k = omega arith

      above : (a b : ℕ) → a < b → 0 < b - a
      above a b h = omega arith

      turned : a ≤ b → signed s a +ℤ signed (not s) b ≡ signed (not s) (b - a)
      turned h = +ℤ_comm (signed s a) (signed (not s) b) ∙ ap (λ (t : Bool). signed (not s) b +ℤ signed t a) (sym (twice s)) ∙ signed_sub (not s) b a h

      Goal : Bool → Bool → Type 0
      Goal p q = Rounds f c false (signed s a +ℤ signed (not s) b) (cond p (round f (not s) (b - a) c) (round f (s && q) (a - b) c))

      go : (p q : Bool) → (T p → a < b) → (T (not p) → b ≤ a) → (T q → b < a) → (T (not q) → a ≤ b) → Goal p q
      go true q h k l m = subst (λ (z : ℤ). Rounds f c false z (round f (not s) (b - a) c)) (sym (turned (le_of_lt (h tt)))) (rounds false (not s) (b - a) (above a b (h tt)))
      go false true h k l m =
          subst (λ (t : Bool). Rounds f c false (signed s a +ℤ signed (not s) b) (round f t (a - b) c)) (sym (and_true s))
          (subst (λ (z : ℤ). Rounds f c false z (round f s (a - b) c)) (sym (signed_sub s a b (k tt))) (rounds false s (a - b) (above b a (l tt))))
      go false false h k l m =
          subst (λ (t : Bool). Rounds f c false (signed s a +ℤ signed (not s) b) (round f t (a - b) c)) (sym (and_false s))
          (subst (λ (n : ℕ). Rounds f c false (signed s a +ℤ signed (not s) b) (round f false n c)) (sym (level a b (k tt) (m tt)))
          (subst (λ (z : ℤ). Rounds f c false z (round f false 0 c)) (sym (signed_sub s a b (k tt) ∙ zero_of s (level a b (k tt) (m tt)))) (rounds_zero false)))
        where
          zero_of : (s : Bool) → a - b ≡ 0 → signed s (a - b) ≡ pos 0
          zero_of true e = ap (signed true) e
          zero_of false e = ap (signed false) e

  sum_exact : (s t : Bool) (a b : ℕ) → Rounds f c (s && t) (signed s a +ℤ signed t b) (sum f s a t b c)
  unfolding sum
  sum_exact true true a b = subst (λ (z : ℤ). Rounds f c true z (round f true (a + b) c)) (sym (signed_add true a b)) (like true true (a + b) refl)
  sum_exact false false a b = subst (λ (z : ℤ). Rounds f c false z (round f false (a + b) c)) (sym (signed_add false a b)) (like false false (a + b) refl)
  sum_exact true false a b = unlike_signs true a b
  sum_exact false true a b = unlike_signs false a b

-- ±a / c + ±b / c is ±n / c, rounded
pub sum_some : (f : Format) (c : ℕ) (s t : Bool) (a b : ℕ) (u : Bool) (n : ℕ) → 0 < n → signed u n ≡ signed s a +ℤ signed t b → sum f s a t b c ≡ round f u n c
sum_some f c s t a b u n h e = (sum_exact f c s t a b).0 u n h e

-- or nothing
pub sum_none : (f : Format) (c : ℕ) (s t : Bool) (a b : ℕ) → signed s a +ℤ signed t b ≡ pos 0 → sum f s a t b c ≡ round f (s && t) 0 c
sum_none f c s t a b e = (sum_exact f c s t a b).1 e
