-- Comparisons of finite values are those of their signs and sizes, over any common denominator c. Assumes nothing.
use mathlib.Core.Path.{◌≡◌, refl, sym, ap, ap₂, ◌∙◌, subst}
use mathlib.Core.Logic.{◌⊎◌, inl, inr}
use mathlib.Core.Bool.{Bool, true, false, not, beq, ◌&&◌, ◌||◌}
use Prim.Native.Nat.{ℕ, ◌+◌, ◌*◌, ◌≤◌, ◌<◌}
use native.Mathlib.Nat.{le_of_eq, le_of_lt, not-le_of_lt, mul-le-mul_right, zero-mul, add-mul, mul_comm, mul_assoc, mul_right_comm, mul-pos, eq_of_mul-eq-mul_right}
use native.Mathlib.Omega.{arith}
use lib.Dec.{T, ltb, eqb, ltb→lt, nltb→le, lt→ltb, eqb→eq, not_T}
use lib.Ieee.{Float, nan, inf, fin, up, down, below, level, lt, eq, le}
use lib.Ieee.Fits.{down_pos, and_l, and_r, eq→eqb}
use lib.Ieee.Exact.{HasValue}
use lib.Ieee.Order.{le_of_values}
use Rattle.laws.proofs.operations.SumSame.{order_scale}
use Rattle.laws.proofs.operations.RoundedOperations.{minus}

-- two tests that pass together are one
pub same_bool : (p q : Bool) → (T p → T q) → (T q → T p) → p ≡ q
same_bool true true f g = refl
same_bool true false f g = absurd (f tt)
same_bool false true f g = absurd (g tt)
same_bool false false f g = refl

module _ (a b c a' b' c' : ℕ) (C : 0 < c) (C' : 0 < c') (p : a * c' ≡ a' * c) (q : b * c' ≡ b' * c) where
  less_same : ltb a b ≡ ltb a' b'
  less_same =
      same_bool (ltb a b) (ltb a' b')
      (λ (t : T (ltb a b)). lt→ltb a' b' (order_scale a b c a' b' c' C C' p q (ltb→lt a b t)))
      (λ (t : T (ltb a' b')). lt→ltb a b (order_scale a' b' c' a b c C' C (sym p) (sym q) (ltb→lt a' b' t)))

  equal_same : eqb a b ≡ eqb a' b'
  equal_same =
      same_bool (eqb a b) (eqb a' b')
      (λ (t : T (eqb a b)). eq→eqb (eq_of_mul-eq-mul_right c C a' b' (sym p ∙ ap (λ (n : ℕ). n * c') (eqb→eq a b t) ∙ q)))
      (λ (t : T (eqb a' b')). eq→eqb (eq_of_mul-eq-mul_right c' C' a b (p ∙ ap (λ (n : ℕ). n * c) (eqb→eq a' b' t) ∙ sym q)))

module _ (c a b x y de dd : ℕ) (C : 0 < c) (P : 0 < de) (Q : 0 < dd) (h : x * c ≡ a * de) (k : y * c ≡ b * dd) where
  left : x * dd * c ≡ a * (de * dd)
  left = mul_right_comm x dd c ∙ ap (λ (z : ℕ). z * dd) h ∙ mul_assoc a de dd

  right : y * de * c ≡ b * (de * dd)
  right = mul_right_comm y de c ∙ ap (λ (z : ℕ). z * de) k ∙ mul_assoc b dd de ∙ ap (λ (z : ℕ). b * z) (mul_comm dd de)

  none : 0 * c ≡ 0 * (de * dd)
  none = zero-mul c ∙ sym (zero-mul (de * dd))

  both : (x * dd + y * de) * c ≡ (a + b) * (de * dd)
  both = add-mul (x * dd) (y * de) c ∙ ap₂ ◌+◌ left right ∙ sym (add-mul a b (de * dd))

  below_same : (s t : Bool) → below s (x * dd) t (y * de) ≡ below s a t b
  below_same false false = less_same (x * dd) (y * de) (de * dd) a b c (mul-pos P Q) C left right
  below_same false true = refl
  below_same true false = less_same 0 (x * dd + y * de) (de * dd) 0 (a + b) c (mul-pos P Q) C none both
  below_same true true = less_same (y * de) (x * dd) (de * dd) b a c (mul-pos P Q) C right left

  level_same : (s t : Bool) → level s (x * dd) t (y * de) ≡ level s a t b
  level_same s t = ap₂ (λ (u v : Bool). u && (beq s t || v)) (equal_same (x * dd) (y * de) (de * dd) a b c (mul-pos P Q) C left right) (equal_same (x * dd) 0 (de * dd) a 0 c (mul-pos P Q) C left none)

pub lt_is : (x y : Float) (s t : Bool) (a b c : ℕ) → 0 < c → HasValue x s a c → HasValue y t b c → lt x y ≡ below s a t b
unfolding lt
lt_is nan y s t a b c C h k = absurd h
lt_is (inf u) y s t a b c C h k = absurd h
lt_is (fin u m e) nan s t a b c C h k = absurd k
lt_is (fin u m e) (inf v) s t a b c C h k = absurd k
lt_is (fin u m e) (fin v n d) s t a b c C h k = (λ i. below (h.0 i) (m * up e * down d) (k.0 i) (n * up d * down e)) ∙ below_same c a b (m * up e) (n * up d) (down e) (down d) C (down_pos e) (down_pos d) h.1 k.1 s t

pub eq_is : (x y : Float) (s t : Bool) (a b c : ℕ) → 0 < c → HasValue x s a c → HasValue y t b c → eq x y ≡ level s a t b
unfolding eq
eq_is nan y s t a b c C h k = absurd h
eq_is (inf u) y s t a b c C h k = absurd h
eq_is (fin u m e) nan s t a b c C h k = absurd k
eq_is (fin u m e) (inf v) s t a b c C h k = absurd k
eq_is (fin u m e) (fin v n d) s t a b c C h k = (λ i. level (h.0 i) (m * up e * down d) (k.0 i) (n * up d * down e)) ∙ level_same c a b (m * up e) (n * up d) (down e) (down d) C (down_pos e) (down_pos d) h.1 k.1 s t

pub le_is : (x y : Float) (s t : Bool) (a b c : ℕ) → 0 < c → HasValue x s a c → HasValue y t b c → le x y ≡ (below s a t b || level s a t b)
unfolding le
le_is x y s t a b c C h k = ap₂ ◌||◌ (lt_is x y s t a b c C h k) (eq_is x y s t a b c C h k)

-- ---- what a test says
either : (p q : Bool) → T (p || q) → T p ⊎ T q
either true q t = inl tt
either false q t = inr t

-- x ≤ y, neither below zero
pub le_sizes : (x y : Float) (a b c : ℕ) → 0 < c → HasValue x false a c → HasValue y false b c → T (le x y) → a ≤ b
le_sizes x y a b c C h k t =
    elim (either (ltb a b) (level false a false b) (subst T (le_is x y false false a b c C h k) t)) [
      | inl u ↦ le_of_lt (ltb→lt a b u)
      | inr u ↦ le_of_eq (eqb→eq a b (and_l (eqb a b) true u))
    ]

pub le_of_sizes : (x y : Float) (a b c : ℕ) → 0 < c → HasValue x false a c → HasValue y false b c → a ≤ b → T (le x y)
le_of_sizes x y a b c C h k l = le_of_values x y a c b c C C h k (mul-le-mul_right c l)

-- x is not below y, neither below zero
pub not_lt_sizes : (x y : Float) (a b c : ℕ) → 0 < c → HasValue x false a c → HasValue y false b c → T (not (lt x y)) → b ≤ a
not_lt_sizes x y a b c C h k t = nltb→le a b (subst (λ (p : Bool). T (not p)) (lt_is x y false false a b c C h k) t)

pub not_lt_of_sizes : (x y : Float) (a b c : ℕ) → 0 < c → HasValue x false a c → HasValue y false b c → b ≤ a → T (not (lt x y))
not_lt_of_sizes x y a b c C h k l = subst (λ (p : Bool). T (not p)) (sym (lt_is x y false false a b c C h k)) (not_T (ltb a b) (λ (t : T (ltb a b)). not-le_of_lt (ltb→lt a b t) l))

-- 0 ≤ x: no negative part
pub not_below_zero : (x z : Float) (s : Bool) (n c : ℕ) → 0 < c → HasValue z false 0 c → HasValue x s n c → T (le z x) → minus s n ≡ 0
not_below_zero x z false n c C k h t = refl
not_below_zero x z true n c C k h t = sym (eqb→eq 0 n (and_l (eqb 0 n) true (subst T (le_is z x false true 0 n c C k h) t)))

-- y ≤ x for a y above zero: x is not negative
pub above_zero : (x y : Float) (s : Bool) (a b c : ℕ) → 0 < c → 0 < b → HasValue y false b c → HasValue x s a c → T (le y x) → s ≡ false
above_zero x y false a b c C p k h t = refl
above_zero x y true a b c C p k h t = absurd (never b a p (subst T (le_is y x false true b a c C k h) t))
  where
    never : (b a : ℕ) → 0 < b → T (eqb b a && (false || eqb b 0)) → ⊥
    never b a p t = let z : b ≡ 0 = eqb→eq b 0 (and_r (eqb b a) (eqb b 0) t) in omega arith
