-- The kit's `sum` of two fractions by their signs: one rounding of their sum or their difference; and their order does not matter. Assumes nothing.
use mathlib.Core.Path.{◌≡◌, refl, sym, ap, ap₂, ◌∙◌, subst}
use mathlib.Core.Bool.{Bool, true, false, cond, ◌&&◌}
use mathlib.Core.Logic.{◌⊎◌, inl, inr}
use Prim.Native.Nat.{ℕ, ◌+◌, ◌-◌, ◌*◌, ◌≤◌, ◌<◌, compare, Ordering}
use native.Mathlib.Nat.{le_refl, le_of_lt, sub_self, add_comm, add-mul, mul_comm, mul-sub, mul-lt-mul_of_pos_right}
use native.Mathlib.Omega.{arith}
use lib.Dec.{T, ltb, lt→ltb}
use lib.Arith.{le→nltb}
use lib.Ieee.{Format, unlike, round, sum}
use lib.Ieee.Bits.{is_true, is_false}
use Rattle.laws.specs.Within.{distance}
use Rattle.laws.proofs.numbers.BoolLaws.{and_true, and_false}
use Rattle.laws.proofs.numbers.CompareLaws.{Cmp, cmp}

pub sub_mul : (a b c : ℕ) → (a - b) * c ≡ a * c - b * c
sub_mul a b c = mul_comm (a - b) c ∙ mul-sub c a b ∙ ap₂ ◌-◌ (mul_comm c a) (mul_comm c b)

pub unlike_comm : (s t : Bool) → unlike s t ≡ unlike t s
unlike_comm true true = refl
unlike_comm true false = refl
unlike_comm false true = refl
unlike_comm false false = refl

pub unlike_self : (s : Bool) → unlike s s ≡ false
unlike_self true = refl
unlike_self false = refl

like_same : (s t : Bool) → unlike s t ≡ false → s ≡ t
like_same true true h = refl
like_same true false h = absurd (subst T h tt)
like_same false true h = absurd (subst T h tt)
like_same false false h = refl

module _ (f : Format) where
  -- ---- by the signs
  pub sum_like : (s t : Bool) (a b c : ℕ) → unlike s t ≡ false → sum f s a t b c ≡ round f s (a + b) c
  unfolding sum
  sum_like true true a b c h = refl
  sum_like true false a b c h = absurd (subst T h tt)
  sum_like false true a b c h = absurd (subst T h tt)
  sum_like false false a b c h = refl

  -- unlike signs, as the definition has them
  abbrev apart : Bool → Bool → ℕ → ℕ → ℕ → Type 0
  apart s t a b c = sum f s a t b c ≡ cond (ltb a b) (round f t (b - a) c) (round f (s && ltb b a) (a - b) c)

  sum_apart : (s t : Bool) (a b c : ℕ) → unlike s t ≡ true → apart s t a b c
  unfolding sum
  sum_apart true true a b c h = absurd (subst T (sym h) tt)
  sum_apart true false a b c h = refl
  sum_apart false true a b c h = refl
  sum_apart false false a b c h = absurd (subst T (sym h) tt)

  pub sum_unlike : (s t : Bool) (a b c : ℕ) → unlike s t ≡ true → b < a → sum f s a t b c ≡ round f s (a - b) c
  sum_unlike s t a b c u h =
      sum_apart s t a b c u
      ∙ ap₂ (λ (x y : Bool). cond x (round f t (b - a) c) (round f (s && y) (a - b) c)) (is_false (ltb a b) (le→nltb a b (le_of_lt h))) (is_true (ltb b a) (lt→ltb b a h))
      ∙ ap (λ (x : Bool). round f x (a - b) c) (and_true s)

  pub sum_below : (s t : Bool) (a b c : ℕ) → unlike s t ≡ true → a < b → sum f s a t b c ≡ round f t (b - a) c
  sum_below s t a b c u h =
      sum_apart s t a b c u ∙ ap (λ (x : Bool). cond x (round f t (b - a) c) (round f (s && ltb b a) (a - b) c)) (is_true (ltb a b) (lt→ltb a b h))

  pub sum_cancel : (s t : Bool) (a c : ℕ) → unlike s t ≡ true → sum f s a t a c ≡ round f false 0 c
  sum_cancel s t a c u =
      sum_apart s t a a c u
      ∙ ap (λ (x : Bool). cond x (round f t (a - a) c) (round f (s && x) (a - a) c)) (is_false (ltb a a) (le→nltb a a (le_refl a)))
      ∙ ap₂ (λ (x : Bool) (n : ℕ). round f x n c) (and_false s) (sub_self a)

  -- ---- the order of the two
  pub sum_comm : (s t : Bool) (a b c : ℕ) → sum f s a t b c ≡ sum f t b s a c
  sum_comm s t a b c = go (unlike s t) refl (compare a b) (cmp a b)
    where
      go : (u : Bool) → unlike s t ≡ u → (o : Ordering) → Cmp o a b → sum f s a t b c ≡ sum f t b s a c
      go false e o k =
          sum_like s t a b c e
          ∙ ap₂ (λ (x : Bool) (n : ℕ). round f x n c) (like_same s t e) (add_comm a b)
          ∙ sym (sum_like t s b a c (unlike_comm t s ∙ e))
      go true e Ordering.lt k = sum_below s t a b c e k ∙ sym (sum_unlike t s b a c (unlike_comm t s ∙ e) k)
      go true e Ordering.gt k = sum_unlike s t a b c e k ∙ sym (sum_below t s b a c (unlike_comm t s ∙ e) k)
      go true e Ordering.eq k =
          subst (λ (n : ℕ). sum f s a t n c ≡ sum f t n s a c) k
          (sum_cancel s t a c e ∙ sym (sum_cancel t s a c (unlike_comm t s ∙ e)))

  -- ---- of whole numbers, by the sign and the size of the sum
  module _ (s t : Bool) (x y c d v : ℕ) (C : 0 < c) (X : 0 < x) (S : v ≡ cond (unlike s t) (distance x y) (x + y)) where
    pub sum_level : v ≡ 0 → sum f s (x * c) t (y * c) d ≡ round f false 0 d
    sum_level z = go (unlike s t) refl S
      where
        same : v ≡ distance x y → x ≡ y
        same h = omega arith

        go : (u : Bool) → unlike s t ≡ u → v ≡ cond u (distance x y) (x + y) → sum f s (x * c) t (y * c) d ≡ round f false 0 d
        go true e h = ap (λ (n : ℕ). sum f s (x * c) t (n * c) d) (sym (same h)) ∙ sum_cancel s t (x * c) d e
        go false e h = absurd (omega arith)

    pub sum_sized : (n : Bool) → (v ≡ 0 → ⊥) → ((x < y) × (n ≡ t)) ⊎ ((y ≤ x) × (n ≡ s)) → round f n (v * c) d ≡ sum f s (x * c) t (y * c) d
    sum_sized n z w = go (unlike s t) refl S w
      where
        go : (u : Bool) → unlike s t ≡ u → v ≡ cond u (distance x y) (x + y) → ((x < y) × (n ≡ t)) ⊎ ((y ≤ x) × (n ≡ s)) → round f n (v * c) d ≡ sum f s (x * c) t (y * c) d
        go true e h (inl k) =
            let l : v ≡ y - x = (let m = k.0 in omega arith) in
            ap₂ (λ (r : Bool) (m : ℕ). round f r m d) k.1 (ap (λ (m : ℕ). m * c) l ∙ sub_mul y x c)
            ∙ sym (sum_below s t (x * c) (y * c) d e (mul-lt-mul_of_pos_right k.0 C))
        go true e h (inr k) =
            let l : v ≡ x - y = (let m = k.0 in omega arith) in
            let m : y < x = omega arith in
            ap₂ (λ (r : Bool) (m : ℕ). round f r m d) k.1 (ap (λ (m : ℕ). m * c) l ∙ sub_mul x y c)
            ∙ sym (sum_unlike s t (x * c) (y * c) d e (mul-lt-mul_of_pos_right m C))
        go false e h k =
            ap₂ (λ (r : Bool) (m : ℕ). round f r m d) (sign k) (ap (λ (m : ℕ). m * c) h ∙ add-mul x y c)
            ∙ sym (sum_like s t (x * c) (y * c) d e)
          where
            sign : ((x < y) × (n ≡ t)) ⊎ ((y ≤ x) × (n ≡ s)) → n ≡ s
            sign (inl k) = k.1 ∙ sym (like_same s t e)
            sign (inr k) = k.1
