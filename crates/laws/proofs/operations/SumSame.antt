-- The kit's `sum` sees only the values of its fractions: the same fractions over another denominator have the same sum. Assumes nothing.
use mathlib.Core.Path.{◌≡◌, refl, sym, ap, ap₂, ◌∙◌}
use mathlib.Core.Bool.{Bool, true, false, not, cond, ◌&&◌}
use Prim.Native.Nat.{ℕ, ◌+◌, ◌-◌, ◌*◌, ◌≤◌, ◌<◌}
use native.Mathlib.Nat.{le_of_eq, lt_of_lt_of_le, lt_of_le_of_lt, add-mul, mul_comm, mul-sub, mul-lt-mul_of_pos_right, lt_of_mul-lt-mul_right}
use native.Mathlib.Omega.{arith}
use lib.Dec.{T, ltb, ltb→lt, nltb→le, lt→ltb}
use lib.Arith.{le→nltb}
use lib.Ieee.{Format, round, sum}
use lib.Ieee.Bits.{is_true, is_false}
use lib.Ieee.Scale.{round_same}

-- two tests that pass together
same_test : (a b a' b' : ℕ) → (a < b → a' < b') → (a' < b' → a < b) → ltb a b ≡ ltb a' b'
same_test a b a' b' f g = go (ltb a b) (ltb→lt a b) (nltb→le a b) refl
  where
    go : (t : Bool) → (T t → a < b) → (T (not t) → b ≤ a) → ltb a b ≡ t → t ≡ ltb a' b'
    go true h k e = sym (is_true (ltb a' b') (lt→ltb a' b' (f (h tt))))
    go false h k e = sym (is_false (ltb a' b') (le→nltb a' b' (back (ltb a' b') (ltb→lt a' b') (nltb→le a' b'))))
      where
        back : (u : Bool) → (T u → a' < b') → (T (not u) → b' ≤ a') → b' ≤ a'
        back true p q = let x = g (p tt) in let y = k tt in absurd (omega arith)
        back false p q = q tt

-- the order of two fractions is that of the same fractions over another denominator
pub order_scale : (a b c a' b' c' : ℕ) → 0 < c → 0 < c' → a * c' ≡ a' * c → b * c' ≡ b' * c → a < b → a' < b'
order_scale a b c a' b' c' C C' p q h = lt_of_mul-lt-mul_right c (lt_of_le_of_lt (le_of_eq (sym p)) (lt_of_lt_of_le (mul-lt-mul_of_pos_right h C') (le_of_eq q)))

minus_scale : (a b c a' b' c' : ℕ) → a * c' ≡ a' * c → b * c' ≡ b' * c → (a - b) * c' ≡ (a' - b') * c
minus_scale a b c a' b' c' p q =
    mul_comm (a - b) c' ∙ mul-sub c' a b ∙ ap₂ ◌-◌ (mul_comm c' a ∙ p ∙ mul_comm a' c) (mul_comm c' b ∙ q ∙ mul_comm b' c) ∙ sym (mul-sub c a' b') ∙ mul_comm c (a' - b')

module _ (f : Format) (a b c a' b' c' : ℕ) (C : 0 < c) (C' : 0 < c') (p : a * c' ≡ a' * c) (q : b * c' ≡ b' * c) where
  ab : ltb a b ≡ ltb a' b'
  ab = same_test a b a' b' (order_scale a b c a' b' c' C C' p q) (order_scale a' b' c' a b c C' C (sym p) (sym q))

  ba : ltb b a ≡ ltb b' a'
  ba = same_test b a b' a' (order_scale b a c b' a' c' C C' q p) (order_scale b' a' c' b a c C' C (sym q) (sym p))

  unlike_same : (s t : Bool) → cond (ltb a b) (round f t (b - a) c) (round f (s && ltb b a) (a - b) c) ≡ cond (ltb a' b') (round f t (b' - a') c') (round f (s && ltb b' a') (a' - b') c')
  unlike_same s t = λ i. cond (ab i) (round_same f t (b - a) c (b' - a') c' C C' (minus_scale b a c b' a' c' q p) i) (lower i)
    where
      lower : round f (s && ltb b a) (a - b) c ≡ round f (s && ltb b' a') (a' - b') c'
      lower = ap (λ (x : Bool). round f (s && x) (a - b) c) ba ∙ round_same f (s && ltb b' a') (a - b) c (a' - b') c' C C' (minus_scale a b c a' b' c' p q)

  like_same : (s : Bool) → round f s (a + b) c ≡ round f s (a' + b') c'
  like_same s = round_same f s (a + b) c (a' + b') c' C C' (add-mul a b c' ∙ ap₂ ◌+◌ p q ∙ sym (add-mul a' b' c))

  pub sum_same : (s t : Bool) → sum f s a t b c ≡ sum f s a' t b' c'
  unfolding sum
  sum_same true true = like_same true
  sum_same true false = unlike_same true false
  sum_same false true = unlike_same false true
  sum_same false false = like_same false
