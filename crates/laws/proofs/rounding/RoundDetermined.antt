-- What `RoundsTo` says of a result determines it: it is `round`'s, in any format and for any fraction. Assumes nothing.
use mathlib.Core.Path.{◌≡◌, sym, ap, ◌∙◌, subst₂}
use mathlib.Core.Bool.{Bool, true, false, not}
use mathlib.Core.Logic.{inl, inr}
use Prim.Native.Nat.{ℕ, ◌*◌, ◌%◌, ◌^◌, ◌≤◌, ◌<◌}
use native.Mathlib.Nat.{le_of_eq, le_antisymm, mul_assoc, mul_comm, mul-pos, eq_of_mul-eq-mul_right}
use lib.Dec.{T, ltb, ltb→lt, nltb→le}
use lib.Pow.{pow_pos}
use lib.Ieee.{Float, Format, prec, low, round}
use lib.Ieee.Fits.{two, two-le_pos}
use lib.Ieee.Order.{drop, kept}
use lib.Ieee.Scale.{grid, finite}
use Rattle.laws.specs.Within.{distance, Within}
use Rattle.laws.specs.Exact.{size_in}
use Rattle.laws.specs.RoundsTo.{limit, off, RoundsTo, RoundingDetermined}
use Rattle.laws.proofs.numbers.CompareLaws.{equal_or_not}
use Rattle.laws.proofs.rounding.ClosestLaws.{closest_near, near_of_best, even_unique}
use Rattle.laws.proofs.rounding.KeptLaws.{near_le, near_few}
use Rattle.laws.proofs.rounding.RoundingError.{finite_round}
use Rattle.laws.proofs.values.SizeLaws.{size_of_value, value_of_size, size_unique}
use Rattle.laws.proofs.rounding.GridLaws.{grid_level, grid_tie}
use Rattle.laws.proofs.values.ValueLaws.{Value}
use Rattle.laws.proofs.rounding.RoundNearest.{last_bit, off_same, round_off, round_nearest}

module _ (f : Format) (s : Bool) (a c : ℕ) (C : 0 < c) (r : Float) (m : RoundsTo f s a c r) where
  -- ---- below the overflow: r and `round`'s result, both finite, are as near
  module _ (t : T (finite r)) (u : T (finite (round f s a c))) where
    n : ℕ
    n = a * 2 ^ low f

    k : ℕ
    k = drop (prec f) n c

    q : ℕ
    q = kept (prec f) n c

    by_round : RoundsTo f s a c (round f s a c)
    by_round = round_nearest f s a c C

    level : off f r s a c ≡ off f (round f s a c) s a c
    level = le_antisymm (m.nearest t (round f s a c) by_round.value u) (by_round.nearest u r m.value t)

    as_near : distance (grid f a c * c) n ≡ distance (size_in f r * c) n
    unfolding n
    as_near = sym (round_off f s a c C u) ∙ sym level ∙ off_same f r s a c m.sign

    -- so r is w units in the last place, as `round`'s result is q
    ulps : (w : ℕ) × (size_in f r ≡ w * 2 ^ k)
    unfolding n k
    ulps = grid_level f a c C r m.value t as_near

    w : ℕ
    w = ulps.0

    q_near : Within (q * (c * 2 ^ k) * 2) (n * 2) (c * 2 ^ k)
    unfolding q k
    q_near = closest_near n (c * 2 ^ k) (mul-pos C (pow_pos k))

    w_near : Within (w * (c * 2 ^ k) * 2) (n * 2) (c * 2 ^ k)
    unfolding w q k n
    w_near = near_of_best n (c * 2 ^ k) q w q_near (le_of_eq (sym (ap (λ (x : ℕ). distance x n) (swap q) ∙ as_near ∙ ap (λ (x : ℕ). distance (x * c) n) ulps.1 ∙ sym (ap (λ (x : ℕ). distance x n) (swap w)))))
      where
        swap : (x : ℕ) → x * (c * 2 ^ k) ≡ x * 2 ^ k * c
        swap x = simp (mul_assoc, mul_comm)

    w_value : Value f r s (w * 2 ^ k)
    unfolding w
    w_value = subst₂ (λ (b : Bool) (N : ℕ). Value f r b N) m.sign ulps.1 (value_of_size f r m.value t)

    size_is : size_in f (round f s a c) ≡ q * 2 ^ k
    unfolding q k n
    size_is = (size_of_value f (round f s a c) s (grid f a c) (finite_round f s a c u)).0

    -- and where they differ both are even, which no two neighbours are
    same_steps : q ≡ w
    unfolding w q k n
    same_steps =
        elim (equal_or_not q w) [
          | inl e ↦ e
          | inr d ↦ even_unique n (c * 2 ^ k) q w (mul-pos C (pow_pos k)) q_near w_near (q_even d) (w_even d)
        ]
      where
        cancel : q * 2 ^ k ≡ w * 2 ^ k → q ≡ w
        cancel e = eq_of_mul-eq-mul_right (2 ^ k) (pow_pos k) q w e

        q_even : (q ≡ w → ⊥) → q % 2 ≡ 0
        q_even d = grid_tie f a c C r m.value t true (λ b e. d (cancel (e ∙ ulps.1))) as_near

        w_even : (q ≡ w → ⊥) → w % 2 ≡ 0
        w_even d =
            sym (last_bit f r s w k w_value (near_le (prec f) n c w C w_near) (near_few (prec f) n c w C w_near (two-le_pos (prec f) (two f))))
            ∙ m.even t (round f s a c) by_round.value u level (λ e. d (cancel (sym size_is ∙ ap (size_in f) (sym e) ∙ ulps.1)))

    finite_same : r ≡ round f s a c
    unfolding w
    finite_same =
        size_unique f r (round f s a c) m.value by_round.value t u (m.sign ∙ sym by_round.sign)
        (ulps.1 ∙ ap (λ (x : ℕ). x * 2 ^ k) (sym same_steps) ∙ sym size_is)

  pub rounds_to_round : r ≡ round f s a c
  rounds_to_round = go (ltb a (limit f * c)) (ltb→lt a (limit f * c)) (nltb→le a (limit f * c))
    where
      go : (b : Bool) → (T b → a < limit f * c) → (T (not b) → limit f * c ≤ a) → r ≡ round f s a c
      go true h g = finite_same (m.below (h tt)) ((round_nearest f s a c C).below (h tt))
      go false h g = m.beyond (g tt) ∙ sym ((round_nearest f s a c C).beyond (g tt))

pub rounding_determined : RoundingDetermined
rounding_determined f s a c C r t m l = rounds_to_round f s a c C r m ∙ sym (rounds_to_round f s a c C t l)
