-- The one rounding (`round_pack`): where the unit in the last place is, past the largest value, and below the smallest. Assumes nothing.
use mathlib.Core.Path.{◌≡◌, refl, sym, ap, ap₂, ◌∙◌, subst}
use mathlib.Core.Bool.{Bool}
use mathlib.Core.List.{[], ◌∷◌}
use Prim.Native.Nat.{ℕ, zero, suc, ◌+◌, ◌-◌, ◌*◌, ◌/◌, ◌%◌, ◌^◌, ◌≤◌, ◌<◌, compare}
use native.Mathlib.Nat.{zero-mul, le_trans, le_of_eq, lt_of_lt_of_le, lt_of_le_of_lt, not-le_of_lt, mul_assoc, mul_right_comm, mul-pos, mul-le-mul_right, mul-lt-mul_of_pos_right, lt_of_mul-lt-mul_right, le_of_mul-le-mul_right, le-div_iff_mul-le}
use native.Mathlib.Omega.{arith}
use lib.Dec.{ltb, lit≤, lit<}
use lib.Arith.{le→nltb}
use lib.Pow.{pow_pos, pow-add, pow_mono}
use lib.Count.{count_leading_zeros}
use lib.Ieee.{inf, binary32, odd, units, round}
use lib.Ieee.Bits.{cond_no}
use lib.Ieee.Nearest.{closest, closest_same, nearest-ge}
use Rattle.laws.specs.Sticky.{sticky}
use Rattle.laws.proofs.solvers.Ring.{var, lit, ◌⊗◌}
use Rattle.laws.proofs.solvers.RingNat.{ring}
use Rattle.laws.proofs.rounding.ClosestLaws.{closest_is}
use Rattle.laws.proofs.rounding.StickyLaws.{closest_sticky, sticky_least}
use Rattle.scalar.specs.Parts.{Packs}
use Rattle.scalar.specs.FusedParts.{Normalized}
use Rattle.scalar.proofs.products.UlpLaws.{round_ulp}
use Rattle.scalar.proofs.products.WordLaws.{closest_most}

-- v * 2 ^ e, normalized to w: its unit in the last place is 2 ^ k of the smallest values, and g bits of w lie below it
pub record Ulp (v w e k g : ℕ) : Type 0 where
  pub normalized : Normalized v w
  pub same : g + e ≡ count_leading_zeros 64 v + 276 + k
  pub least : 39 ≤ g
  pub full : 0 < k → g ≡ 39

-- 24 bits are kept, or fewer
pub ulp_full : (v w e : ℕ) → Normalized v w → count_leading_zeros 64 v + 237 < e → Ulp v w e (e - (count_leading_zeros 64 v + 237)) 39
ulp_full v w e d h = record { normalized = d; same = omega arith; least = lit≤ tt; full = λ p. refl }

pub ulp_low : (v w e : ℕ) → Normalized v w → e ≤ count_leading_zeros 64 v + 237 → Ulp v w e 0 (count_leading_zeros 64 v + 276 - e)
ulp_low v w e d h = record { normalized = d; same = omega arith; least = omega arith; full = λ p. absurd (omega arith) }

module _ (v w e k g : ℕ) (P : Ulp v w e k g) where
  z : ℕ
  z = count_leading_zeros 64 v

  shifted : v * 2 ^ e * 2 ^ z ≡ v * 2 ^ z * 2 ^ e
  shifted = mul_right_comm v (2 ^ e) (2 ^ z)

  under : v * 2 ^ e < 2 ^ (301 + k)
  under =
      lt_of_mul-lt-mul_right (2 ^ z)
      (lt_of_le_of_lt (le_of_eq shifted)
      (lt_of_lt_of_le (mul-lt-mul_of_pos_right high (pow_pos e))
      (le_trans (le_of_eq (sym (pow-add 2 64 e))) (le_trans (pow_mono up) (le_of_eq (pow-add 2 (301 + k) z))))))
    where
      high : v * 2 ^ z < 2 ^ 64
      high = unfold z in P.normalized.high

      up : 64 + e ≤ 301 + k + z
      up = unfold z in (let s = P.same in let l = P.least in omega arith)

  over : 0 < k → 2 ^ (300 + k) ≤ v * 2 ^ e
  over p =
      le_of_mul-le-mul_right
      (le_trans (le_of_eq (sym (pow-add 2 (300 + k) z)))
      (le_trans (pow_mono down) (le_trans (le_of_eq (pow-add 2 63 e)) (le_trans (mul-le-mul_right (2 ^ e) low) (le_of_eq (sym shifted))))))
      (pow_pos z)
    where
      low : 2 ^ 63 ≤ v * 2 ^ z
      low = unfold z in P.normalized.low

      down : 300 + k + z ≤ 63 + e
      down = unfold z in (let s = P.same in let f = P.full p in omega arith)

  found : closest (v * 2 ^ e) (2 ^ (277 + k)) ≡ closest w (2 ^ g)
  found =
      closest_same (v * 2 ^ e) (2 ^ (277 + k)) (v * 2 ^ z) (4 * 2 ^ (g - 2) * 2) (pow_pos (277 + k)) (mul-pos (mul-pos (lit< tt) (pow_pos (g - 2))) (lit< tt))
      (ap (λ (n : ℕ). v * 2 ^ e * n) (ring (2 ^ (g - 2) ∷ []) (lit 4 ⊗ var 0 ⊗ lit 2) (lit (2 ^ 3) ⊗ var 0) refl ∙ sym (pow-add 2 3 (g - 2)))
      ∙ mul_assoc v (2 ^ e) (2 ^ (3 + (g - 2)))
      ∙ ap (λ (n : ℕ). v * n) (sym (pow-add 2 e (3 + (g - 2))) ∙ ap (λ (n : ℕ). 2 ^ n) shift ∙ pow-add 2 z (277 + k))
      ∙ sym (mul_assoc v (2 ^ z) (2 ^ (277 + k))))
      ∙ closest_sticky (v * 2 ^ z) 2 (lit< tt) (2 ^ (g - 2)) (pow_pos (g - 2))
      ∙ ap₂ (λ (m n : ℕ). closest m n) is (sym (pow-add 2 2 (g - 2)) ∙ ap (λ (n : ℕ). 2 ^ n) back)
    where
      is : sticky (v * 2 ^ z) 2 ≡ w
      is = unfold z in sym P.normalized.is

      shift : e + (3 + (g - 2)) ≡ z + (277 + k)
      shift = unfold z in (let s = P.same in let l = P.least in omega arith)

      back : 2 + (g - 2) ≡ g
      back = let l = P.least in omega arith

  module _ (q : ℕ) (Q : q ≡ closest w (2 ^ g)) where
    pub ulp_round : (s : Bool) → units binary32 s q k ≡ round binary32 s (v * 2 ^ e) (2 ^ 426)
    ulp_round s = sym (round_ulp s (v * 2 ^ e) k under over ∙ ap (λ (n : ℕ). units binary32 s n k) (found ∙ sym Q))

    q_least : 0 < k → 2 ^ 23 ≤ q
    q_least p =
        le_trans ((le-div_iff_mul-le (pow_pos g)).1 (le_trans (le_of_eq (sym (pow-add 2 23 g) ∙ ap (λ (n : ℕ). 2 ^ (23 + n)) (P.full p))) low))
        (le_trans (nearest-ge (w / 2 ^ g) (compare (w % 2 ^ g * 2) (2 ^ g))) (le_of_eq (sym Q)))
      where
        low : 2 ^ 62 ≤ w
        low = subst (λ (n : ℕ). 2 ^ 62 ≤ n) (sym P.normalized.is) (sticky_least (v * 2 ^ count_leading_zeros 64 v) 2 (lit< tt) (2 ^ 61) P.normalized.low)

    pub ulp_packs : k ≤ 253 → Packs q k
    ulp_packs h = record {
      most = le_trans (le_of_eq Q) (closest_most w g P.normalized.most P.least);
      range = h;
      least = λ l. none k (λ p. not-le_of_lt l (q_least p));
    }
      where
        none : (k : ℕ) → (0 < k → ⊥) → k ≡ 0
        none zero f = refl
        none (suc k) f = absurd (f (omega arith))

  -- past the largest value
  pub ulp_inf : (s : Bool) → 253 < k → units binary32 s 16777216 253 ≡ round binary32 s (v * 2 ^ e) (2 ^ 426)
  unfolding units
  ulp_inf s h =
      sym (cond_no (ltb (q * 2 ^ k) (2 ^ 277)) (odd 25 s q k 149) (inf s)
      (le→nltb (q * 2 ^ k) (2 ^ 277) (le_trans (pow_mono (over' k h)) (le_trans (le_of_eq (pow-add 2 23 k)) (mul-le-mul_right (2 ^ k) (q_least q refl (some k h)))))))
      ∙ ulp_round q refl s
    where
      q : ℕ
      q = closest w (2 ^ g)

      over' : (k : ℕ) → 253 < k → 277 ≤ 23 + k
      over' k h = omega arith

      some : (k : ℕ) → 253 < k → 0 < k
      some k h = omega arith

  -- below half the smallest value
  pub ulp_none : (s : Bool) → 63 < g → units binary32 s 0 0 ≡ round binary32 s (v * 2 ^ e) (2 ^ 426)
  ulp_none s h = ap (λ (n : ℕ). units binary32 s 0 n) (sym (none k P.full)) ∙ ulp_round 0 (sym small) s
    where
      small : closest w (2 ^ g) ≡ 0
      small = closest_is w (2 ^ g) 0 (pow_pos g) (let p = pow_pos g in omega arith) (let b : 2 ^ 64 ≤ 2 ^ g = pow_mono h in let m = P.normalized.most in omega arith)

      none : (k : ℕ) → (0 < k → g ≡ 39) → k ≡ 0
      none zero f = refl
      none (suc k) f = let n = f (omega arith) in absurd (omega arith)

pub round_zero : (s : Bool) (v e : ℕ) → v ≡ 0 → units binary32 s 0 0 ≡ round binary32 s (v * 2 ^ e) (2 ^ 426)
unfolding units round
round_zero s v e h = sym (ap (λ (n : ℕ). round binary32 s n (2 ^ 426)) (ap (λ (n : ℕ). n * 2 ^ e) h ∙ zero-mul (2 ^ e)))
