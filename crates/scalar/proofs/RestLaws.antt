-- The remainder of significands in whole numbers: shifts of 40 bits at a time, the exact packing, and the cases of `%` by the parts of its
-- operands. Assumes nothing.
use mathlib.Core.Path.{◌≡◌, refl, sym, ap, ap₂, ◌∙◌, subst}
use mathlib.Core.Bool.{Bool}
use mathlib.Core.Logic.{inl, inr}
use mathlib.Core.List.{[], ◌∷◌}
use Prim.Native.Nat.{ℕ, ◌+◌, ◌-◌, ◌*◌, ◌/◌, ◌%◌, ◌^◌, ◌≤◌, ◌<◌}
use native.Mathlib.Nat.{zero-mul, le_trans, le_of_eq, le_of_lt, lt_trans, lt_of_lt_of_le, lt_of_le_of_lt, lt_of_not-le, not-le_of_lt, mul_right_comm, mul-pos, mul-one, mul-le-mul_left, mul-le-mul_right, div-add-mod', mod-lt, mod-eq_of_lt}
use native.Mathlib.Omega.{arith}
use lib.Arith.{digits_mod}
use lib.Dec.{T, lit≤, lit<}
use lib.IntN.{ℤ}
use lib.Pow.{pow_pos, pow-add, pow_mono, shl_lt}
use lib.Count.{count_leading_zeros}
use lib.Ieee.{Float, nan, inf, fin, binary32, odd, units, round, rem, fits}
use lib.Ieee.Bits.{of_bits-fits}
use lib.Ieee.Exact.{HasValue, units_val, round_exact}
use lib.Ieee.Fits.{odd-fits, round-fits}
use Rattle.laws.proofs.numbers.LeadingLaws.{leading_shift}
use Rattle.laws.proofs.solvers.Ring.{var, ◌⊕◌, ◌⊗◌}
use Rattle.laws.proofs.solvers.RingNat.{ring}
use Rattle.laws.proofs.values.ValueLaws.{value_unique}
use Rattle.scalar.specs.Parts.{Split, Packs}
use Rattle.scalar.proofs.floats.PackLaws.{pack_is}
use Rattle.scalar.proofs.floats.PartsLaws.{Other, other, value_of_parts, parts_under}
use Rattle.scalar.proofs.floats.SignLaws.{nan_constant}
use Rattle.scalar.proofs.RemainderLaws.{mod_scale, rem_at, apart}
use Rattle.scalar.proofs.roots.RootPartsLaws.{zeros_in}

-- ---- 40 bits at a time

-- a remainder may be taken before a product
mod_first : (x c n : ℕ) → 0 < n → x % n * c % n ≡ x * c % n
mod_first x c n N = sym (ap (λ (z : ℕ). z % n) split ∙ digits_mod (x / n * c + x % n * c / n) (mod-lt (x % n * c) N))
  where
    out : (w n r c : ℕ) → (w * n + r) * c ≡ w * c * n + r * c
    out w n r c = ring (w ∷ n ∷ r ∷ c ∷ []) ((var 0 ⊗ var 1 ⊕ var 2) ⊗ var 3) (var 0 ⊗ var 3 ⊗ var 1 ⊕ var 2 ⊗ var 3) refl

    join : (u n v t : ℕ) → u * n + (v * n + t) ≡ (u + v) * n + t
    join u n v t = ring (u ∷ n ∷ v ∷ t ∷ []) (var 0 ⊗ var 1 ⊕ (var 2 ⊗ var 1 ⊕ var 3)) ((var 0 ⊕ var 2) ⊗ var 1 ⊕ var 3) refl

    split : x * c ≡ (x / n * c + x % n * c / n) * n + x % n * c % n
    split =
        ap (λ (z : ℕ). z * c) (sym (div-add-mod' x n))
        ∙ out (x / n) n (x % n) c
        ∙ ap (λ (z : ℕ). x / n * c * n + z) (sym (div-add-mod' (x % n * c) n))
        ∙ join (x / n * c) n (x % n * c / n) (x % n * c % n)

-- a shift in two steps
joined : (r i j : ℕ) → i ≤ j → r * 2 ^ i * 2 ^ (j - i) ≡ r * 2 ^ j
joined r i j h = mul_right_comm r (2 ^ i) (2 ^ (j - i)) ∙ sym (apart r i j h)

-- r has 24 bits, and r * 2 ^ l leaves what m * 2 ^ e leaves: l bits are still to be shifted
pub record Resting (m e n r l : ℕ) : Type 0 where
  pub few : r < 2 ^ 24
  pub same : r * 2 ^ l % n ≡ m * 2 ^ e % n

-- 24 bits shifted by l fit a word of w
up_word : (w r l : ℕ) → r < 2 ^ 24 → 24 + l ≤ w → r * 2 ^ l % 2 ^ w ≡ r * 2 ^ l
up_word w r l h k = mod-eq_of_lt (lt_of_lt_of_le (shl_lt 24 l h) (pow_mono k))

pub rest_near : (m e n : ℕ) → m < 2 ^ 24 → e ≤ 8 → m * 2 ^ e % 4294967296 % n ≡ m * 2 ^ e % n
rest_near m e n h k = ap (λ (z : ℕ). z % n) (up_word 32 m e h (omega arith))

pub rest_more : (m e n r l : ℕ) → 0 < n → n < 2 ^ 24 → Resting m e n r l → 40 < l → Resting m e n (r * 1099511627776 % 18446744073709551616 % n) (l - 40)
rest_more m e n r l N W R h = record {
  few = lt_trans (mod-lt (r * 1099511627776 % 18446744073709551616) N) W;
  same =
      ap (λ (z : ℕ). z % n * 2 ^ (l - 40) % n) (up_word 64 r 40 R.few (lit≤ tt))
      ∙ mod_first (r * 2 ^ 40) (2 ^ (l - 40)) n N
      ∙ ap (λ (z : ℕ). z % n) (joined r 40 l (le_of_lt h))
      ∙ R.same;
}

pub rest_last : (m e n r l : ℕ) → Resting m e n r l → l ≤ 40 → r * 2 ^ l % 18446744073709551616 % n ≡ m * 2 ^ e % n
rest_last m e n r l R h = ap (λ (z : ℕ). z % n) (up_word 64 r l R.few (omega arith)) ∙ R.same

-- ---- the exact packing

-- q * 2 ^ k is r * 2 ^ d, and is packed as it stands
pub record Repacks (r d q k : ℕ) : Type 0 where
  pub fine : Packs q k
  pub same : q * 2 ^ k ≡ r * 2 ^ d

round_value : (s : Bool) (r d : ℕ) → r < 2 ^ 24 → d < 254 → HasValue (round binary32 s (r * 2 ^ d) (2 ^ 149)) s (r * 2 ^ d) (2 ^ 149)
round_value s r d h k = round_exact binary32 s (r * 2 ^ d) (2 ^ 149) r d (pow_pos 149) h (parts_under r d h k) refl

pub repacked : (s : Bool) (r d q k : ℕ) → r < 2 ^ 24 → d < 254 → Repacks r d q k → units binary32 s q k ≡ round binary32 s (r * 2 ^ d) (2 ^ 149)
repacked s r d q k h l R =
    value_unique binary32 (units binary32 s q k) (round binary32 s (r * 2 ^ d) (2 ^ 149)) s (r * 2 ^ d)
    (subst (λ (x : Float). T (fits binary32 x)) (pack_is s q k R.fine) (of_bits-fits binary32 _))
    (round-fits binary32 s (r * 2 ^ d) (2 ^ 149))
    (subst (λ (n : ℕ). HasValue (units binary32 s q k) s n (2 ^ 149)) R.same (units_val binary32 s q k (subst (λ (n : ℕ). n < 2 ^ 277) (sym R.same) (parts_under r d h l))))
    (round_value s r d h l)

pub repacks_none : (r d : ℕ) → r ≡ 0 → Repacks r d 0 0
repacks_none r d h = record {
  fine = record { most = lit≤ tt; range = lit≤ tt; least = λ l. refl };
  same = sym (ap (λ (n : ℕ). n * 2 ^ d) h ∙ zero-mul (2 ^ d));
}

-- r shifted left to 24 bits, or by d where that is less
module _ (r d : ℕ) (P : 0 < r) (H : r < 2 ^ 24) (D : d < 254) where
  z : ℕ
  z = count_leading_zeros 32 r - 8

  normalized : (2 ^ 23 ≤ r * 2 ^ z) × (r * 2 ^ z < 2 ^ 24)
  normalized = unfold z in leading_shift 32 r P (lt_of_lt_of_le H (lit≤ tt)) (count_leading_zeros 32 r - 8) 8 (let h = zeros_in r P H in omega arith)

  pub repacks_full : count_leading_zeros 32 r - 8 < d → Repacks r d (r * 2 ^ (count_leading_zeros 32 r - 8) % 4294967296) (d - (count_leading_zeros 32 r - 8))
  unfolding z
  repacks_full h = subst (λ (q : ℕ). Repacks r d q (d - z)) (sym (mod-eq_of_lt (lt_trans normalized.1 (lit< tt)))) (record {
    fine = record { most = le_of_lt normalized.1; range = omega arith; least = λ l. absurd (not-le_of_lt l normalized.0) };
    same = joined r z d (le_of_lt h);
  })

  pub repacks_low : d ≤ count_leading_zeros 32 r - 8 → Repacks r d (r * 2 ^ d % 4294967296) 0
  unfolding z
  repacks_low h = subst (λ (q : ℕ). Repacks r d q 0) (sym (mod-eq_of_lt (lt_trans few (lit< tt)))) (record {
    fine = record { most = le_of_lt few; range = lit≤ tt; least = λ l. refl };
    same = mul-one (r * 2 ^ d);
  })
    where
      few : r * 2 ^ d < 2 ^ 24
      few = lt_of_le_of_lt (mul-le-mul_left r (pow_mono h)) normalized.1

-- ---- the cases of `%`

pub rem_other : (a b : Float) → Other a → nan ≡ rem binary32 a b
unfolding rem
rem_other a b (inl e) = sym (ap (λ (x : Float). rem binary32 x b) e)
rem_other a b (inr e) = sym (ap (λ (x : Float). rem binary32 x b) e.1)

module _ (a b : Float) (s : Bool) (m k : ℕ) (A : a ≡ odd 24 s m k 149) where
  value : HasValue a s (m * 2 ^ k) (2 ^ 149)
  value = value_of_parts a s m k A

  number : (u : Bool) × (n : ℕ) × (e : ℤ) × (a ≡ fin u n e)
  number = go a value
    where
      go : (x : Float) → HasValue x s (m * 2 ^ k) (2 ^ 149) → (u : Bool) × (n : ℕ) × (e : ℤ) × (x ≡ fin u n e)
      go nan h = absurd h
      go (inf u) h = absurd h
      go (fin u n e) h = (u, n, e, refl)

  pub rem_by_nan : b ≡ nan → b ≡ rem binary32 a b
  unfolding rem
  rem_by_nan e = e ∙ sym (ap₂ (λ (x y : Float). rem binary32 x y) number.3 e)

  pub rem_by_inf : (t : Bool) → b ≡ inf t → a ≡ rem binary32 a b
  unfolding rem
  rem_by_inf t e = number.3 ∙ sym (ap₂ (λ (x y : Float). rem binary32 x y) number.3 e)

  module _ (t : Bool) (n d : ℕ) (B : b ≡ odd 24 t n d 149) where
    pub rem_by_zero : n ≡ 0 → nan ≡ rem binary32 a b
    unfolding rem odd
    rem_by_zero z = sym (ap₂ (λ (x y : Float). rem binary32 x y) number.3 (B ∙ ap (λ (q : ℕ). odd 24 t q d 149) z))

    module _ (P : 0 < n) where
      rem_sizes : rem binary32 a b ≡ round binary32 s (m * 2 ^ k % (n * 2 ^ d)) (2 ^ 149)
      rem_sizes = rem_at a b s t (m * 2 ^ k) (n * 2 ^ d) value (value_of_parts b t n d B) (mul-pos P (pow_pos d))

      -- the exponent of b is above that of a, so that the significand of b has 24 bits, and b is larger
      pub rem_smaller : Split m k → Split n d → k < d → a ≡ rem binary32 a b
      rem_smaller S N h =
          value_unique binary32 a (round binary32 s (m * 2 ^ k) (2 ^ 149)) s (m * 2 ^ k) fit (round-fits binary32 s (m * 2 ^ k) (2 ^ 149)) value (round_value s m k S.bits S.range)
          ∙ sym (rem_sizes ∙ ap (λ (x : ℕ). round binary32 s x (2 ^ 149)) (mod-eq_of_lt less))
        where
          fit : T (fits binary32 a)
          fit = subst (λ (x : Float). T (fits binary32 x)) (sym A) (odd-fits binary32 24 s m k S.bits (le_of_lt S.bits) (parts_under m k S.bits S.range))

          full : 2 ^ 23 ≤ n
          full = let l = lt_of_not-le (λ (g : n ≤ 8388607). let z = N.least (omega arith) in omega arith) in omega arith

          above : (k d : ℕ) → k < d → 24 + k ≤ 23 + d
          above k d h = omega arith

          less : m * 2 ^ k < n * 2 ^ d
          less = lt_of_lt_of_le (shl_lt 24 k S.bits) (le_trans (pow_mono (above k d h)) (le_trans (le_of_eq (pow-add 2 23 d)) (mul-le-mul_right (2 ^ d) full)))

      pub rem_rest : d ≤ k → round binary32 s (m * 2 ^ (k - d) % n * 2 ^ d) (2 ^ 149) ≡ rem binary32 a b
      rem_rest h =
          sym (rem_sizes
          ∙ ap (λ (x : ℕ). round binary32 s x (2 ^ 149)) (ap (λ (x : ℕ). x % (n * 2 ^ d)) (apart m d k h) ∙ mod_scale (m * 2 ^ (k - d)) n (2 ^ d) P (pow_pos d)))

-- what `pack_exact` of src/remainder.rt uses
pub ruleset repacking = (zeros_in, repacked, repacks_none, repacks_full, repacks_low)

-- and `rem` of src/euclid.rt
pub ruleset remainders = (other, nan_constant, rem_other, rem_by_nan, rem_by_zero, rem_smaller)
