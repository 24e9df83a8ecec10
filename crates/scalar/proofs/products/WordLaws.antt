-- What shifts of 64-bit words compute: a quotient with a sticky bit, a rounded quotient, a normalized number. Assumes nothing.
use mathlib.Core.Path.{◌≡◌, sym, ap, ◌∙◌, subst}
use mathlib.Core.Bool.{Bool, true, false, not}
use Prim.Native.Nat.{ℕ, ◌+◌, ◌-◌, ◌*◌, ◌/◌, ◌%◌, ◌^◌, ◌≤◌, ◌<◌, min, compare}
use native.Mathlib.Nat.{add-zero, one-mul, mul-one, mul-le-mul_left, mod-eq_of_lt, div-mul-le_self, le_of_lt, le_trans, le_of_eq, lt_of_lt_of_le, lt_of_le_of_lt, mul_assoc, div-lt_iff_lt-mul}
use native.Mathlib.Omega.{arith}
use lib.Dec.{T, leb, leb→le, nleb→lt, lit≤, lit<}
use lib.Pow.{pow_pos, pow-add, pow_mono}
use lib.Count.{count_leading_zeros}
use lib.Ieee.Fits.{nearest-le}
use lib.Ieee.Nearest.{closest}
use Rattle.laws.specs.Sticky.{sticky}
use Rattle.laws.proofs.numbers.LeadingLaws.{leading_lt, leading_shift}
use Rattle.laws.proofs.rounding.CarryLaws.{closest_carry}
use Rattle.laws.proofs.rounding.StickyLaws.{sticky_below, sticky_far, sticky_exact}
use Rattle.scalar.specs.FusedParts.{Normalized}

-- ---- shifted right
pub shift_within : (v d c : ℕ) → v < 18446744073709551616 → c ≡ min d 63 → sticky v (2 ^ c) ≡ sticky v (2 ^ d)
shift_within v d c h e = go (leb d 63) (leb→le d 63) (nleb→lt d 63)
  where
    go : (b : Bool) → (T b → d ≤ 63) → (T (not b) → 63 < d) → sticky v (2 ^ c) ≡ sticky v (2 ^ d)
    go true f g =
        let l = f tt in
        let same : c ≡ d = omega arith in
        ap (λ (n : ℕ). sticky v (2 ^ n)) same
    go false f g =
        let l = g tt in
        let cut : c ≡ 63 = omega arith in
        ap (λ (n : ℕ). sticky v (2 ^ n)) cut ∙ sticky_far v (2 ^ 63) (2 ^ d) h (lt_of_lt_of_le h (mul-le-mul_left 2 (pow_mono (le_of_lt l))))

pub truncated_word : (v b : ℕ) → v < 18446744073709551616 → v / b * b % 18446744073709551616 ≡ v / b * b
truncated_word v b h = mod-eq_of_lt (lt_of_le_of_lt (div-mul-le_self v b) h)

-- ---- rounded to nearest even
pub half_in : (g : ℕ) → g ≤ 63 → (0 < 2 ^ (g - 1)) × (2 ^ (g - 1) ≤ 2 ^ 62)
half_in g h = (pow_pos (g - 1), pow_mono (below g h))
  where
    below : (g : ℕ) → g ≤ 63 → g - 1 ≤ 62
    below g h = omega arith

pub half_word : (g : ℕ) → g ≤ 63 → 1 * 2 ^ (g - 1) % 18446744073709551616 ≡ 2 ^ (g - 1)
half_word g h = ap (λ (n : ℕ). n % 18446744073709551616) (one-mul (2 ^ (g - 1))) ∙ mod-eq_of_lt (lt_of_le_of_lt (half_in g h).1 (lit< tt))

pub carried : (w g : ℕ) → 39 ≤ g → g ≤ 63 → (w + (1 * 2 ^ (g - 1) % 18446744073709551616 - 1) + w / 2 ^ g % 2) / 2 ^ g ≡ closest w (2 ^ g)
carried w g l h =
    ap (λ (n : ℕ). (w + (n - 1) + w / 2 ^ g % 2) / 2 ^ g) (half_word g h)
    ∙ subst (λ (n : ℕ). (w + (2 ^ (g - 1) - 1) + w / n % 2) / n ≡ closest w n) (sym (pow-add 2 1 (g - 1)) ∙ ap (λ (n : ℕ). 2 ^ n) (back g l)) (closest_carry w (2 ^ (g - 1)) (pow_pos (g - 1)))
  where
    back : (g : ℕ) → 39 ≤ g → 1 + (g - 1) ≡ g
    back g l = omega arith

pub closest_most : (w g : ℕ) → w < 2 ^ 63 → 39 ≤ g → closest w (2 ^ g) ≤ 2 ^ 24
closest_most w g h l =
    le_trans (nearest-le (w / 2 ^ g) (compare (w % 2 ^ g * 2) (2 ^ g)))
    ((div-lt_iff_lt-mul (pow_pos g)).1 (lt_of_lt_of_le h (le_trans (pow_mono (wide g l)) (le_of_eq (pow-add 2 24 g)))))
  where
    wide : (g : ℕ) → 39 ≤ g → 63 ≤ 24 + g
    wide g h = omega arith

pub quotient_fits : (x g : ℕ) → x < 2 ^ 64 → 39 ≤ g → x / 2 ^ g < 2 ^ 32
quotient_fits x g h l = (div-lt_iff_lt-mul (pow_pos g)).1 (lt_of_lt_of_le h (le_trans (pow_mono (wide g l)) (le_of_eq (pow-add 2 32 g))))
  where
    wide : (g : ℕ) → 39 ≤ g → 64 ≤ 32 + g
    wide g h = omega arith

-- ---- v normalized: shifted right by one with a sticky bit, or left
module _ (v : ℕ) (P : 0 < v) (W : v < 2 ^ 64) where
  normalized : (w : ℕ) → w ≡ sticky (v * 2 ^ count_leading_zeros 64 v) 2 → Normalized v w
  normalized w e =
      let l = leading_shift 64 v P W (count_leading_zeros 64 v) 0 (add-zero (count_leading_zeros 64 v)) in
      record {
        zeros = leading_lt 64 v P W;
        low = l.0;
        high = l.1;
        is = e;
        most = subst (λ (n : ℕ). n < 2 ^ 63) (sym e) (sticky_below (v * 2 ^ count_leading_zeros 64 v) 2 (lit< tt) (2 ^ 62) l.1);
      }

  pub normalized_full : (w : ℕ) → count_leading_zeros 64 v ≡ 0 → w ≡ sticky v (2 ^ 1) → Normalized v w
  normalized_full w z e = normalized w (e ∙ ap (λ (n : ℕ). sticky n 2) (sym (ap (λ (n : ℕ). v * 2 ^ n) z ∙ mul-one v)))

  pub normalized_shifted : (count_leading_zeros 64 v ≡ 0 → ⊥) → Normalized v (v * 2 ^ (count_leading_zeros 64 v - 1) % 18446744073709551616)
  normalized_shifted f =
      normalized (v * 2 ^ (count_leading_zeros 64 v - 1) % 18446744073709551616)
      (mod-eq_of_lt (lt_of_lt_of_le (leading_shift 64 v P W (count_leading_zeros 64 v - 1) 1 back).1 (lit≤ tt))
      ∙ sym (sticky_exact (v * 2 ^ (count_leading_zeros 64 v - 1)) 2 (lit< tt))
      ∙ ap (λ (n : ℕ). sticky n 2) (mul_assoc v (2 ^ (count_leading_zeros 64 v - 1)) 2 ∙ ap (λ (n : ℕ). v * n) (sym (pow-add 2 (count_leading_zeros 64 v - 1) 1) ∙ ap (λ (n : ℕ). 2 ^ n) back)))
    where
      back : count_leading_zeros 64 v - 1 + 1 ≡ count_leading_zeros 64 v
      back = omega arith

-- what `nearest` of src/round_pack.rt uses
pub ruleset carries = (half_word, half_in, carried, quotient_fits)

-- what `normalized` of src/round_pack.rt uses
pub ruleset normalizes = (normalized_full, normalized_shifted)
