-- A significand truncated to whole units, and the pattern of what is left. Assumes nothing.
use mathlib.Core.Path.{◌≡◌, refl, sym, ap, ◌∙◌, subst}
use mathlib.Core.Bool.{Bool, true, false, cond}
use Prim.Native.Nat.{ℕ, ◌+◌, ◌-◌, ◌*◌, ◌/◌, ◌%◌, ◌^◌, ◌≤◌, ◌<◌}
use native.Mathlib.Nat.{le_trans, le_of_eq, le_of_lt, lt_of_le_of_lt, lt_of_lt_of_le, mul-one, add-mul, mul_assoc, mul-le-mul_left, mul-le-mul_right, lt_of_mul-lt-mul_right, not-le_of_lt, mod-lt, div-add-mod', div-mul-le_self, div-lt_iff_lt-mul}
use native.Mathlib.Omega.{arith}
use lib.Arith.{digits_div}
use lib.Dec.{lit≤, lit<}
use lib.Pow.{pow_pos, pow-add, pow_mono, shl_lt}
use lib.Ieee.{Float, binary32, odd, units, round, of_bits}
use lib.Ieee.Bits.{of_bits-fits}
use lib.Ieee.Exact.{units_val}
use lib.Ieee.Fits.{round-fits}
use Rattle.laws.proofs.values.ValueLaws.{Value, value_unique}
use Rattle.laws.proofs.values.WholeLaws.{whole_value}
use Rattle.scalar.specs.Integral.{integral, toward_zero}
use Rattle.scalar.specs.Parts.{Split, Packs}
use Rattle.scalar.proofs.floats.PackLaws.{pack_is}
use Rattle.scalar.proofs.floats.PartsLaws.{value_of_parts}
use Rattle.scalar.proofs.whole_numbers.IntegralLaws.{integral_at}
use Rattle.scalar.proofs.whole_numbers.IntegralRules.{toward_zero_rule}

-- the low bits of a sum with a multiple of u
low_cleared : (m q u : ℕ) → 0 < u → (m * u + q) / u * u ≡ m * u + q / u * u
low_cleared m q u U = ap (λ (z : ℕ). z / u * u) split ∙ ap (λ (z : ℕ). z * u) (digits_div (m + q / u) (mod-lt q U)) ∙ add-mul m (q / u) u
  where
    split : m * u + q ≡ (m + q / u) * u + q % u
    split = let h = div-add-mod' q u in omega (arith, add-mul m (q / u) u)

-- 2 ^ d divides 2 ^ 23
unit_divides : (d : ℕ) → d ≤ 23 → 2 ^ 23 ≡ 2 ^ (23 - d) * 2 ^ d
unit_divides d h = ap (λ (n : ℕ). 2 ^ n) (parts d h) ∙ pow-add 2 (23 - d) d
  where
    parts : (d : ℕ) → d ≤ 23 → 23 ≡ 23 - d + d
    parts d h = omega arith

-- the low bits of a pattern are those of its significand
pub pattern_cleared : (s : Bool) (k q d : ℕ) → d ≤ 23
    → (cond s 2147483648 0 + k * 8388608 + q) / 2 ^ d * 2 ^ d ≡ cond s 2147483648 0 + k * 8388608 + q / 2 ^ d * 2 ^ d
pattern_cleared s k q d h =
    ap (λ (z : ℕ). (z + q) / 2 ^ d * 2 ^ d) (whole s) ∙ low_cleared ((cond s 256 0 + k) * 2 ^ (23 - d)) q (2 ^ d) (pow_pos d) ∙ ap (λ (z : ℕ). z + q / 2 ^ d * 2 ^ d) (sym (whole s))
  where
    high : (s : Bool) → cond s 2147483648 0 + k * 8388608 ≡ (cond s 256 0 + k) * 8388608
    high true = omega arith
    high false = omega arith

    whole : (s : Bool) → cond s 2147483648 0 + k * 8388608 ≡ (cond s 256 0 + k) * 2 ^ (23 - d) * 2 ^ d
    whole s = high s ∙ ap (λ (z : ℕ). (cond s 256 0 + k) * z) (unit_divides d h) ∙ sym (mul_assoc (cond s 256 0 + k) (2 ^ (23 - d)) (2 ^ d))

-- w whole and its pattern
packed_whole : (s : Bool) (q k w : ℕ) → Packs q k → q * 2 ^ k ≡ w * 2 ^ 149 → w ≤ 2 ^ 24 → of_bits binary32 (cond s 2147483648 0 + k * 8388608 + q) ≡ round binary32 s w 1
packed_whole s q k w P e h =
    value_unique binary32 (of_bits binary32 (cond s 2147483648 0 + k * 8388608 + q)) (round binary32 s w 1) s (w * 2 ^ 149) (of_bits-fits binary32 _) (round-fits binary32 s w 1)
    (subst (λ (x : Float). Value binary32 x s (w * 2 ^ 149)) (sym (pack_is s q k P)) (subst (λ (n : ℕ). Value binary32 (units binary32 s q k) s n) e (units_val binary32 s q k below)))
    (whole_value binary32 s w h)
  where
    below : q * 2 ^ k < 2 ^ 277
    below = lt_of_le_of_lt (le_of_eq e) (lt_of_le_of_lt (mul-le-mul_right (2 ^ 149) h) (lit< tt))

-- ---- a significand q and its exponent k: d bits of q count less than 1
module _ (x : Float) (s : Bool) (q k : ℕ) (e : x ≡ odd 24 s q k 149) (S : Split q k) where
  trunc_at : integral toward_zero x ≡ round binary32 s (q * 2 ^ k / 2 ^ 149) 1
  trunc_at = integral_at toward_zero toward_zero_rule.respects x s (q * 2 ^ k) (2 ^ 149) (pow_pos 149) (value_of_parts x s q k e)

  -- all of them do
  pub trunc_small : k < 126 → of_bits binary32 (cond s 2147483648 0) ≡ integral toward_zero x
  trunc_small h =
      ap (of_bits binary32) (sides (cond s 2147483648 0)) ∙ packed_whole s 0 0 0 (record { most = lit≤ tt; range = lit≤ tt; least = λ l. refl }) refl (lit≤ tt)
      ∙ sym (trunc_at ∙ ap (λ (w : ℕ). round binary32 s w 1) none)
    where
      sides : (n : ℕ) → n ≡ n + 0 + 0
      sides n = omega arith

      upto : (k : ℕ) → k < 126 → 24 + k ≤ 149
      upto k h = omega arith

      zero_of : (n : ℕ) → n < 1 → n ≡ 0
      zero_of n h = omega arith

      none : q * 2 ^ k / 2 ^ 149 ≡ 0
      none = zero_of (q * 2 ^ k / 2 ^ 149) ((div-lt_iff_lt-mul (pow_pos 149)).1 (lt_of_lt_of_le (shl_lt 24 k S.bits) (pow_mono (upto k h))))

  module _ (l : 126 ≤ k) (h : k < 149) (full : 2 ^ 23 ≤ q) where
    d : ℕ
    d = 149 - k

    w : ℕ
    w = q / 2 ^ d

    lower : (k : ℕ) → 126 ≤ k → 149 - k ≤ 23
    lower k l = omega arith

    apart : (k : ℕ) → k < 149 → 149 - k + k ≡ 149
    apart k h = omega arith

    joined : w * 2 ^ d * 2 ^ k ≡ w * 2 ^ 149
    unfolding d
    joined = mul_assoc w (2 ^ d) (2 ^ k) ∙ ap (λ (n : ℕ). w * n) (sym (pow-add 2 d k) ∙ ap (λ (n : ℕ). 2 ^ n) (apart k h))

    w_is : q * 2 ^ k / 2 ^ 149 ≡ w
    unfolding d w
    w_is =
        toward_zero_rule.respects s (q * 2 ^ k) (2 ^ 149) q (2 ^ d) (pow_pos 149) (pow_pos d)
        (mul_assoc q (2 ^ k) (2 ^ d) ∙ ap (λ (n : ℕ). q * n) (sym (pow-add 2 k d) ∙ ap (λ (n : ℕ). 2 ^ n) (turned k h)))
      where
        turned : (k : ℕ) → k < 149 → k + (149 - k) ≡ 149
        turned k h = omega arith

    times : 2 ^ 23 ≡ 2 ^ (23 - d) * 2 ^ d
    unfolding d
    times = unit_divides d (lower k l)

    w_fits : w ≤ 2 ^ 24
    unfolding w
    w_fits = le_trans (subst (λ (n : ℕ). n ≤ w * 2 ^ d) (mul-one w) (mul-le-mul_left w (pow_pos d))) (le_trans (div-mul-le_self q (2 ^ d)) (le_of_lt S.bits))

    packs : Packs (w * 2 ^ d) k
    unfolding w
    packs = record {
      most = le_trans (div-mul-le_self q (2 ^ d)) (le_of_lt S.bits);
      range = omega arith;
      least = λ g. absurd (not-le_of_lt (short g) full);
    }
      where
        short : q / 2 ^ d * 2 ^ d < 2 ^ 23 → q < 2 ^ 23
        short g = lt_of_lt_of_le ((div-lt_iff_lt-mul (pow_pos d)).0 (lt_of_mul-lt-mul_right (2 ^ d) (lt_of_lt_of_le g (le_of_eq times)))) (le_of_eq (sym times))

    pub trunc_mid : of_bits binary32 (cond s 2147483648 0 + k * 8388608 + q / 2 ^ (149 - k) * 2 ^ (149 - k)) ≡ integral toward_zero x
    unfolding d w
    trunc_mid = packed_whole s (w * 2 ^ d) k w packs joined w_fits ∙ sym (trunc_at ∙ ap (λ (n : ℕ). round binary32 s n 1) w_is)
