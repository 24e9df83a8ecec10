-- A float truncated by its bits: those that count less than 1 are cleared. Assumes nothing.
use mathlib.Core.Path.{◌≡◌, sym, ap, ◌∙◌, subst}
use mathlib.Core.Logic.{inr}
use mathlib.Core.Bool.{Bool, true, false, not, cond}
use Prim.Native.Nat.{ℕ, ◌+◌, ◌-◌, ◌*◌, ◌/◌, ◌%◌, ◌^◌, ◌≤◌, ◌<◌}
use native.Mathlib.Nat.{le_of_eq, lt_of_le_of_lt, mod-eq_of_lt, div-mul-le_self}
use native.Mathlib.Omega.{arith}
use lib.Dec.{T, leb, ltb, eqb, lit<, leb→le, nleb→lt, ltb→lt, nltb→le, eqb→eq}
use lib.Ieee.{Float, nan, inf, fin, binary32, up, down, fits, is_nan, nan_bits, of_bits, to_bits}
use lib.Ieee.Bits.{nan_bits_is, of_bits-to_bits, to_bits-lt}
use Rattle.laws.proofs.numbers.BoolLaws.{pos_of_not_zero}
use Rattle.laws.proofs.rounding.RoundNearest.{round_nearest}
use Rattle.scalar.specs.Integral.{integral, toward_zero}
use Rattle.scalar.proofs.floats.BitsLaws.{fields, at_255, at_0, at_mid, split_0, split_mid}
use Rattle.scalar.proofs.whole_numbers.IntegralLaws.{other_stays, whole_stays}
use Rattle.scalar.proofs.whole_numbers.IntegralRules.{toward_zero_rule}
use Rattle.scalar.proofs.whole_numbers.TruncLaws.{pattern_cleared, trunc_small, trunc_mid}

-- ---- the bits of a number
module _ (x : Float) (fx : T (fits binary32 x)) (nx : T (not (is_nan x))) where
  b : ℕ
  b = to_bits binary32 x

  e : ℕ
  e = to_bits binary32 x % 2147483648 / 8388608

  s : Bool
  s = leb 2147483648 (to_bits binary32 x)

  b_below : b < 4294967296
  unfolding b
  b_below = to_bits-lt binary32 x fx

  -- the sign alone
  sign_left : b / 2147483648 * 2147483648 ≡ cond s 2147483648 0
  unfolding b s
  sign_left = go (leb 2147483648 b) (leb→le 2147483648 b) (nleb→lt 2147483648 b)
    where
      one : 2147483648 ≤ b → b / 2147483648 * 2147483648 ≡ 2147483648
      one h = let l = b_below in omega arith

      none : b < 2147483648 → b / 2147483648 * 2147483648 ≡ 0
      none h = omega arith

      go : (t : Bool) → (T t → 2147483648 ≤ b) → (T (not t) → b < 2147483648) → b / 2147483648 * 2147483648 ≡ cond t 2147483648 0
      go true f g = one (f tt)
      go false f g = none (g tt)

  -- a pattern by its fields
  pattern_is : 0 < e → b ≡ cond s 2147483648 0 + (e - 1) * 8388608 + (b % 8388608 + 8388608)
  unfolding e b
  pattern_is h = let z = sign_left in fold b (cond s 2147483648 0) z h
    where
      fold : (b c : ℕ) → b / 2147483648 * 2147483648 ≡ c → 0 < b % 2147483648 / 8388608 → b ≡ c + (b % 2147483648 / 8388608 - 1) * 8388608 + (b % 8388608 + 8388608)
      fold b c z h = omega arith

  below_one : e < 127 → of_bits binary32 (b / 2 ^ 31 * 2 ^ 31) ≡ integral toward_zero x
  unfolding b e s
  below_one h = ap (of_bits binary32) sign_left ∙ go (eqb e 0) (eqb→eq e 0) (pos_of_not_zero e)
    where
      less : (e : ℕ) → 0 < e → e < 127 → e - 1 < 126
      less e p h = omega arith

      other : (e n : ℕ) → e < n → e ≡ n → ⊥
      other e n h q = omega arith

      most : (e : ℕ) → e < 127 → e ≡ 255 → ⊥
      most e h q = omega arith

      go : (t : Bool) → (T t → e ≡ 0) → (T (not t) → 0 < e) → of_bits binary32 (cond s 2147483648 0) ≡ integral toward_zero x
      go true f g = trunc_small x s (b % 8388608) 0 (at_0 x s e (b % 8388608) (fields x fx) (f tt)) (split_0 b) (lit< tt)
      go false f g =
          trunc_small x s (b % 8388608 + 8388608) (e - 1) (at_mid x s e (b % 8388608) (fields x fx) (λ z. other 0 e (g tt) (sym z)) (most e h)) (split_mid b (most e h)) (less e (g tt) h)

  between : 127 ≤ e → e < 150 → of_bits binary32 (b / 2 ^ (150 - e) * 2 ^ (150 - e)) ≡ integral toward_zero x
  unfolding b e s
  between l h =
      ap (λ (n : ℕ). of_bits binary32 (n / 2 ^ (150 - e) * 2 ^ (150 - e))) (pattern_is (some e l))
      ∙ ap (of_bits binary32) (pattern_cleared s (e - 1) (b % 8388608 + 8388608) (150 - e) (most e l))
      ∙ ap (λ (d : ℕ). of_bits binary32 (cond s 2147483648 0 + (e - 1) * 8388608 + (b % 8388608 + 8388608) / 2 ^ d * 2 ^ d)) (same e l)
      ∙ trunc_mid x s (b % 8388608 + 8388608) (e - 1) (at_mid x s e (b % 8388608) (fields x fx) (zero e l) (large e h)) (split_mid b (large e h)) (least e l) (under e l h) (full b)
    where
      some : (e : ℕ) → 127 ≤ e → 0 < e
      some e l = omega arith

      most : (e : ℕ) → 127 ≤ e → 150 - e ≤ 23
      most e l = omega arith

      same : (e : ℕ) → 127 ≤ e → 150 - e ≡ 149 - (e - 1)
      same e l = omega arith

      zero : (e : ℕ) → 127 ≤ e → e ≡ 0 → ⊥
      zero e l z = omega arith

      large : (e : ℕ) → e < 150 → e ≡ 255 → ⊥
      large e h z = omega arith

      least : (e : ℕ) → 127 ≤ e → 126 ≤ e - 1
      least e l = omega arith

      under : (e : ℕ) → 127 ≤ e → e < 150 → e - 1 < 149
      under e l h = omega arith

      full : (b : ℕ) → 2 ^ 23 ≤ b % 8388608 + 8388608
      full b = omega arith

  from_there : 150 ≤ e → x ≡ integral toward_zero x
  unfolding b e s
  from_there h = go (eqb e 255) (eqb→eq e 255) (λ t z. absurd (differ (eqb e 255) t (subst (λ (n : ℕ). T (eqb n 255)) (sym z) tt)))
    where
      differ : (t : Bool) → T (not t) → T t → ⊥
      differ true n y = n
      differ false n y = y

      zero : (e : ℕ) → 150 ≤ e → e ≡ 0 → ⊥
      zero e l z = omega arith

      least : (e : ℕ) → 150 ≤ e → 149 ≤ e - 1
      least e l = omega arith

      go : (t : Bool) → (T t → e ≡ 255) → (T (not t) → e ≡ 255 → ⊥) → x ≡ integral toward_zero x
      go true f g = other_stays toward_zero x (inr (s, at_255 x s e (b % 8388608) (fields x fx) (f tt) nx))
      go false f g = whole_stays toward_zero toward_zero_rule x s (b % 8388608 + 8388608) (e - 1) (at_mid x s e (b % 8388608) (fields x fx) (zero e h) (g tt)) fx (split_mid b (g tt)) (least e h)

  cleared : (d : ℕ) → d ≡ cond (ltb e 127) 31 (150 - e) → of_bits binary32 (b / 2 ^ d * 2 ^ d) ≡ integral toward_zero x
  unfolding b e
  cleared d q = ap (λ (n : ℕ). of_bits binary32 (b / 2 ^ n * 2 ^ n)) q ∙ go (ltb e 127) (ltb→lt e 127) (nltb→le e 127) (ltb e 150) (ltb→lt e 150) (nltb→le e 150)
    where
      none : (e : ℕ) → 150 ≤ e → 150 - e ≡ 0
      none e h = omega arith

      go : (t : Bool) → (T t → e < 127) → (T (not t) → 127 ≤ e) → (u : Bool) → (T u → e < 150) → (T (not u) → 150 ≤ e)
          → of_bits binary32 (b / 2 ^ cond t 31 (150 - e) * 2 ^ cond t 31 (150 - e)) ≡ integral toward_zero x
      go true f g u k m = below_one (f tt)
      go false f g true k m = between (g tt) (k tt)
      go false f g false k m =
          ap (λ (n : ℕ). of_bits binary32 (b / 2 ^ n * 2 ^ n)) (none e (m tt)) ∙ ap (of_bits binary32) (stays b) ∙ of_bits-to_bits binary32 x fx ∙ from_there (m tt)
        where
          stays : (b : ℕ) → b / 1 * 1 ≡ b
          stays b = omega arith

  pub trunc_bits : (d : ℕ) → d ≡ cond (ltb (to_bits binary32 x % 2147483648 / 8388608) 127) 31 (150 - to_bits binary32 x % 2147483648 / 8388608)
      → of_bits binary32 (to_bits binary32 x / 2 ^ d * 2 ^ d % 4294967296) ≡ integral toward_zero x
  unfolding b e
  trunc_bits d q = ap (of_bits binary32) (mod-eq_of_lt (lt_of_le_of_lt (div-mul-le_self b (2 ^ d)) b_below)) ∙ cleared d q

-- ---- a number made whole is a number
pub integral_number : (by : Bool → ℕ → ℕ → ℕ) (x : Float) → T (not (is_nan x)) → T (not (is_nan (integral by x)))
unfolding is_nan integral
integral_number by nan h = h
integral_number by (inf s) h = tt
integral_number by (fin s m e) h = (round_nearest binary32 s (by s (m * up e) (down e)) 1 (lit< tt)).number

pub trunc_pattern : (x : Float) → T (fits binary32 x) → T (not (is_nan x)) → (d : ℕ) → d ≡ cond (ltb (to_bits binary32 x % 2147483648 / 8388608) 127) 31 (150 - to_bits binary32 x % 2147483648 / 8388608)
    → T (not (nan_bits binary32 (to_bits binary32 x / 2 ^ d * 2 ^ d % 4294967296)))
trunc_pattern x fx n d q = subst (λ (b : Bool). T (not b)) (sym (nan_bits_is binary32 _ ∙ ap is_nan (trunc_bits x fx n d q))) (integral_number toward_zero x n)

-- ---- fewer bits count less than 1 than a pattern has
pub fraction_bits_most : (e d : ℕ) → d ≡ cond (ltb e 127) 31 (150 - e) → d < 32
fraction_bits_most e d q = lt_of_le_of_lt (le_of_eq q) (go (ltb e 127) (nltb→le e 127))
  where
    go : (t : Bool) → (T (not t) → 127 ≤ e) → cond t 31 (150 - e) < 32
    go true f = lit< tt
    go false f = let h = f tt in omega arith
