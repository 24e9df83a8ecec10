-- A float below 2 ^ 23 in size made whole by a sum with 2 ^ 23 and a difference; from there on it is whole. Assumes nothing.
use mathlib.Core.Path.{◌≡◌, refl, sym, ap, ◌∙◌, subst}
use mathlib.Core.Logic.{inl}
use mathlib.Core.Bool.{Bool, true, false, not, cond, true≢false}
use Prim.Native.Nat.{ℕ, suc, ◌+◌, ◌-◌, ◌*◌, ◌/◌, ◌%◌, ◌^◌, ◌≤◌, ◌<◌, compare}
use native.Mathlib.Nat.{le_trans, le_of_lt, lt_of_lt_of_le, lt_of_not-le, not-le_of_lt, add-zero, suc-mul, mul-le-mul_right, mod-lt, div-add-mod', div-lt_iff_lt-mul}
use native.Mathlib.Omega.{arith}
use lib.Dec.{T, ltb, eqb, lit≤, ltb→lt, nltb→le, eqb→eq}
use lib.Pow.{pow_pos, pow_mono, shl_lt}
use lib.Ieee.{Float, nan, inf, fin, binary32, round, neg, add, sub, lt, below, fits, of_bits, is_nan}
use lib.Ieee.Fits.{nearest-le}
use lib.Ieee.Nearest.{closest, nearest-ge}
use lib.Ieee.Scale.{finite}
use Rattle.laws.specs.Exact.{negative, size_in}
use Rattle.laws.proofs.numbers.BoolLaws.{not_zero, pos_of_not_zero}
use Rattle.laws.proofs.values.FiniteLaws.{finite_number}
use Rattle.laws.proofs.operations.OperationLaws.{neg_value}
use Rattle.laws.proofs.values.SizeLaws.{value_of_size, size_of_value}
use Rattle.laws.proofs.values.ValueLaws.{Value, value_finite}
use Rattle.laws.proofs.values.ValueOrderLaws.{lt_is}
use Rattle.scalar.specs.Integral.{integral, toward_negative, ties_to_even}
use Rattle.scalar.specs.Sign.{abs, copysign, one}
use Rattle.scalar.proofs.floats.BitsLaws.{PartsOf, parts_of, round_neg, no_nan, the_nan}
use Rattle.scalar.proofs.floats.PartsLaws.{value_of_parts}
use Rattle.scalar.proofs.floats.SignLaws.{abs_pos, abs_value, copy}
use Rattle.scalar.proofs.whole_numbers.IntegralLaws.{Rule, integral_at, other_stays, whole_stays}
use Rattle.scalar.proofs.whole_numbers.IntegralBits.{trunc_bits, trunc_pattern}
use Rattle.scalar.proofs.whole_numbers.IntegralRules.{toward_negative_rule, ties_to_even_rule}
use Rattle.laws.proofs.values.WholeLaws.{whole_value, whole_more, whole_less, near_whole}

-- ---- the nearest whole number against the fraction
module _ (n d : ℕ) (D : 0 < d) where
  above : closest n d * d ≤ n → closest n d ≡ n / d
  above h = same (closest n d) (n / d) (nearest-ge (n / d) (compare (n % d * 2) d)) (λ (l : n / d < closest n d). over (mul-le-mul_right d l))
    where
      over : suc (n / d) * d ≤ closest n d * d → ⊥
      over l = let r = mod-lt n D in let s = div-add-mod' n d in let t = suc-mul (n / d) d in omega arith

      same : (w q : ℕ) → q ≤ w → (q < w → ⊥) → w ≡ q
      same w q l f = let k = lt_of_not-le f in omega arith

  -- where it is not the whole part
  next : (closest n d ≤ n / d → ⊥) → closest n d ≡ n / d + 1
  next f = same (closest n d) (n / d) (lt_of_not-le f) (nearest-le (n / d) (compare (n % d * 2) d))
    where
      same : (w q : ℕ) → q < w → w ≤ suc q → w ≡ q + 1
      same w q h k = omega arith

  parts_over : closest n d * d ≤ n / d * d → n < closest n d * d → ⊥
  parts_over h l = let s = div-add-mod' n d in omega arith

  pub trunc_next : n < closest n d * d → closest n d ≡ n / d + 1
  trunc_next h = next (λ (l : closest n d ≤ n / d). parts_over (mul-le-mul_right d l) h)

  pub trunc_same : closest n d * d ≤ n → n / d ≡ closest n d
  trunc_same h = sym (above h)

  pub toward_negative_next : closest n d * d < n → closest n d + 1 ≡ toward_negative true n d
  toward_negative_next h = ap (λ (w : ℕ). w + 1) e ∙ ap (λ (t : Bool). n / d + cond t 0 1) (sym (not_zero (n % d) (some (ap (λ (w : ℕ). w * d) e))))
    where
      e : closest n d ≡ n / d
      e = above (le_of_lt h)

      some : closest n d * d ≡ n / d * d → 0 < n % d
      some g = let s = div-add-mod' n d in omega arith

  pub toward_negative_same : n ≤ closest n d * d → closest n d ≡ toward_negative true n d
  toward_negative_same h = go (eqb (n % d) 0) (eqb→eq (n % d) 0) (pos_of_not_zero (n % d))
    where
      exact : n % d ≡ 0 → n ≡ n / d * d
      exact e = let s = div-add-mod' n d in omega arith

      short : 0 < n % d → closest n d * d ≤ n / d * d → ⊥
      short r l = let s = div-add-mod' n d in omega arith

      go : (t : Bool) → (T t → n % d ≡ 0) → (T (not t) → 0 < n % d) → closest n d ≡ n / d + cond t 0 1
      go true f g = ap (λ (m : ℕ). closest m d) (exact (f tt)) ∙ ties_to_even_rule.keeps false (n / d) d D ∙ sym (add-zero (n / d))
      go false f g = next (λ (l : closest n d ≤ n / d). short (g tt) (mul-le-mul_right d l))

-- ---- the constants
abbrev pub whole : Float
whole = of_bits binary32 0x4b000000

whole_is : Value binary32 whole false (2 ^ 23 * 2 ^ 149)
unfolding of_bits
whole_is = (refl, refl)

one_is : Value binary32 one false (1 * 2 ^ 149)
unfolding of_bits
one_is = (refl, refl)

finite_below : (x : Float) → lt (abs x) whole ≡ true → T (finite x)
unfolding abs lt of_bits
finite_below nan h = absurd (true≢false (sym h))
finite_below (inf s) h = absurd (true≢false (sym h))
finite_below (fin s m e) h = tt

-- ---- a sign for a whole number
signed_whole : (x : Float) (n : ℕ) → n ≤ 2 ^ 24 → copysign (round binary32 false n 1) x ≡ round binary32 (negative x) n 1
signed_whole x n h = copy (round binary32 false n 1) x (negative x) refl ∙ go (negative x)
  where
    plain : abs (round binary32 false n 1) ≡ round binary32 false n 1
    plain = sym (abs_pos (round binary32 false n 1) (size_of_value binary32 (round binary32 false n 1) false (n * 2 ^ 149) (whole_value binary32 false n h)).1)

    go : (s : Bool) → cond s (neg (abs (round binary32 false n 1))) (abs (round binary32 false n 1)) ≡ round binary32 s n 1
    go true = ap neg plain ∙ round_neg binary32 false n 1
    go false = plain

module _ (x a : Float) (fx : T (fits binary32 x)) (e : a ≡ abs x) (small : lt a whole ≡ true) where
  n : ℕ
  n = size_in binary32 x

  w : ℕ
  w = closest (size_in binary32 x) (2 ^ 149)

  x_is : Value binary32 x (negative x) n
  unfolding n
  x_is = value_of_size binary32 x fx (finite_below x (ap (λ (y : Float). lt y whole) (sym e) ∙ small))

  a_is : Value binary32 a false n
  a_is = subst (λ (y : Float). Value binary32 y false n) (sym e) (abs_value x (negative x) n (2 ^ 149) x_is)

  n_below : n < 2 ^ 23 * 2 ^ 149
  n_below = ltb→lt n (2 ^ 23 * 2 ^ 149) (subst T (sym small ∙ lt_is a whole false false n (2 ^ 23 * 2 ^ 149) (2 ^ 149) (pow_pos 149) a_is whole_is) tt)

  part_below : n / 2 ^ 149 < 2 ^ 23
  part_below = (div-lt_iff_lt-mul (pow_pos 149)).1 n_below

  w_most : w ≤ 2 ^ 23
  unfolding n w
  w_most = le_trans (nearest-le (n / 2 ^ 149) (compare (n % 2 ^ 149 * 2) (2 ^ 149))) part_below

  w_fits : w ≤ 2 ^ 24
  w_fits = le_trans w_most (lit≤ tt)

  nearest_is : sub binary32 (add binary32 a whole) whole ≡ round binary32 false w 1
  unfolding n w
  nearest_is = near_whole binary32 a whole n a_is whole_is n_below

  found : (by : Bool → ℕ → ℕ → ℕ) → Rule by → integral by x ≡ round binary32 (negative x) (by (negative x) n (2 ^ 149)) 1
  found by rule = integral_at by rule.respects x (negative x) n (2 ^ 149) (pow_pos 149) x_is

  signed_is : copysign (sub binary32 (add binary32 a whole) whole) x ≡ round binary32 (negative x) w 1
  signed_is = ap (λ (y : Float). copysign y x) nearest_is ∙ signed_whole x w w_fits

  w_value : (s : Bool) → Value binary32 (round binary32 s w 1) s (w * 2 ^ 149)
  w_value s = whole_value binary32 s w w_fits

  pub nearest_number : T (not (is_nan (sub binary32 (add binary32 a whole) whole)))
  nearest_number =
      subst (λ (y : Float). T (not (is_nan y))) (sym nearest_is) (finite_number (round binary32 false w 1) (value_finite (round binary32 false w 1) false (w * 2 ^ 149) (2 ^ 149) (w_value false)))

  pub round_sum : copysign (sub binary32 (add binary32 a whole) whole) x ≡ integral ties_to_even x
  unfolding n w
  round_sum = signed_is ∙ sym (found ties_to_even ties_to_even_rule)

  -- ---- downward: one less where the nearest is above x, for either sign

  less_one : n < w * 2 ^ 149 → sub binary32 (round binary32 false w 1) one ≡ round binary32 false (n / 2 ^ 149) 1
  unfolding n w
  less_one h =
      whole_less binary32 (round binary32 false w 1) one w 1 (w_value false) one_is (some w (n / 2 ^ 149) (trunc_next n (2 ^ 149) (pow_pos 149) h))
      ∙ ap (λ (i : ℕ). round binary32 false i 1) (before w (n / 2 ^ 149) (trunc_next n (2 ^ 149) (pow_pos 149) h))
    where
      some : (w q : ℕ) → w ≡ q + 1 → 1 ≤ w
      some w q e = omega arith

      before : (w q : ℕ) → w ≡ q + 1 → w - 1 ≡ q
      before w q e = omega arith

  not_past : ltb n (w * 2 ^ 149) ≡ false → n / 2 ^ 149 ≡ w
  unfolding n w
  not_past h = trunc_same n (2 ^ 149) (pow_pos 149) (nltb→le n (w * 2 ^ 149) (subst (λ (t : Bool). T (not t)) (sym h) tt))

  less_step : (t : Bool) → ltb n (w * 2 ^ 149) ≡ t → cond t (sub binary32 (round binary32 false w 1) one) (round binary32 false w 1) ≡ round binary32 false (n / 2 ^ 149) 1
  less_step true h = less_one (ltb→lt n (w * 2 ^ 149) (subst T (sym h) tt))
  less_step false h = ap (λ (i : ℕ). round binary32 false i 1) (sym (not_past h))

  less_negative : sub binary32 (round binary32 true w 1) one ≡ round binary32 true (w + 1) 1
  unfolding sub
  less_negative = whole_more binary32 (round binary32 true w 1) (neg one) true w 1 (w_value true) (neg_value binary32 one false (1 * 2 ^ 149) one_is)

  floor_step : (s t : Bool) → below s n s (w * 2 ^ 149) ≡ t → cond t (sub binary32 (round binary32 s w 1) one) (round binary32 s w 1) ≡ round binary32 s (toward_negative s n (2 ^ 149)) 1
  unfolding n w
  floor_step false t h = less_step t h
  floor_step true true h = less_negative ∙ ap (λ (i : ℕ). round binary32 true i 1) (toward_negative_next n (2 ^ 149) (pow_pos 149) (ltb→lt (w * 2 ^ 149) n (subst T (sym h) tt)))
  floor_step true false h = ap (λ (i : ℕ). round binary32 true i 1) (toward_negative_same n (2 ^ 149) (pow_pos 149) (nltb→le (w * 2 ^ 149) n (subst (λ (t : Bool). T (not t)) (sym h) tt)))

  pub floor_near : (v : Float) → v ≡ integral ties_to_even x → cond (lt x v) (sub binary32 v one) v ≡ integral toward_negative x
  unfolding n w
  floor_near v v_is = ap (λ (y : Float). cond (lt x v) (sub binary32 y one) y) v_whole ∙ floor_step (negative x) (lt x v) (sym beyond) ∙ sym (found toward_negative toward_negative_rule)
    where
      v_whole : v ≡ round binary32 (negative x) w 1
      v_whole = v_is ∙ found ties_to_even ties_to_even_rule

      beyond : lt x v ≡ below (negative x) n (negative x) (w * 2 ^ 149)
      beyond = ap (lt x) v_whole ∙ lt_is x (round binary32 (negative x) w 1) (negative x) (negative x) n (w * 2 ^ 149) (2 ^ 149) (pow_pos 149) x_is (w_value (negative x))

  pub floor_below : (v : Float) → v ≡ integral ties_to_even x → lt x v ≡ true → sub binary32 v one ≡ integral toward_negative x
  floor_below v v_is h = ap (λ (b : Bool). cond b (sub binary32 v one) v) (sym h) ∙ floor_near v v_is

  pub floor_same : (v : Float) → v ≡ integral ties_to_even x → lt x v ≡ false → v ≡ integral toward_negative x
  floor_same v v_is h = ap (λ (b : Bool). cond b (sub binary32 v one) v) (sym h) ∙ floor_near v v_is

-- what is below 2 ^ 23 in size is a number
pub small_number : (x : Float) → lt (abs x) whole ≡ true → T (not (is_nan x))
unfolding abs lt is_nan
small_number nan h = absurd (true≢false (sym h))
small_number (inf s) h = tt
small_number (fin s m e) h = tt

-- ---- from 2 ^ 23 on, and what is not finite
finite_stays : (by : Bool → ℕ → ℕ → ℕ) → Rule by → (x : Float) → T (fits binary32 x) → T (finite x) → lt (abs x) whole ≡ false → x ≡ integral by x
finite_stays by rule x fx t h = whole_stays by rule x p.s p.q p.k p.is fx p.split (lt_of_not-le below)
  where
    p : PartsOf x
    p = parts_of x fx t

    has : Value binary32 x p.s (p.q * 2 ^ p.k)
    has = value_of_parts x p.s p.q p.k p.is

    large : 2 ^ 172 ≤ p.q * 2 ^ p.k
    large =
        nltb→le (p.q * 2 ^ p.k) (2 ^ 172)
        (subst (λ (b : Bool). T (not b)) (sym h ∙ lt_is (abs x) whole false false (p.q * 2 ^ p.k) (2 ^ 172) (2 ^ 149) (pow_pos 149) (abs_value x p.s (p.q * 2 ^ p.k) (2 ^ 149) has) whole_is) tt)

    upto : (k : ℕ) → k ≤ 148 → 24 + k ≤ 172
    upto k h = omega arith

    below : p.k ≤ 148 → ⊥
    below g = not-le_of_lt (lt_of_lt_of_le (shl_lt 24 p.k p.split.bits) (pow_mono (upto p.k g))) large

pub large_stays : (by : Bool → ℕ → ℕ → ℕ) → Rule by → (x a : Float) → T (fits binary32 x) → a ≡ abs x → lt a whole ≡ false → x ≡ integral by x
unfolding integral
large_stays by rule nan a fx e h = refl
large_stays by rule (inf s) a fx e h = refl
large_stays by rule (fin s m i) a fx e h = finite_stays by rule (fin s m i) fx tt (ap (λ (y : Float). lt y whole) (sym e) ∙ h)

pub nan_stays : (by : Bool → ℕ → ℕ → ℕ) (x : Float) → is_nan x ≡ true → x ≡ integral by x
nan_stays by x h = other_stays by x (inl (the_nan x h))

-- what `round` of src/integral.rt uses
pub ruleset stays = (no_nan, ties_to_even_rule, large_stays, nan_stays)

-- and `trunc`
pub ruleset truncates = (no_nan, trunc_bits, trunc_pattern, nan_stays)
