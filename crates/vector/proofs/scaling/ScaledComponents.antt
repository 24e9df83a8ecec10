-- A component times a power of two: its size, and that no bit of a size of at least 1 is lost. Assumes nothing.
use mathlib.Core.Path.{◌≡◌, sym, ap, ◌∙◌, subst}
use mathlib.Core.Bool.{Bool, true, false, not}
use Prim.Native.Nat.{ℕ, suc, ◌+◌, ◌-◌, ◌*◌, ◌^◌, ◌≤◌, ◌<◌}
use native.Mathlib.Nat.{le_trans, le_of_eq, le_of_lt, lt_of_lt_of_le, lt_of_le_of_lt, lt_of_not-le, not-le_of_lt, mul_assoc, mul_comm, mul_right_comm, mul-le-mul_right, mul-lt-mul_of_pos_right, lt_of_mul-lt-mul_right, pow-suc, eq_of_mul-eq-mul_right}
use native.Mathlib.Omega.{arith}
use lib.Dec.{T, leb, leb→le, nleb→lt, lit≤}
use lib.Pow.{pow_pos, pow-add, pow_mono, shl_lt}
use lib.Ieee.{Float, nan, inf, fin, binary32, up, down, round, fits}
use lib.Ieee.Exact.{HasValue, round_exact}
use lib.Ieee.Fits.{down_pos, round-fits}
use lib.Ieee.Scale.{finite, round_same}
use Rattle.laws.specs.Exact.{negative, size_in}
use Rattle.laws.proofs.values.ValueLaws.{Value, value_unique}
use Rattle.laws.proofs.values.SizeLaws.{Significand, significand, size_of_value, value_of_size}
use Rattle.laws.proofs.rounding.ErrorLaws.{rounded, rounded_least, rounded_most, rounded_value}
use Rattle.scalar.specs.Powers.{times_power}
use Rattle.scalar.proofs.scaling.PowerLaws.{power_at, power_sized}
use Rattle.vector.proofs.values.SignedVectors.{D}

-- two fractions that one value is
cross_value : (y : Float) (s t : Bool) (a c b d : ℕ) → HasValue y s a c → HasValue y t b d → a * d ≡ b * c
cross_value nan s t a c b d h k = absurd h
cross_value (inf u) s t a c b d h k = absurd h
cross_value (fin u m e) s t a c b d h k =
    eq_of_mul-eq-mul_right (down e) (down_pos e) (a * d) (b * c)
    (mul_right_comm a d (down e) ∙ ap (λ (n : ℕ). n * d) (sym h.1) ∙ mul_right_comm (m * up e) c d ∙ ap (λ (n : ℕ). n * c) k.1 ∙ mul_right_comm b (down e) c)

-- ---- a component x of fewer than 2 ^ (j + 1) smallest values, times 2 ^ (149 - j)
module _ (j : ℕ) (x : Float) (f : T (fits binary32 x)) (t : T (finite x)) (h : size_in binary32 x < 2 ^ j * 2) where
  abbrev N : ℕ
  N = size_in binary32 x

  -- its size: N / 2 ^ j, in smallest values, rounded
  abbrev W : ℕ
  W = rounded binary32 (N * D) (2 ^ j)

  times_is : times_power j x ≡ round binary32 (negative x) N (2 ^ j)
  times_is = power_at j x (negative x) N (value_of_size binary32 x f t)

  under : N * D ≤ 2 ^ j * D * 2
  under = le_trans (mul-le-mul_right D (le_of_lt h)) (le_of_eq (mul_right_comm (2 ^ j) 2 D))

  pub part_value : Value binary32 (times_power j x) (negative x) W
  part_value =
      rounded_value binary32 (N * D) (2 ^ j) 1 (pow_pos j) under (times_power j x) (negative x) (lit≤ tt)
      (power_sized j x (negative x) N (value_of_size binary32 x f t))

  pub part_fits : T (fits binary32 (times_power j x))
  part_fits = subst (λ (y : Float). T (fits binary32 y)) (sym times_is) (round-fits binary32 (negative x) N (2 ^ j))

  pub part_most : W ≤ 2 ^ 150
  part_most = rounded_most binary32 (N * D) (2 ^ j) 1 (pow_pos j) under

  pub part_least : 2 ^ j ≤ N → D ≤ W
  part_least l = rounded_least binary32 (N * D) (2 ^ j) 0 (pow_pos j) (le_trans (le_of_eq (times_one (2 ^ j * D))) (mul-le-mul_right D l))
    where
      times_one : (n : ℕ) → n * 1 ≡ n
      times_one n = omega arith

  -- the bits of x are all kept where it is of the largest size
  pub part_exact : 2 ^ j ≤ N → W * 2 ^ j ≡ N * D
  part_exact l =
      cross_value (times_power j x) (negative x) (negative x) W D N (2 ^ j) part_value
      (subst (λ (y : Float). HasValue y (negative x) N (2 ^ j)) (sym times_is) (round_exact binary32 (negative x) N (2 ^ j) q k (pow_pos j) d.few fine same))
    where
      d : Significand binary32 x
      d = significand binary32 x f t

      q : ℕ
      q = (significand binary32 x f t).bits

      z : ℕ
      z = (significand binary32 x f t).exponent

      k : ℕ
      k = (significand binary32 x f t).exponent + 149 - j

      is : N ≡ q * 2 ^ z
      is = (size_of_value binary32 x (negative x) (q * 2 ^ z) d.value).0

      reach : j < 24 + z
      reach = lt_of_not-le (λ (g : 24 + z ≤ j). not-le_of_lt (lt_of_le_of_lt (le_of_eq is) (shl_lt 24 z d.few)) (le_trans (pow_mono g) l))

      back : (z j : ℕ) → j < 24 + z → z + 149 ≡ z + 149 - j + j
      back z j g = omega arith

      same : N * 2 ^ 149 ≡ q * 2 ^ k * 2 ^ j
      same =
          ap (λ (n : ℕ). n * 2 ^ 149) is ∙ mul_assoc q (2 ^ z) (2 ^ 149)
          ∙ ap (λ (n : ℕ). q * n) (sym (pow-add 2 z 149) ∙ ap (λ (n : ℕ). 2 ^ n) (back z j reach) ∙ pow-add 2 k j)
          ∙ sym (mul_assoc q (2 ^ k) (2 ^ j))

      fine : q * 2 ^ k < 2 ^ 277
      fine =
          lt_of_mul-lt-mul_right (2 ^ j)
          (lt_of_le_of_lt (le_of_eq (sym same))
          (lt_of_lt_of_le (mul-lt-mul_of_pos_right h (pow_pos 149)) (le_trans (le_of_eq (ap (λ (n : ℕ). n * D) (sym (pow-suc 2 j)) ∙ sym (pow-add 2 (suc j) 149))) (le_trans (pow_mono (room j)) (le_of_eq (pow-add 2 277 j))))))
        where
          room : (j : ℕ) → suc j + 149 ≤ 277 + j
          room j = omega arith

  -- in each case it is at most M / 2 ^ j, for an M of at least N and 2 ^ j
  pub part_bound : (M : ℕ) → N ≤ M → 2 ^ j ≤ M → W * 2 ^ j ≤ M * D
  part_bound M l m = go (leb (2 ^ j) N) (leb→le (2 ^ j) N) (nleb→lt (2 ^ j) N)
    where
      times_one : (n : ℕ) → n ≡ n * 1
      times_one n = omega arith

      go : (b : Bool) → (T b → 2 ^ j ≤ N) → (T (not b) → N < 2 ^ j) → W * 2 ^ j ≤ M * D
      go true p q = le_trans (le_of_eq (part_exact (p tt))) (mul-le-mul_right D l)
      go false p q =
          le_trans (mul-le-mul_right (2 ^ j) (rounded_most binary32 (N * D) (2 ^ j) 0 (pow_pos j) (le_trans (mul-le-mul_right D (le_of_lt (q tt))) (le_of_eq (times_one (2 ^ j * D))))))
          (le_trans (le_of_eq (mul_comm D (2 ^ j))) (mul-le-mul_right D m))

-- ---- a component times 1, and times 2
module _ (x : Float) (f : T (fits binary32 x)) (t : T (finite x)) where
  abbrev K : ℕ
  K = size_in binary32 x

  d : Significand binary32 x
  d = significand binary32 x f t

  value : Value binary32 x (negative x) K
  value = value_of_size binary32 x f t

  is : K ≡ d.bits * 2 ^ d.exponent
  is = (size_of_value binary32 x (negative x) (d.bits * 2 ^ d.exponent) d.value).0

  pub times_one : times_power 149 x ≡ x
  times_one =
      power_at 149 x (negative x) K value
      ∙ value_unique binary32 (round binary32 (negative x) K D) x (negative x) K (round-fits binary32 (negative x) K D) f
      (round_exact binary32 (negative x) K D d.bits d.exponent (pow_pos 149) d.few d.below (ap (λ (n : ℕ). n * D) is)) value

  pub times_two : K * 2 < 2 ^ 277 → Value binary32 (times_power 148 x) (negative x) (K * 2)
  times_two h =
      subst (λ (y : Float). Value binary32 y (negative x) (K * 2)) (sym (power_at 148 x (negative x) K value ∙ round_same binary32 (negative x) K (2 ^ 148) (K * 2) D (pow_pos 148) (pow_pos 149) (sym (mul_assoc K 2 (2 ^ 148)))))
      (round_exact binary32 (negative x) (K * 2) D d.bits (d.exponent + 1) (pow_pos 149) d.few (lt_of_le_of_lt (le_of_eq (sym twice)) h) (ap (λ (n : ℕ). n * D) twice))
    where
      twice : K * 2 ≡ d.bits * 2 ^ (d.exponent + 1)
      twice = ap (λ (n : ℕ). n * 2) is ∙ mul_assoc d.bits (2 ^ d.exponent) 2 ∙ ap (λ (n : ℕ). d.bits * n) (sym (pow-add 2 d.exponent 1))
