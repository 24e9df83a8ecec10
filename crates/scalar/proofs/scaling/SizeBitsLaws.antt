-- The bits of a size: they tell whether the number is finite, and the size. Assumes nothing.
use mathlib.Core.Path.{◌≡◌, refl, sym, ap, ap₂, ◌∙◌, subst}
use mathlib.Core.Bool.{Bool, true, false, not, cond}
use Prim.Native.Nat.{ℕ, zero, suc, ◌+◌, ◌-◌, ◌*◌, ◌/◌, ◌%◌, ◌^◌, ◌≤◌, ◌<◌, max}
use native.Mathlib.Nat.{le_trans, le_of_eq, lt_of_lt_of_le, lt_of_le_of_lt, le_of_lt, mul-one, mul-le-mul_right}
use native.Mathlib.Omega.{arith}
use lib.Dec.{T, leb, ltb, leb→le, nleb→lt, lt→ltb, lit≤, lit<}
use lib.Arith.{le→nltb}
use lib.Count.{count_leading_zeros, leading_of_zero, leading_top}
use lib.Pow.{pow-add, pow_mono, shl_lt}
use lib.Ieee.{Float, nan, inf, fin, binary32, size, fits, to_bits}
use lib.Ieee.Bits.{is_true, cond_no}
use lib.Ieee.Digits.{size-lt, size-le}
use lib.Ieee.Scale.{finite}
use Rattle.laws.specs.Exact.{size_in}
use Rattle.laws.proofs.values.ValueLaws.{to_bits_value, pattern_is, size_is}
use Rattle.laws.proofs.values.SizeLaws.{size_of_value}
use Rattle.scalar.specs.Parts.{Split}
use Rattle.scalar.specs.Powers.{larger, log2}
use Rattle.scalar.specs.SizeBits.{size_bits, largest_bits, size_of_bits}
use Rattle.scalar.proofs.floats.BitsLaws.{PartsOf, parts_of}
use Rattle.scalar.proofs.floats.PartsLaws.{value_of_parts}
use Rattle.scalar.proofs.scaling.PowersMeaningLaws.{log2_high}

-- ---- the binary logarithm: never less for a larger number
size_mono : (m n : ℕ) → m ≤ n → size m ≤ size n
size_mono m n h = size-le m (size n) (lt_of_le_of_lt h (size-lt n))

log2_mono : (m n : ℕ) → m ≤ n → log2 m ≤ log2 n
log2_mono m n h = let z = size_mono m n h in omega arith

-- of a number below 2 ^ 32, by its leading zeros
by_zeros : (b : ℕ) → b < 4294967296 → 31 - count_leading_zeros 32 b ≡ log2 b
by_zeros zero h = rw (leading_of_zero 32) (unfold size in refl)
by_zeros (suc b) h =
    let t = leading_top 32 (suc b) (omega arith) h in
    sums (count_leading_zeros 32 (suc b)) t.0 (size (suc b)) t.1 (size_is (suc b) t.0 t.2 t.3)
  where
    sums : (z j n : ℕ) → z + suc j ≡ 32 → n ≡ suc j → 31 - z ≡ n - 1
    sums z j n e d = omega arith

-- 1 has the binary logarithm that 0 is given
one_for_zero : (b : ℕ) → b < 4294967296 → 31 - count_leading_zeros 32 (max b 1) ≡ log2 b
one_for_zero zero h = by_zeros 1 (lit≤ tt) ∙ (unfold size in refl)
one_for_zero (suc b) h = ap (λ (n : ℕ). 31 - count_leading_zeros 32 n) (same b) ∙ by_zeros (suc b) h
  where
    same : (b : ℕ) → max (suc b) 1 ≡ suc b
    same b = omega arith

-- ---- the size with the bits b
module _ (b : ℕ) where
  subnormal_size : b < 8388608 → size_of_bits b ≡ b
  unfolding size_of_bits
  subnormal_size h = rw (is_true (ltb b 8388608) (lt→ltb b 8388608 h)) refl

  normal_size : 8388608 ≤ b → size_of_bits b ≡ (b % 8388608 + 8388608) * 2 ^ (b / 8388608 - 1)
  unfolding size_of_bits
  normal_size h = cond_no (ltb b 8388608) b ((b % 8388608 + 8388608) * 2 ^ (b / 8388608 - 1)) (le→nltb b 8388608 h)

  pub log2_subnormal : b < 8388608 → 31 - count_leading_zeros 32 (max b 1) ≡ log2 (size_of_bits b)
  log2_subnormal h = one_for_zero b (lt_of_lt_of_le h (lit≤ tt)) ∙ ap log2 (sym (subnormal_size h))

  pub log2_normal : 8388608 ≤ b → b / 8388608 + 22 ≡ log2 (size_of_bits b)
  log2_normal h =
      one_less (b / 8388608) (size (size_of_bits b)) (some b h)
      (ap size (normal_size h)
      ∙ size_is ((b % 8388608 + 8388608) * 2 ^ k) (23 + k)
      (le_trans (le_of_eq (pow-add 2 23 k)) (mul-le-mul_right (2 ^ k) (least b)))
      (subst (λ (n : ℕ). (b % 8388608 + 8388608) * 2 ^ k < 2 ^ n) (next k) (shl_lt 24 k (most b))))
    where
      next : (k : ℕ) → 24 + k ≡ suc (23 + k)
      next k = omega arith

      k : ℕ
      k = b / 8388608 - 1

      least : (b : ℕ) → 8388608 ≤ b % 8388608 + 8388608
      least b = omega arith

      most : (b : ℕ) → b % 8388608 + 8388608 < 2 ^ 24
      most b = omega arith

      some : (b : ℕ) → 8388608 ≤ b → 0 < b / 8388608
      some b h = omega arith

      one_less : (e z : ℕ) → 0 < e → z ≡ suc (23 + (e - 1)) → e + 22 ≡ z - 1
      one_less e z p d = omega arith

  -- at most 276 for finite numbers, and 277 for any
  pub log2_range : b < 2147483648 → log2 (size_of_bits b) ≤ 277
  log2_range h = go (leb 8388608 b) (leb→le 8388608 b) (nleb→lt 8388608 b)
    where
      go : (t : Bool) → (T t → 8388608 ≤ b) → (T (not t) → b < 8388608) → log2 (size_of_bits b) ≤ 277
      go true k l = le_trans (le_of_eq (sym (log2_normal (k tt)))) (omega arith)
      go false k l = le_trans (le_of_eq (ap log2 (subnormal_size (l tt)))) (let z = size-le b 23 (l tt) in omega arith)

-- never less for larger bits
bits_mono : (b c : ℕ) → b ≤ c → log2 (size_of_bits b) ≤ log2 (size_of_bits c)
bits_mono b c h = go (leb 8388608 b) (leb 8388608 c) (leb→le 8388608 b) (nleb→lt 8388608 b) (leb→le 8388608 c) (nleb→lt 8388608 c)
  where
    go : (t u : Bool) → (T t → 8388608 ≤ b) → (T (not t) → b < 8388608) → (T u → 8388608 ≤ c) → (T (not u) → c < 8388608) → log2 (size_of_bits b) ≤ log2 (size_of_bits c)
    go true true k l m n = rw (← log2_normal b (k tt), ← log2_normal c (m tt)) (omega arith)
    go true false k l m n = let i = k tt in let j = n tt in absurd (omega arith)
    go false true k l m n = let i = m tt in rw (subnormal_size b (l tt), ← log2_normal c i) (let z = size-le b 23 (l tt) in omega arith)
    go false false k l m n = rw (subnormal_size b (l tt), subnormal_size c (n tt)) (log2_mono b c h)

-- ---- the bits of a finite value
parts_bits : (x : Float) (p : PartsOf x) → size_bits x ≡ p.k * 8388608 + p.q
parts_bits x p =
    ap (λ (b : ℕ). b % 2147483648)
    (to_bits_value binary32 x p.s (p.q * 2 ^ p.k) (value_of_parts x p.s p.q p.k p.is) ∙ pattern_is binary32 p.s p.q p.k (le_of_lt p.split.bits) p.split.least)
    ∙ cut p.s p.q p.k p.split.bits p.split.range
  where
    cut : (s : Bool) (q k : ℕ) → q < 2 ^ 24 → k < 254 → (cond s 2147483648 0 + k * 8388608 + q) % 2147483648 ≡ k * 8388608 + q
    cut true q k h l = omega arith
    cut false q k h l = omega arith

split_size : (q k : ℕ) → Split q k → size_of_bits (k * 8388608 + q) ≡ q * 2 ^ k
split_size q k p = go (leb 8388608 q) (leb→le 8388608 q) (nleb→lt 8388608 q)
  where
    significand : (q k : ℕ) → 8388608 ≤ q → q < 2 ^ 24 → (k * 8388608 + q) % 8388608 + 8388608 ≡ q
    significand q k h l = omega arith

    exponent : (q k : ℕ) → 8388608 ≤ q → q < 2 ^ 24 → (k * 8388608 + q) / 8388608 - 1 ≡ k
    exponent q k h l = omega arith

    zero_times : (q : ℕ) → 0 * 8388608 + q ≡ q
    zero_times q = omega arith

    go : (t : Bool) → (T t → 8388608 ≤ q) → (T (not t) → q < 8388608) → size_of_bits (k * 8388608 + q) ≡ q * 2 ^ k
    go true h l =
        normal_size (k * 8388608 + q) (let i = h tt in omega arith)
        ∙ ap₂ (λ (m n : ℕ). m * 2 ^ n) (significand q k (h tt) p.bits) (exponent q k (h tt) p.bits)
    go false h l = rw (p.least (l tt)) (ap size_of_bits (zero_times q) ∙ subnormal_size q (l tt) ∙ sym (mul-one q))

module _ (x : Float) (F : T (fits binary32 x)) (N : T (finite x)) where
  pub finite_bits : size_bits x < 2139095040
  finite_bits = let p = parts_of x F N in lt_of_le_of_lt (le_of_eq (parts_bits x p)) (under p.q p.k p.split.bits p.split.range)
    where
      under : (q k : ℕ) → q < 2 ^ 24 → k < 254 → k * 8388608 + q < 2139095040
      under q k h l = omega arith

  size_by_bits : size_of_bits (size_bits x) ≡ size_in binary32 x
  size_by_bits =
      let p = parts_of x F N in
      ap size_of_bits (parts_bits x p) ∙ split_size p.q p.k p.split
      ∙ sym (size_of_value binary32 x p.s (p.q * 2 ^ p.k) (value_of_parts x p.s p.q p.k p.is)).0

  -- below twice the power of two of any bits that are not lower
  pub under_bits : (b : ℕ) → size_bits x ≤ b → size_in binary32 x < 2 ^ log2 (size_of_bits b) * 2
  under_bits b h =
      let n = size_in binary32 x in
      lt_of_lt_of_le (below_twice n) (mul-le-mul_right 2 (pow_mono (le_trans (le_of_eq (ap log2 (sym size_by_bits))) (bits_mono (size_bits x) b h))))
    where
      below_twice : (n : ℕ) → n < 2 ^ log2 n * 2
      below_twice zero = unfold size in lit< tt
      below_twice (suc n) = log2_high (suc n) (omega arith)

pub bits_finite : (x : Float) → size_bits x < 2139095040 → T (finite x)
unfolding to_bits
bits_finite nan h = absurd (omega arith)
bits_finite (inf true) h = absurd (omega arith)
bits_finite (inf false) h = absurd (omega arith)
bits_finite (fin s m e) h = tt

-- ---- the largest of three
pub larger_by : (f : ℕ → ℕ) → ((m n : ℕ) → m ≤ n → f m ≤ f n) → (m n : ℕ) → f (larger m n) ≡ larger (f m) (f n)
larger_by f mono m n = go (leb m n) (leb→le m n) (nleb→lt m n)
  where
    second : (m n : ℕ) → m ≤ n → larger m n ≡ n
    second m n h = omega arith

    first : (m n : ℕ) → n ≤ m → larger m n ≡ m
    first m n h = omega arith

    go : (t : Bool) → (T t → m ≤ n) → (T (not t) → n < m) → f (larger m n) ≡ larger (f m) (f n)
    go true h l = ap f (second m n (h tt)) ∙ sym (second (f m) (f n) (mono m n (h tt)))
    go false h l = ap f (first m n (le_of_lt (l tt))) ∙ sym (first (f m) (f n) (mono n m (le_of_lt (l tt))))

module _ (x y z : Float) where
  pub largest_below : largest_bits x y z < 2147483648
  unfolding largest_bits
  largest_below = omega arith

  pub largest_finite : largest_bits x y z < 2139095040 → T (finite x) × T (finite y) × T (finite z)
  unfolding largest_bits
  largest_finite h = (bits_finite x (omega arith), bits_finite y (omega arith), bits_finite z (omega arith))

  module _ (F : T (fits binary32 x)) (G : T (fits binary32 y)) (H : T (fits binary32 z)) (I : T (finite x)) (J : T (finite y)) (K : T (finite z)) where
    pub finite_largest : largest_bits x y z < 2139095040
    unfolding largest_bits
    finite_largest = let i = finite_bits x F I in let j = finite_bits y G J in let k = finite_bits z H K in omega arith

    pub largest_log2 : log2 (size_of_bits (largest_bits x y z)) ≡ log2 (larger (size_in binary32 x) (larger (size_in binary32 y) (size_in binary32 z)))
    unfolding largest_bits
    largest_log2 =
        by_bits (size_bits x) (larger (size_bits y) (size_bits z))
        ∙ ap₂ larger (ap log2 (size_by_bits x F I)) (by_bits (size_bits y) (size_bits z) ∙ ap₂ larger (ap log2 (size_by_bits y G J)) (ap log2 (size_by_bits z H K)))
        ∙ sym (by_size (size_in binary32 x) (larger (size_in binary32 y) (size_in binary32 z)) ∙ ap (larger (log2 (size_in binary32 x))) (by_size (size_in binary32 y) (size_in binary32 z)))
      where
        by_bits : (m n : ℕ) → log2 (size_of_bits (larger m n)) ≡ larger (log2 (size_of_bits m)) (log2 (size_of_bits n))
        by_bits m n = larger_by (λ (b : ℕ). log2 (size_of_bits b)) bits_mono m n

        by_size : (m n : ℕ) → log2 (larger m n) ≡ larger (log2 m) (log2 n)
        by_size m n = larger_by log2 log2_mono m n

-- what `log2_of_bits` of src/powers.rt uses
pub ruleset log2_cases = (log2_normal, log2_subnormal)
