-- The rounded root of 4 L is twice that of L, and the rounded reciprocal half of its. Assumes nothing.
use mathlib.Core.Path.{◌≡◌, sym, ap, ◌∙◌, subst}
use mathlib.Core.Bool.{false}
use Prim.Native.Nat.{ℕ, zero, suc, ◌+◌, ◌*◌, ◌^◌, ◌≤◌, ◌<◌}
use native.Mathlib.Nat.{le_trans, le_of_eq, lt_of_lt_of_le, lt_of_le_of_lt, not-le_of_lt, mul-one, mul_assoc, mul-le-mul_left, mul-le-mul_right, lt_of_mul-lt-mul_right, mul-pos, pow-suc}
use native.Mathlib.Omega.{arith}
use lib.Dec.{T, lit≤, lit<}
use lib.Pow.{pow_pos, pow-add}
use lib.Ieee.{Float, binary32, fits, div}
use lib.Ieee.Scale.{round_same}
use Rattle.laws.specs.Exact.{negative, size_in}
use Rattle.laws.proofs.values.ValueLaws.{Value, value_finite}
use Rattle.laws.proofs.values.SizeLaws.{Significand, significand, size_of_value}
use Rattle.laws.proofs.operations.OperationLaws.{div_at}
use Rattle.laws.proofs.rounding.ErrorLaws.{rounded, rounded_value}
use Rattle.scalar.specs.Root.{root}
use Rattle.scalar.specs.RootMeaning.{NearestRoot, radicand}
use Rattle.scalar.proofs.roots.RootMeaningLaws.{root_means}
use Rattle.vector.specs.Vectors.{one}
use Rattle.vector.proofs.values.SignedVectors.{D, one_is}
use Rattle.scalar.proofs.roots.RootOrderLaws.{nearest_value, root_at_least, root_at_most}
use Rattle.vector.proofs.kept.F32Sizes.{IsSize, size_exact, size_as, rounded_scale}

-- ---- twice a size, and half of a large one
module _ (n : ℕ) (s : IsSize n) where
  d : Significand binary32 s.float
  d = significand binary32 s.float s.fit (value_finite s.float false n D s.value)

  is : n ≡ d.bits * 2 ^ d.exponent
  is = sym (size_as n s) ∙ (size_of_value binary32 s.float (negative s.float) (d.bits * 2 ^ d.exponent) d.value).0

  twice_size : n * 2 < 2 ^ 277 → IsSize (n * 2)
  twice_size h = subst (λ (m : ℕ). IsSize m) (sym e) (size_exact d.bits (d.exponent + 1) d.few (lt_of_le_of_lt (le_of_eq (sym e)) h))
    where
      e : n * 2 ≡ d.bits * 2 ^ (d.exponent + 1)
      e = ap (λ (m : ℕ). m * 2) is ∙ mul_assoc d.bits (2 ^ d.exponent) 2 ∙ ap (λ (m : ℕ). d.bits * m) (sym (pow-add 2 d.exponent 1))

record Half (n : ℕ) : Type 0 where
  half : ℕ
  same : n ≡ half * 2
  size : IsSize half

half_size : (n : ℕ) → IsSize n → 2 ^ 24 ≤ n → n < 2 ^ 277 → Half n
half_size n s large most = go (d n s).exponent (is n s)
  where
    go : (z : ℕ) → n ≡ (d n s).bits * 2 ^ z → Half n
    go zero e = absurd (not-le_of_lt (lt_of_le_of_lt (le_of_eq (e ∙ mul-one (d n s).bits)) (d n s).few) large)
    go (suc z) e =
        let f : n ≡ (d n s).bits * 2 ^ z * 2 = e ∙ ap (λ (m : ℕ). (d n s).bits * m) (pow-suc 2 z) ∙ sym (mul_assoc (d n s).bits (2 ^ z) 2) in
        record { half = (d n s).bits * 2 ^ z; same = f; size = size_exact (d n s).bits z (d n s).few (lt_of_le_of_lt (more ((d n s).bits * 2 ^ z) n f) most) }
      where
        more : (m n : ℕ) → n ≡ m * 2 → m ≤ n
        more m n e = omega arith

-- ---- the numbers: r beside r' = 2 h, in the middle of r' and 2 r
middle_up : (a a' r r' h : ℕ) → a' ≡ 4 * a → r' ≡ h * 2 → 4 * a' < (r' + r * 2) * (r' + r * 2) → (r + h) * (r + h) < 4 * a → ⊥
middle_up a a' r r' h e d k l = let m : 4 * a' < (h * 2 + r * 2) * (h * 2 + r * 2) = rw (sym d) k in omega arith

middle_down : (a a' r r' h : ℕ) → a' ≡ 4 * a → r' ≡ h * 2 → (r' + r * 2) * (r' + r * 2) < 4 * a' → 4 * a < (r + h) * (r + h) → ⊥
middle_down a a' r r' h e d k l = let m : (h * 2 + r * 2) * (h * 2 + r * 2) < 4 * a' = rw (sym d) k in omega arith

equal : (m n : ℕ) → (m < n → ⊥) → (n < m → ⊥) → m ≡ n
equal m n h k = omega arith

-- ---- l is L smallest values, and k is 4 L
module _
    (l k : Float) (L : ℕ) (fl : T (fits binary32 l)) (fk : T (fits binary32 k)) (vl : Value binary32 l false L) (vk : Value binary32 k false (L * 4))
    (lo : 2 ^ 147 ≤ L) (hi : L ≤ 2 ^ 153) where
  size_l : size_in binary32 l ≡ L
  size_l = (size_of_value binary32 l false L vl).0

  size_k : size_in binary32 k ≡ L * 4
  size_k = (size_of_value binary32 k false (L * 4) vk).0

  some : 0 < L
  some = lt_of_lt_of_le (lit< tt) lo

  more : L ≤ L * 4
  more = times L
    where
      times : (n : ℕ) → n ≤ n * 4
      times n = omega arith

  near_l : NearestRoot l (root l)
  near_l = root_means l fl (value_finite l false L D vl) (size_of_value binary32 l false L vl).1 (lt_of_lt_of_le some (le_of_eq (sym size_l)))

  near_k : NearestRoot k (root k)
  near_k = root_means k fk (value_finite k false (L * 4) D vk) (size_of_value binary32 k false (L * 4) vk).1 (lt_of_lt_of_le some (le_trans more (le_of_eq (sym size_k))))

  -- the sizes of the roots
  abbrev r : ℕ
  r = size_in binary32 (root l)

  abbrev s : ℕ
  s = size_in binary32 (root k)

  r_size : IsSize r
  r_size = record { float = root l; fit = near_l.value; value = nearest_value l (root l) near_l }

  s_size : IsSize s
  s_size = record { float = root k; fit = near_k.value; value = nearest_value k (root k) near_k }

  quarter : radicand k ≡ 4 * radicand l
  quarter = ap (λ (n : ℕ). n * D) size_k ∙ turn L D ∙ ap (λ (n : ℕ). 4 * (n * D)) (sym size_l)
    where
      turn : (n c : ℕ) → n * 4 * c ≡ 4 * (n * c)
      turn n c = omega arith

  -- 2 ^ 100 ≤ r, s ≤ 2 ^ 160
  power : (i : ℕ) → 1 * 2 ^ i < 2 ^ 277 → IsSize (1 * 2 ^ i)
  power i h = size_exact 1 i (lit< tt) h

  r_least : 2 ^ 100 ≤ r
  r_least = let y = power 100 (lit< tt) in
      root_at_least l (root l) y.float (2 ^ 100) near_l y.fit y.value (le_trans (lit≤ tt) (le_trans (mul-le-mul_right D lo) (le_of_eq (ap (λ (n : ℕ). n * D) (sym size_l)))))

  s_least : 2 ^ 100 ≤ s
  s_least = let y = power 100 (lit< tt) in
      root_at_least k (root k) y.float (2 ^ 100) near_k y.fit y.value (le_trans (lit≤ tt) (le_trans (mul-le-mul_right D (le_trans lo more)) (le_of_eq (ap (λ (n : ℕ). n * D) (sym size_k)))))

  r_most : r ≤ 2 ^ 160
  r_most = let y = power 160 (lit< tt) in
      root_at_most l (root l) y.float (2 ^ 160) near_l y.fit y.value (le_trans (le_of_eq (ap (λ (n : ℕ). n * D) size_l)) (le_trans (mul-le-mul_right D hi) (lit≤ tt)))

  s_most : s ≤ 2 ^ 160
  s_most = let y = power 160 (lit< tt) in
      root_at_most k (root k) y.float (2 ^ 160) near_k y.fit y.value
      (le_trans (le_of_eq (ap (λ (n : ℕ). n * D) size_k)) (le_trans (mul-le-mul_right D (mul-le-mul_right 4 hi)) (lit≤ tt)))

  -- 2 r, and half of s
  r_twice : IsSize (r * 2)
  r_twice = twice_size r r_size (lt_of_le_of_lt (mul-le-mul_right 2 r_most) (lit< tt))

  s_half : Half s
  s_half = half_size s s_size (le_trans (lit≤ tt) s_least) (lt_of_le_of_lt s_most (lit< tt))

  twice : s ≡ r * 2
  twice = equal s (r * 2) under over
    where
      less : {m n : ℕ} → m < n * 2 → m ≡ s_half.half * 2 → s_half.half < n
      less k e = lt_of_mul-lt-mul_right 2 (lt_of_le_of_lt (le_of_eq (sym e)) k)

      greater : {m n : ℕ} → n * 2 < m → m ≡ s_half.half * 2 → n < s_half.half
      greater k e = lt_of_mul-lt-mul_right 2 (lt_of_lt_of_le k (le_of_eq e))

      under : s < r * 2 → ⊥
      under g =
          middle_up (radicand l) (radicand k) r s s_half.half quarter s_half.same
          (subst (λ (m : ℕ). s < m → 4 * radicand k < (s + m) * (s + m)) (size_as (r * 2) r_twice) (near_k.upper r_twice.float r_twice.fit) g)
          (subst (λ (m : ℕ). m < r → (r + m) * (r + m) < 4 * radicand l) (size_as s_half.half s_half.size) (near_l.lower s_half.size.float s_half.size.fit) (less g s_half.same))

      over : r * 2 < s → ⊥
      over g =
          middle_down (radicand l) (radicand k) r s s_half.half quarter s_half.same
          (subst (λ (m : ℕ). m < s → (s + m) * (s + m) < 4 * radicand k) (size_as (r * 2) r_twice) (near_k.lower r_twice.float r_twice.fit) g)
          (subst (λ (m : ℕ). r < m → 4 * radicand l < (r + m) * (r + m)) (size_as s_half.half s_half.size) (near_l.upper s_half.size.float s_half.size.fit) (greater g s_half.same))

  -- ---- the reciprocals
  pub recip_of : ℕ
  recip_of = rounded binary32 (D * D) (size_in binary32 (root l) * 2)

  r_pos : 0 < r
  r_pos = lt_of_lt_of_le (lit< tt) r_least

  r2_pos : 0 < r * 2
  r2_pos = mul-pos r_pos (lit< tt)

  -- D * D / (2 r) is at most 2 ^ 50
  bound : D * D ≤ r * 2 * D * 2 ^ 50
  bound = le_trans (lit≤ tt) (mul-le-mul_right (2 ^ 50) (mul-le-mul_right D (mul-le-mul_right 2 r_least)))

  pub recip_second : Value binary32 (div binary32 one (root k)) false recip_of
  unfolding recip_of
  recip_second =
      rounded_value binary32 (D * D) (r * 2) 50 r2_pos bound (div binary32 one (root k)) false (lit≤ tt)
      (div_at binary32 one (root k) false false D (r * 2) one_is (subst (λ (n : ℕ). Value binary32 (root k) false n) twice (nearest_value k (root k) near_k)) r2_pos)

  pub recip_first : Value binary32 (div binary32 one (root l)) false (recip_of * 2)
  unfolding recip_of
  recip_first =
      subst (λ (n : ℕ). Value binary32 (div binary32 one (root l)) false n) (rounded_scale (D * D) (r * 2) 1 r2_pos (le_trans (mul-le-mul_left (2 ^ 23) (mul-le-mul_right 2 r_most)) (lit≤ tt)))
      (rounded_value binary32 (D * D * 2) (r * 2) 51 r2_pos (le_trans (mul-le-mul_right 2 bound) (le_of_eq (mul_assoc (r * 2 * D) (2 ^ 50) 2))) (div binary32 one (root l)) false (lit≤ tt)
      (div_at binary32 one (root l) false false D r one_is (nearest_value l (root l) near_l) r_pos
      ∙ round_same binary32 false (D * D) (r * D) (D * D * 2) (r * 2 * D) (mul-pos r_pos (pow_pos 149)) (mul-pos r2_pos (pow_pos 149)) (turn (D * D) r D)))
    where
      turn : (n m c : ℕ) → n * (m * 2 * c) ≡ n * 2 * (m * c)
      turn n m c = omega arith
