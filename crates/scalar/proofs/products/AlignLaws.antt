-- Two terms added at the larger exponent, the other one shifted right with a sticky bit: the rounded sum is that of the whole terms. Assumes nothing.
use mathlib.Core.Path.{◌≡◌, refl, sym, ap, ap₂, ◌∙◌, subst}
use mathlib.Core.Bool.{Bool, true, false, not}
use mathlib.Core.Logic.{◌⊎◌, inl, inr}
use Prim.Native.Nat.{ℕ, ◌+◌, ◌-◌, ◌*◌, ◌/◌, ◌%◌, ◌^◌, ◌≤◌, ◌<◌, max, compare, Ordering}
use native.Mathlib.Nat.{le_of_eq, le_of_lt, lt_of_lt_of_le, lt_of_le_of_lt, mul-one, mul_comm, mul_assoc, add-mul, mul-le-mul_right, mul-lt-mul_of_pos_right}
use native.Mathlib.Omega.{arith}
use lib.Dec.{T, leb, leb→le, nleb→lt, lit<}
use lib.Pow.{pow_pos, pow_mono}
use lib.Ieee.{binary32, unlike, round, sum}
use Rattle.laws.specs.Sticky.{sticky}
use Rattle.laws.proofs.numbers.CompareLaws.{Cmp, cmp}
use Rattle.laws.proofs.operations.SumSigns.{sum_like, sum_unlike, sum_below, sum_comm, sub_mul}
use Rattle.laws.proofs.rounding.StickyLaws.{sticky_exact, sticky_below, sticky_above, sticky_add, sticky_less}
use Rattle.scalar.specs.FusedParts.{Terms}
use Rattle.scalar.proofs.products.RoundStickyLaws.{pow_split, round_sticky}

-- ---- two numbers, the first an even multiple of 2 ^ u, the second shifted right by d to the exponent u
module _ (s t : Bool) (h l d u : ℕ) (U : d ≤ u) (room : (u ≤ 275) ⊎ (l + 33554432 * 2 ^ d ≤ 2 * h * 2 ^ d)) where
  B : ℕ
  B = 2 ^ d

  F : ℕ
  F = 2 ^ (u - d)

  B-pos : 0 < B
  unfolding B
  B-pos = pow_pos d

  F-pos : 0 < F
  unfolding F
  F-pos = pow_pos (u - d)

  joined : 2 ^ u ≡ B * F
  unfolding B F
  joined = pow_split d u U

  -- a and b, in 2 ^ -426, and b as shifted
  a : ℕ
  a = 2 * h * 2 ^ u

  b : ℕ
  b = l * F

  b' : ℕ
  b' = sticky l B * 2 ^ u

  a_is : a ≡ 2 * h * B * F
  unfolding a
  a_is = ap (λ (x : ℕ). 2 * h * x) joined ∙ sym (mul_assoc (2 * h) B F)

  rounds : (r : Bool) (n x y : ℕ) → (u ≤ 275) ⊎ (33554432 * B ≤ n) → x ≡ n * F → y ≡ sticky n B * 2 ^ u → round binary32 r x (2 ^ 426) ≡ round binary32 r y (2 ^ 426)
  unfolding B F
  rounds r n x y k p q = ap (λ (z : ℕ). round binary32 r z (2 ^ 426)) p ∙ round_sticky n d u U k r ∙ ap (λ (z : ℕ). round binary32 r z (2 ^ 426)) (sym q)

  wide : (n : ℕ) → (l + 33554432 * B ≤ 2 * h * B → 33554432 * B ≤ n) → (u ≤ 275) ⊎ (33554432 * B ≤ n)
  unfolding B
  wide n f = elim room [ inl k ↦ inl k | inr k ↦ inr (f k) ]

  like : (r : Bool) → round binary32 r (a + b) (2 ^ 426) ≡ round binary32 r (a + b') (2 ^ 426)
  unfolding a b b'
  like r =
      rounds r (2 * h * B + l) (a + b) (a + b') (wide (2 * h * B + l) (λ k. omega arith))
      (ap (λ (x : ℕ). x + b) a_is ∙ sym (add-mul (2 * h * B) l F))
      (sym (add-mul (2 * h) (sticky l B) (2 ^ u)) ∙ ap (λ (x : ℕ). x * 2 ^ u) (sym (sticky_add l B B-pos h)))

  less : (r : Bool) → l < 2 * h * B → round binary32 r (a - b) (2 ^ 426) ≡ round binary32 r (a - b') (2 ^ 426)
  unfolding a b b'
  less r g =
      rounds r (2 * h * B - l) (a - b) (a - b') (wide (2 * h * B - l) (λ k. omega arith))
      (ap (λ (x : ℕ). x - b) a_is ∙ sym (sub_mul (2 * h * B) l F))
      (sym (sub_mul (2 * h) (sticky l B) (2 ^ u)) ∙ ap (λ (x : ℕ). x * 2 ^ u) (sym (sticky_less l B B-pos h g)))

  more : (r : Bool) → 2 * h * B < l → round binary32 r (b - a) (2 ^ 426) ≡ round binary32 r (b' - a) (2 ^ 426)
  unfolding a b b'
  more r g =
      rounds r (l - 2 * h * B) (b - a) (b' - a) (wide (l - 2 * h * B) (λ k. absurd (omega arith)))
      (ap (λ (x : ℕ). b - x) a_is ∙ sym (sub_mul l (2 * h * B) F))
      (sym (sub_mul (sticky l B) (2 * h) (2 ^ u)) ∙ ap (λ (x : ℕ). x * 2 ^ u) (minus (sticky l B) (2 * h) (sticky (l - 2 * h * B) B) (ap (λ (x : ℕ). sticky x B) (back l (2 * h * B) (le_of_lt g)) ∙ sticky_add (l - 2 * h * B) B B-pos h)))
    where
      back : (l x : ℕ) → x ≤ l → l ≡ x + (l - x)
      back l x h = omega arith

      minus : (x y z : ℕ) → x ≡ y + z → x - y ≡ z
      minus x y z e = omega arith

  pub sum_sticky : sum binary32 s (2 * h * 2 ^ u) t (l * 2 ^ (u - d)) (2 ^ 426) ≡ sum binary32 s (2 * h * 2 ^ u) t (sticky l (2 ^ d) * 2 ^ u) (2 ^ 426)
  unfolding a b b' B F
  sum_sticky = go (unlike s t) refl (compare l (2 * h * B)) (cmp l (2 * h * B))
    where
      up : {x y : ℕ} → x < y → x * 2 ^ u < y * 2 ^ u
      up k = mul-lt-mul_of_pos_right k (pow_pos u)

      go : (e : Bool) → unlike s t ≡ e → (o : Ordering) → Cmp o l (2 * h * B) → sum binary32 s a t b (2 ^ 426) ≡ sum binary32 s a t b' (2 ^ 426)
      go false e o k = sum_like binary32 s t a b (2 ^ 426) e ∙ like s ∙ sym (sum_like binary32 s t a b' (2 ^ 426) e)
      go true e Ordering.lt k =
          sum_unlike binary32 s t a b (2 ^ 426) e (lt_of_lt_of_le (mul-lt-mul_of_pos_right k F-pos) (le_of_eq (sym a_is)))
          ∙ less s k
          ∙ sym (sum_unlike binary32 s t a b' (2 ^ 426) e (up (sticky_below l B B-pos h k)))
      go true e Ordering.gt k =
          sum_below binary32 s t a b (2 ^ 426) e (lt_of_le_of_lt (le_of_eq a_is) (mul-lt-mul_of_pos_right k F-pos))
          ∙ more t k
          ∙ sym (sum_below binary32 s t a b' (2 ^ 426) e (up (sticky_above l B B-pos h k)))
      go true e Ordering.eq k =
          ap (λ (x : ℕ). sum binary32 s a t x (2 ^ 426))
          (ap (λ (x : ℕ). x * F) k ∙ sym a_is ∙ ap (λ (x : ℕ). x * 2 ^ u) (sym (ap (λ (x : ℕ). sticky x B) k ∙ sticky_exact (2 * h) B B-pos)))

-- ---- terms that end in 14 zeros lose bits only where they are shifted right by 15 or more
module _ (s t : Bool) (x l d u : ℕ) (U : d ≤ u) (X : x % 16384 ≡ 0) (L : l % 16384 ≡ 0) (W : l < 2 ^ 62) (room : (2 ^ 60 ≤ x) ⊎ (u ≤ 275)) where
  exact : d ≤ 14 → l * 2 ^ (u - d) ≡ sticky l (2 ^ d) * 2 ^ u
  exact h =
      ap (λ (n : ℕ). n * 2 ^ (u - d)) (sym whole)
      ∙ mul_assoc q (2 ^ d) (2 ^ (u - d))
      ∙ ap (λ (n : ℕ). q * n) (sym (pow_split d u U))
      ∙ ap (λ (n : ℕ). n * 2 ^ u) (sym (ap (λ (n : ℕ). sticky n (2 ^ d)) (sym whole) ∙ sticky_exact q (2 ^ d) (pow_pos d)))
    where
      q : ℕ
      q = l / 16384 * 2 ^ (14 - d)

      parts : (l : ℕ) → l % 16384 ≡ 0 → l / 16384 * 16384 ≡ l
      parts l h = omega arith

      whole : q * 2 ^ d ≡ l
      whole = mul_assoc (l / 16384) (2 ^ (14 - d)) (2 ^ d) ∙ ap (λ (n : ℕ). l / 16384 * n) (mul_comm (2 ^ (14 - d)) (2 ^ d) ∙ sym (pow_split d 14 h)) ∙ parts l L

  wide_room : 14 < d → (u ≤ 275) ⊎ (l + 33554432 * 2 ^ d ≤ x * 2 ^ d)
  wide_room h = elim room [ inr k ↦ inl k | inl k ↦ inr (far (2 ^ d) (pow_mono h) (mul-le-mul_right (2 ^ d) k)) ]
    where
      far : (D : ℕ) → 32768 ≤ D → 1152921504606846976 * D ≤ x * D → l + 33554432 * D ≤ x * D
      far D p q = omega arith

  pub term_sticky : sum binary32 s (x * 2 ^ u) t (l * 2 ^ (u - d)) (2 ^ 426) ≡ sum binary32 s (x * 2 ^ u) t (sticky l (2 ^ d) * 2 ^ u) (2 ^ 426)
  term_sticky = go (leb d 14) (leb→le d 14) (nleb→lt d 14)
    where
      even : 2 * (x / 2) ≡ x
      even = omega arith

      go : (b : Bool) → (T b → d ≤ 14) → (T (not b) → 14 < d) → sum binary32 s (x * 2 ^ u) t (l * 2 ^ (u - d)) (2 ^ 426) ≡ sum binary32 s (x * 2 ^ u) t (sticky l (2 ^ d) * 2 ^ u) (2 ^ 426)
      go true f g = ap (λ (n : ℕ). sum binary32 s (x * 2 ^ u) t n (2 ^ 426)) (exact (f tt))
      go false f g =
          subst (λ (n : ℕ). sum binary32 s (n * 2 ^ u) t (l * 2 ^ (u - d)) (2 ^ 426) ≡ sum binary32 s (n * 2 ^ u) t (sticky l (2 ^ d) * 2 ^ u) (2 ^ 426)) even
          (sum_sticky s t (x / 2) l d u U (subst (λ (n : ℕ). (u ≤ 275) ⊎ (l + 33554432 * 2 ^ d ≤ n * 2 ^ d)) (sym even) (wide_room (g tt))))

-- ---- both terms at the larger exponent
sticky_one : (n e : ℕ) → e ≡ 0 → sticky n (2 ^ e) ≡ n
sticky_one n e h = ap (λ (x : ℕ). sticky n (2 ^ x)) h ∙ subst (λ (x : ℕ). sticky x 1 ≡ n) (mul-one n) (sticky_exact n 1 (lit< tt))

module _ (s t : Bool) (x i y j e : ℕ) (H : Terms x i y j) (E : e ≡ max i j) where
  pub aligned_sum : sum binary32 s (sticky x (2 ^ (e - i)) * 2 ^ e) t (sticky y (2 ^ (e - j)) * 2 ^ e) (2 ^ 426) ≡ sum binary32 s (x * 2 ^ i) t (y * 2 ^ j) (2 ^ 426)
  aligned_sum = go (leb i j) (leb→le i j) (nleb→lt i j)
    where
      x' : ℕ
      x' = sticky x (2 ^ (e - i))

      y' : ℕ
      y' = sticky y (2 ^ (e - j))

      -- the exponents, where e is i or j
      exponents : (m n : ℕ) → m ≡ i → n ≡ j → sum binary32 s (x * 2 ^ m) t (y * 2 ^ n) (2 ^ 426) ≡ sum binary32 s (x * 2 ^ i) t (y * 2 ^ j) (2 ^ 426)
      exponents m n p q = ap₂ (λ (m n : ℕ). sum binary32 s (x * 2 ^ m) t (y * 2 ^ n) (2 ^ 426)) p q

      go : (b : Bool) → (T b → i ≤ j) → (T (not b) → j < i) → sum binary32 s (x' * 2 ^ e) t (y' * 2 ^ e) (2 ^ 426) ≡ sum binary32 s (x * 2 ^ i) t (y * 2 ^ j) (2 ^ 426)
      go true f g =
          let l = f tt in
          ap (λ (n : ℕ). sum binary32 s (x' * 2 ^ e) t (n * 2 ^ e) (2 ^ 426)) (sticky_one y (e - j) (omega arith))
          ∙ sum_comm binary32 s t (x' * 2 ^ e) (y * 2 ^ e) (2 ^ 426)
          ∙ sym (term_sticky t s y x (e - i) e (omega arith) H.y_zeros H.x_zeros H.x_high (elim H.y_low [ inl k ↦ inl k | inr k ↦ inr (omega arith) ]))
          ∙ sum_comm binary32 t s (y * 2 ^ e) (x * 2 ^ (e - (e - i))) (2 ^ 426)
          ∙ exponents (e - (e - i)) e (omega arith) (omega arith)
      go false f g =
          let l = g tt in
          ap (λ (n : ℕ). sum binary32 s (n * 2 ^ e) t (y' * 2 ^ e) (2 ^ 426)) (sticky_one x (e - i) (omega arith))
          ∙ sym (term_sticky s t x y (e - j) e (omega arith) H.x_zeros H.y_zeros H.y_high (inl H.x_low))
          ∙ exponents e (e - (e - j)) (omega arith) (omega arith)

  -- and in 63 bits each
  pub aligned_fit : (0 < sticky x (2 ^ (e - i))) × (sticky x (2 ^ (e - i)) < 2 ^ 63) × (sticky y (2 ^ (e - j)) < 2 ^ 63)
  aligned_fit = (
    sticky_above x (2 ^ (e - i)) (pow_pos (e - i)) 0 (let l = H.x_low in omega arith),
    fit x (e - i) H.x_high,
    fit y (e - j) H.y_high,
  )
    where
      fit : (n d : ℕ) → n < 2 ^ 62 → sticky n (2 ^ d) < 2 ^ 63
      fit n d h = sticky_below n (2 ^ d) (pow_pos d) (2 ^ 62) (let p = pow_pos d in omega arith)

-- what `aligned` of src/fused.rt uses
pub ruleset aligns = (aligned_sum, aligned_fit)
