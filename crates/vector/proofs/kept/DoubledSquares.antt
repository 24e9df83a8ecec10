-- The squared length of a vector and of its double, where that has a component of at least 1: the second is 4 times the first, though squares that
-- vanish or are subnormal are not. Assumes nothing.
use mathlib.Core.Path.{◌≡◌, sym, ap, ◌∙◌}
use mathlib.Core.Bool.{Bool, true, false, not}
use mathlib.Core.Logic.{◌⊎◌, inl, inr}
use Prim.Native.Nat.{ℕ, ◌+◌, ◌*◌, ◌^◌, ◌≤◌, ◌<◌}
use native.Mathlib.Nat.{le_trans, le_of_eq, le_of_lt, lt_of_le_of_lt, not-le_of_lt, add_comm, add-le-add, le_of_mul-le-mul_right, le-add_left, le-add_right}
use native.Mathlib.Omega.{arith}
use lib.Dec.{T, leb, leb→le, nleb→lt, lit≤, lit<}
use lib.Pow.{pow_pos}
use lib.Ieee.{binary32}
use Rattle.laws.proofs.rounding.ErrorLaws.{rounded}
use Rattle.vector.proofs.values.SignedVectors.{D}
use Rattle.vector.proofs.scaling.BoundedSquares.{square_under, square_most, square_least, sum_most, sum_least}
use Rattle.vector.proofs.kept.F32Sizes.{IsSize, size_rounded, rounded_scale, whole_scale, rounded_small, absorbed}

-- ---- p' is 4 p, or both are small
abbrev Four : ℕ → ℕ → ℕ → Type 0
Four b p q = (q ≡ p * 4) ⊎ ((p ≤ b) × (q ≤ b))

-- the squares of X and of 2 X
abbrev squared : ℕ → ℕ
squared n = rounded binary32 (n * n) D

square_four : (n : ℕ) → Four (2 ^ 27) (squared n) (squared (n * 2))
square_four n = go (leb (2 ^ 23 * D) (n * n)) (leb→le (2 ^ 23 * D) (n * n)) (nleb→lt (2 ^ 23 * D) (n * n))
  where
    twice : (n : ℕ) → n * 2 * (n * 2) ≡ n * n * 4
    twice n = omega arith

    more : (n b d : ℕ) → n ≤ b * d → n * 4 ≤ b * 4 * d
    more n b d h = omega arith

    go : (b : Bool) → (T b → 2 ^ 23 * D ≤ n * n) → (T (not b) → n * n < 2 ^ 23 * D) → Four (2 ^ 27) (squared n) (squared (n * 2))
    go true h k = inl (ap (λ (m : ℕ). rounded binary32 m D) (twice n) ∙ rounded_scale (n * n) D 2 (pow_pos 149) (h tt))
    go false h k = inr (
      le_trans (rounded_small (n * n) D (2 ^ 23) (pow_pos 149) (le_of_lt (k tt))) (lit≤ tt),
      le_trans (le_of_eq (ap (λ (m : ℕ). rounded binary32 m D) (twice n))) (le_trans (rounded_small (n * n * 4) D (2 ^ 25) (pow_pos 149) (more (n * n) (2 ^ 23) D (le_of_lt (k tt)))) (lit≤ tt)),
    )

-- ---- the sum of two that are up to 4: 4 times, or both small
abbrev sum : ℕ → ℕ → ℕ
sum p q = rounded binary32 (p + q) 1

both_four : (p q p' q' : ℕ) → p' ≡ p * 4 → q' ≡ q * 4 → sum p' q' ≡ sum p q * 4
both_four p q p' q' h k = ap (λ (n : ℕ). rounded binary32 n 1) (sums p q p' q' h k) ∙ whole_scale (p + q)
  where
    sums : (p q p' q' : ℕ) → p' ≡ p * 4 → q' ≡ q * 4 → p' + q' ≡ (p + q) * 4
    sums p q p' q' h k = omega arith

-- the larger one stays
abbrev Sized : ℕ → Type 0
Sized n = IsSize n × (n ≤ 2 ^ 152)

vanishes : (R t m : ℕ) → Sized R → 2 ^ (23 + m) ≤ R → 2 * t < 2 ^ m → t ≤ 2 ^ 152 → sum R t ≡ R
vanishes R t m s l h k = absorbed R t m s.0 l h (le_trans (add-le-add s.1 k) (lit≤ tt))

-- R and 4 R stay beside t and t'
stays : (R t R' t' m : ℕ) → Sized R → Sized R' → R' ≡ R * 4 → 2 ^ (23 + m) ≤ R → 2 * t < 2 ^ m → 2 * t' < 2 ^ m → t ≤ 2 ^ 152 → t' ≤ 2 ^ 152 → sum R' t' ≡ sum R t * 4
stays R t R' t' m s s' e l h h' k k' =
    vanishes R' t' m s' (le_trans l (le_trans (more R) (le_of_eq (sym e)))) h' k' ∙ e ∙ ap (λ (n : ℕ). n * 4) (sym (vanishes R t m s l h k))
  where
    more : (n : ℕ) → n ≤ n * 4
    more n = omega arith

swap : (p q : ℕ) → sum p q ≡ sum q p
swap p q = ap (λ (n : ℕ). rounded binary32 n 1) (add_comm p q)

module _ (p p' q q' : ℕ) (sp : p ≤ 2 ^ 27) (sp' : p' ≤ 2 ^ 27) (sq : Sized q) (sq' : Sized q') where
  -- p small: beside a q from 2 ^ 85 on it vanishes, and with another one it stays small
  small_one : Four (2 ^ 27) q q' → Four (2 ^ 92) (sum q p) (sum q' p')
  small_one f = go (leb (2 ^ 85) q) (leb→le (2 ^ 85) q) (nleb→lt (2 ^ 85) q) f
    where
      tiny : (n : ℕ) → n ≤ 2 ^ 27 → 2 * n < 2 ^ 62
      tiny n h = omega arith

      short : (n : ℕ) → n ≤ 2 ^ 27 → n ≤ 2 ^ 152
      short n h = le_trans h (lit≤ tt)

      low : (p q : ℕ) → p ≤ 2 ^ 27 → q ≤ 2 ^ 88 → sum q p ≤ 2 ^ 92
      low p q h k = le_trans (rounded_small (q + p) 1 (2 ^ 89) (lit< tt) (omega arith)) (lit≤ tt)

      go : (b : Bool) → (T b → 2 ^ 85 ≤ q) → (T (not b) → q < 2 ^ 85) → Four (2 ^ 27) q q' → Four (2 ^ 92) (sum q p) (sum q' p')
      go true h k (inl e) = inl (stays q p q' p' 62 sq sq' e (h tt) (tiny p sp) (tiny p' sp') (short p sp) (short p' sp'))
      go true h k (inr r) = let l = h tt in let m = r.0 in absurd (omega arith)
      go false h k (inl e) = let l = k tt in inr (low p q sp (omega arith), low p' q' sp' (omega arith))
      go false h k (inr r) = inr (low p q sp (le_trans r.0 (lit≤ tt)), low p' q' sp' (le_trans r.1 (lit≤ tt)))

module _ (p p' q q' : ℕ) (sp : Sized p) (sp' : Sized p') (sq : Sized q) (sq' : Sized q') where
  sum_four : Four (2 ^ 27) p p' → Four (2 ^ 27) q q' → Four (2 ^ 92) (sum p q) (sum p' q')
  sum_four (inl e) (inl d) = inl (both_four p q p' q' e d)
  sum_four (inl e) (inr r) = small_one q q' p p' r.0 r.1 sp sp' (inl e)
  sum_four (inr r) f = rw (swap p q, swap p' q') (small_one p p' q q' r.0 r.1 sq sq' f)

  -- with a term of at least 1 on the side of p' and q' the sum is 4 times
  module _ (fp : Four (2 ^ 92) p p') (fq : Four (2 ^ 92) q q') where
    -- the one of at least 1 is 4 times, and at least 2 ^ 147
    large : (n n' : ℕ) → D ≤ n' → Four (2 ^ 92) n n' → (n' ≡ n * 4) × (2 ^ 147 ≤ n)
    large n n' h (inl e) = (e, le_of_mul-le-mul_right (le_trans h (le_of_eq e)) (lit< {n = 4} tt))
    large n n' h (inr r) = absurd (not-le_of_lt (lt_of_le_of_lt r.1 (lit< tt)) h)

    tiny : (n : ℕ) → n ≤ 2 ^ 92 → 2 * n < 2 ^ 124
    tiny n h = omega arith

    short : (n : ℕ) → n ≤ 2 ^ 92 → n ≤ 2 ^ 152
    short n h = le_trans h (lit≤ tt)

    sum_last : (D ≤ p') ⊎ (D ≤ q') → sum p' q' ≡ sum p q * 4
    sum_last o = go fp fq o
      where
        go : Four (2 ^ 92) p p' → Four (2 ^ 92) q q' → (D ≤ p') ⊎ (D ≤ q') → sum p' q' ≡ sum p q * 4
        go (inl e) (inl d) o = both_four p q p' q' e d
        go (inl e) (inr r) (inl h) = stays p q p' q' 124 sp sp' e (large p p' h fp).1 (tiny q r.0) (tiny q' r.1) (short q r.0) (short q' r.1)
        go (inl e) (inr r) (inr h) = absurd (not-le_of_lt (lt_of_le_of_lt r.1 (lit< tt)) h)
        go (inr r) d (inl h) = absurd (not-le_of_lt (lt_of_le_of_lt r.1 (lit< tt)) h)
        go (inr r) d (inr h) =
            let l = large q q' h d in
            swap p' q' ∙ stays q p q' p' 124 sq sq' l.0 l.1 (tiny p r.0) (tiny p' r.1) (short p r.0) (short p' r.1) ∙ ap (λ (n : ℕ). n * 4) (swap q p)

-- ---- the squared lengths
wider : (p q : ℕ) → Four (2 ^ 27) p q → Four (2 ^ 92) p q
wider p q (inl e) = inl e
wider p q (inr r) = inr (le_trans r.0 (lit≤ tt), le_trans r.1 (lit≤ tt))

square_sized : (n : ℕ) → n ≤ 2 ^ 150 → Sized (squared n)
square_sized n h = (size_rounded (n * n) D 2 (pow_pos 149) (square_under n h) (lit≤ tt), le_trans (square_most n h) (lit≤ tt))

sum_sized : (p q : ℕ) → p ≤ 2 ^ 151 → q ≤ 2 ^ 151 → Sized (sum p q)
sum_sized p q h k = let u : p + q ≤ 1 * D * 2 ^ 3 = le_trans (add-le-add h k) (lit≤ tt) in (size_rounded (p + q) 1 3 (lit< tt) u (lit≤ tt), sum_most 3 p q u)

pub half_under : (n : ℕ) → n * 2 ≤ 2 ^ 150 → n ≤ 2 ^ 150
half_under n h = le_trans (more n) h
  where
    more : (n : ℕ) → n ≤ n * 2
    more n = omega arith

module _ (x y z : ℕ) (hx : x * 2 ≤ 2 ^ 150) (hy : y * 2 ≤ 2 ^ 150) (hz : z * 2 ≤ 2 ^ 150) where
  first_four : Four (2 ^ 92) (sum (squared x) (squared y)) (sum (squared (x * 2)) (squared (y * 2)))
  first_four =
      sum_four (squared x) (squared (x * 2)) (squared y) (squared (y * 2))
      (square_sized x (half_under x hx)) (square_sized (x * 2) hx) (square_sized y (half_under y hy)) (square_sized (y * 2) hy) (square_four x) (square_four y)

  pub length_four : (D ≤ x * 2) ⊎ ((D ≤ y * 2) ⊎ (D ≤ z * 2))
      → rounded binary32 (rounded binary32 (rounded binary32 (x * 2 * (x * 2)) D + rounded binary32 (y * 2 * (y * 2)) D) 1 + rounded binary32 (z * 2 * (z * 2)) D) 1
      ≡ rounded binary32 (rounded binary32 (rounded binary32 (x * x) D + rounded binary32 (y * y) D) 1 + rounded binary32 (z * z) D) 1 * 4
  length_four o =
      sum_last (sum (squared x) (squared y)) (sum (squared (x * 2)) (squared (y * 2))) (squared z) (squared (z * 2))
      (sum_sized (squared x) (squared y) (square_most x (half_under x hx)) (square_most y (half_under y hy))) (sum_sized (squared (x * 2)) (squared (y * 2)) (square_most (x * 2) hx) (square_most (y * 2) hy))
      (square_sized z (half_under z hz)) (square_sized (z * 2) hz) first_four (wider (squared z) (squared (z * 2)) (square_four z)) (last o)
    where
      last : (D ≤ x * 2) ⊎ ((D ≤ y * 2) ⊎ (D ≤ z * 2)) → (D ≤ sum (squared (x * 2)) (squared (y * 2))) ⊎ (D ≤ squared (z * 2))
      last (inl l) = inl (sum_least (squared (x * 2)) (squared (y * 2)) (le_trans (square_least (x * 2) hx l) (le-add_right (squared (x * 2)) (squared (y * 2)))))
      last (inr (inl l)) = inl (sum_least (squared (x * 2)) (squared (y * 2)) (le_trans (square_least (y * 2) hy l) (le-add_left (squared (y * 2)) (squared (x * 2)))))
      last (inr (inr l)) = inr (square_least (z * 2) hz l)
