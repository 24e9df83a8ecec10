-- The sizes of f32 values: what rounding keeps, what scaling by a power of two keeps, and what a small term changes. Assumes nothing.
use mathlib.Core.Path.{◌≡◌, refl, sym, ap, ◌∙◌, subst}
use mathlib.Core.Bool.{Bool, true, false, not}
use Prim.Native.Nat.{ℕ, ◌+◌, ◌*◌, ◌^◌, ◌≤◌, ◌<◌}
use native.Mathlib.Nat.{le_trans, le_of_eq, le_antisymm, lt_of_le_of_lt, mul_assoc, mul-le-mul_right, lt_of_mul-lt-mul_right, le_of_mul-le-mul_right, mul-pos}
use native.Mathlib.Omega.{arith}
use lib.Dec.{T, leb, leb→le, nleb→lt, lit≤, lit<}
use lib.Pow.{pow_pos}
use lib.Ieee.{Float, binary32, round, fits}
use lib.Ieee.Exact.{round_exact}
use lib.Ieee.Fits.{round-fits}
use lib.Ieee.Scale.{finite, grid, grid_scale, normal_of_fraction}
use Rattle.laws.specs.Exact.{size_in}
use Rattle.laws.specs.Within.{distance}
use Rattle.laws.proofs.values.ValueLaws.{Value, value_finite}
use Rattle.laws.proofs.values.SizeLaws.{size_of_value, coarse}
use Rattle.laws.proofs.rounding.GridLaws.{grid_best}
use Rattle.laws.proofs.rounding.ErrorLaws.{rounded, rounded_error, rounded_value}
use Rattle.vector.proofs.values.SignedVectors.{D}

-- ---- the sizes of f32 values
pub record IsSize (n : ℕ) : Type 0 where
  pub float : Float
  pub fit : T (fits binary32 float)
  pub value : Value binary32 float false n

pub size_exact : (q k : ℕ) → q < 2 ^ 24 → q * 2 ^ k < 2 ^ 277 → IsSize (q * 2 ^ k)
size_exact q k few small = record {
  float = round binary32 false (q * 2 ^ k) D;
  fit = round-fits binary32 false (q * 2 ^ k) D;
  value = round_exact binary32 false (q * 2 ^ k) D q k (pow_pos 149) few small refl;
}

pub size_rounded : (n d j : ℕ) → 0 < d → n ≤ d * D * 2 ^ j → j ≤ 127 → IsSize (rounded binary32 n d)
size_rounded n d j P h J = record {
  float = round binary32 false n (d * D);
  fit = round-fits binary32 false n (d * D);
  value = rounded_value binary32 n d j P h (round binary32 false n (d * D)) false J refl;
}

pub size_as : (n : ℕ) (s : IsSize n) → size_in binary32 s.float ≡ n
size_as n s = (size_of_value binary32 s.float false n s.value).0

-- a size stays as it is
rounded_size : (q k : ℕ) → q < 2 ^ 24 → q * 2 ^ k ≤ D → rounded binary32 (q * 2 ^ k) 1 ≡ q * 2 ^ k
unfolding size_exact size_rounded
rounded_size q k few small =
    sym (size_as (rounded binary32 (q * 2 ^ k) 1) (size_rounded (q * 2 ^ k) 1 0 (lit< tt) small (lit≤ tt)))
    ∙ size_as (q * 2 ^ k) (size_exact q k few (lt_of_le_of_lt small (lit< tt)))

-- ---- times a power of two: exact from 2 ^ 23 smallest values on
pub rounded_scale : (n d t : ℕ) → 0 < d → 2 ^ 23 * d ≤ n → rounded binary32 (n * 2 ^ t) d ≡ rounded binary32 n d * 2 ^ t
unfolding rounded
rounded_scale n d t P h =
    grid_scale binary32 n (d * D) t (mul-pos P (pow_pos 149))
    (normal_of_fraction binary32 n (d * D) (mul-pos P (pow_pos 149)) (le_trans (le_of_eq (sym (mul_assoc (2 ^ 23) d D))) (mul-le-mul_right D h)))

-- whole numbers always
pub whole_scale : (n : ℕ) → rounded binary32 (n * 4) 1 ≡ rounded binary32 n 1 * 4
whole_scale n = go (leb (2 ^ 23) n) (leb→le (2 ^ 23) n) (nleb→lt (2 ^ 23) n)
  where
    one : (n : ℕ) → 2 ^ 23 ≤ n → 2 ^ 23 * 1 ≤ n
    one n h = omega arith

    few : (n : ℕ) → n < 2 ^ 23 → n < 2 ^ 24
    few n h = omega arith

    times_one : (n : ℕ) → n ≡ n * 1
    times_one n = omega arith

    under : (n : ℕ) → n < 2 ^ 23 → n * 4 ≤ 2 ^ 25
    under n h = omega arith

    under_one : (n : ℕ) → n < 2 ^ 23 → n * 1 ≤ 2 ^ 25
    under_one n h = omega arith

    go : (b : Bool) → (T b → 2 ^ 23 ≤ n) → (T (not b) → n < 2 ^ 23) → rounded binary32 (n * 4) 1 ≡ rounded binary32 n 1 * 4
    go true h k = rounded_scale n 1 2 (lit< tt) (one n (h tt))
    go false h k =
        rounded_size n 2 (few n (k tt)) (le_trans (under n (k tt)) (lit≤ tt))
        ∙ ap (λ (m : ℕ). m * 4) (times_one n ∙ sym (rounded_size n 0 (few n (k tt)) (le_trans (under_one n (k tt)) (lit≤ tt))) ∙ ap (λ (m : ℕ). rounded binary32 m 1) (sym (times_one n)))

-- a crude bound for small numbers
pub rounded_small : (n d b : ℕ) → 0 < d → n ≤ b * d → rounded binary32 n d ≤ 2 * b + 1
rounded_small n d b P h = le_of_mul-le-mul_right (sums (rounded binary32 n d) d n b (rounded_error binary32 n d P).0 h) P
  where
    sums : (r d n b : ℕ) → r * d * 16777216 ≤ n * 16777216 + (n + d * 8388608) → n ≤ b * d → r * d ≤ (2 * b + 1) * d
    sums r d n b h k = omega arith

-- ---- a small number added to a large size R vanishes: R is a multiple of 2 ^ m, and the small number less than half of that
module _ (R t m : ℕ) (size : IsSize R) (large : 2 ^ (23 + m) ≤ R) (small : 2 * t < 2 ^ m) (most : R + t ≤ 1 * D * 2 ^ 10) where
  g : ℕ
  g = rounded binary32 (R + t) 1

  g_size : IsSize (rounded binary32 (R + t) 1)
  g_size = size_rounded (R + t) 1 10 (lit< tt) most (lit≤ tt)

  finite_of : (n : ℕ) (s : IsSize n) → T (finite s.float)
  finite_of n s = value_finite s.float false n D s.value

  near : (R ≤ rounded binary32 (R + t) 1) × (rounded binary32 (R + t) 1 ≤ R + 2 * t)
  unfolding rounded
  near =
      sides (grid binary32 (R + t) D) R t D (pow_pos 149)
      (subst (λ (n : ℕ). distance (grid binary32 (R + t) D * D) ((R + t) * D) ≤ distance (n * D) ((R + t) * D)) (size_as R size)
      (grid_best binary32 (R + t) D (pow_pos 149) size.float size.fit (finite_of R size) true))
    where
      sides : (g r t d : ℕ) → 0 < d → distance (g * d) ((r + t) * d) ≤ distance (r * d) ((r + t) * d) → (r ≤ g) × (g ≤ r + 2 * t)
      sides g r t d P h = (le_of_mul-le-mul_right low P, le_of_mul-le-mul_right high P)
        where
          low : r * d ≤ g * d
          low = omega arith

          high : g * d ≤ (r + 2 * t) * d
          high = omega arith

  pub absorbed : rounded binary32 (R + t) 1 ≡ R
  absorbed =
      let k = near.0 in
      let a = coarse binary32 size.float m size.fit (finite_of R size) (le_trans large (le_of_eq (sym (size_as R size)))) in
      let b = coarse binary32 g_size.float m g_size.fit (finite_of (rounded binary32 (R + t) 1) g_size) (le_trans large (le_trans k (le_of_eq (sym (size_as (rounded binary32 (R + t) 1) g_size))))) in
      multiples (rounded binary32 (R + t) 1) R (2 * t) b.0 a.0 (2 ^ m) (sym (size_as (rounded binary32 (R + t) 1) g_size) ∙ b.1) (sym (size_as R size) ∙ a.1) k near.1 small
    where
      multiples : (g r e v w p : ℕ) → g ≡ v * p → r ≡ w * p → r ≤ g → g ≤ r + e → e < p → g ≡ r
      multiples g r e v w p a b h k l = le_antisymm (le_trans (le_of_eq a) (le_trans (mul-le-mul_right p (few v w (lt_of_mul-lt-mul_right p under))) (le_of_eq (sym b)))) h
        where
          under : v * p < (w + 1) * p
          under = omega arith

          few : (v w : ℕ) → v < w + 1 → v ≤ w
          few v w h = omega arith
