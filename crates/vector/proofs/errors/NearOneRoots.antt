-- The rounded root of a number from 0 to 2, -0 included, and the reciprocal of a length near 1. Assumes nothing.
use mathlib.Core.Path.{◌≡◌, refl, sym, ap, ◌∙◌, subst}
use mathlib.Core.Logic.{inl, inr}
use mathlib.Core.Bool.{Bool, true, false, cond}
use Prim.Native.Nat.{ℕ, ◌+◌, ◌*◌, ◌^◌, ◌≤◌, ◌<◌}
use native.Mathlib.Nat.{le_trans, lt_of_lt_of_le, lt_irrefl, zero-mul, mul-le-mul_left, mul-le-mul_right, le_of_mul-le-mul_right, eq_of_mul-eq-mul_right, eq-zero-or-pos}
use native.Mathlib.Omega.{arith}
use lib.Dec.{T, eqb, lit≤, lit<}
use lib.Pow.{pow_pos}
use lib.Ieee.{Float, nan, inf, fin, binary32, up, down, fits, of_bits, div}
use lib.Ieee.Bits.{of_bits-fits}
use lib.Ieee.Fits.{up_pos}
use lib.Ieee.Positive.{positive, positive-finite, positive_of_value}
use Rattle.laws.specs.Exact.{size_in}
use Rattle.laws.specs.Within.{Within}
use Rattle.laws.proofs.values.ValueLaws.{Value}
use Rattle.laws.proofs.values.SizeLaws.{size_of_value, positive_sign, positive_size}
use Rattle.laws.proofs.operations.RoundedOperations.{minus}
use Rattle.scalar.specs.Root.{root_units, root}
use Rattle.scalar.proofs.roots.RootMeaningLaws.{positive_root}
use Rattle.scalar.proofs.roots.RootErrorLaws.{root_near}
use Rattle.scalar.proofs.roots.RootOrderLaws.{root_at_least}
use Rattle.vector.specs.Vectors.{one}
use Rattle.vector.proofs.values.SignedVectors.{D, E}
use Rattle.vector.proofs.errors.ReciprocalLaws.{root_value}
use Rattle.vector.proofs.errors.ReciprocalErrors.{recip_value, recip_near}

-- ---- the root of a zero is the zero itself
zero_root : (x : Float) (s : Bool) (n : ℕ) → n ≡ 0 → Value binary32 x s n → Value binary32 (root x) s n
unfolding root
zero_root nan s n z h = absurd h
zero_root (inf t) s n z h = absurd h
zero_root (fin t m e) s n z h = go (eqb m 0) nothing
  where
    free : (m u : ℕ) → 0 < u → m * u ≡ 0 → m ≡ 0
    free m u p h = eq_of_mul-eq-mul_right u p m 0 (h ∙ sym (zero-mul u))

    m_is : m ≡ 0
    m_is = free m (up e) (up_pos e) (free (m * up e) D (pow_pos 149) (h.1 ∙ ap (λ (k : ℕ). k * down e) z ∙ zero-mul (down e)))

    nothing : T (eqb m 0)
    nothing = subst (λ (k : ℕ). T (eqb k 0)) (sym m_is) tt

    go : (b : Bool) → T b → Value binary32 (cond b (fin t m e) (cond t nan (root_units (size_in binary32 (fin t m e))))) s n
    go true t = h
    go false t = absurd t

-- ---- the root of n, a number not below zero
pub record Root (v : Float) (n : ℕ) : Type 0 where
  pub sign : Bool
  pub size : ℕ
  pub has : Value binary32 v sign size
  pub none : minus sign size ≡ 0
  pub near : Within (size * size) (n * D) (6 * (E * D))

-- the relative error is an absolute one where y, under the root, is at most 2: w is 2^-24, x the square of the root
absolute : (x y w : ℕ) → Within (x * 2 ^ 24) (y * 2 ^ 24) (2 * x) → y ≤ 2 * (2 ^ 24 * w) → Within x y (6 * w)
absolute x y w h l = let k : x ≤ 3 * (2 ^ 24 * w) = omega arith in (omega arith, omega arith)

pub root_of : (x : Float) (s : Bool) (n : ℕ) → T (fits binary32 x) → n ≤ D * 2 → Value binary32 x s n → minus s n ≡ 0 → Root (root x) n
root_of x s n F l h z = elim (eq-zero-or-pos n) [
  | inl e ↦ record { sign = s; size = n; has = zero_root x s n e h; none = z; near = subst (λ (k : ℕ). Within (k * k) (k * D) (6 * (E * D))) (sym e) (lit≤ tt, lit≤ tt) }
  | inr p ↦ above s p h z
]
  where
    above : (s : Bool) → 0 < n → Value binary32 x s n → minus s n ≡ 0 → Root (root x) n
    above true p h z = absurd (lt_irrefl 0 (subst (λ (k : ℕ). 0 < k) z p))
    above false p h z =
        let q = positive_of_value x n D h p in
        record {
          sign = false;
          size = size_in binary32 (root x);
          has = root_value x F q;
          none = refl;
          near = absolute (size_in binary32 (root x) * size_in binary32 (root x)) (n * D) (E * D)
              (subst (λ (k : ℕ). Within (size_in binary32 (root x) * size_in binary32 (root x) * 2 ^ 24) (k * D * 2 ^ 24) (2 * (size_in binary32 (root x) * size_in binary32 (root x)))) (size_of_value binary32 x false n h).0
              (root_near x F (positive-finite x q) (positive_sign x q) (positive_size binary32 x F q)))
              (le_trans (mul-le-mul_right D l) (lit≤ tt));
        }

-- ---- the reciprocal of a root above 7/8
pub record Reciprocal (v : Float) : Type 0 where
  pub size : ℕ
  pub has : Value binary32 v false size
  pub most : 4 * size ≤ 5 * D

recip_le : (r m d : ℕ) → 0 < d → 7 * d ≤ 8 * m → r * m * 2 ^ 24 ≤ d * d * 2 ^ 24 + d * d → 4 * r ≤ 5 * d
recip_le r m d p h k =
    let g : 7 * 2 ^ 24 * r * d ≤ 8 * (2 ^ 24 + 1) * d * d = omega (arith, mul-le-mul_left r h) in
    few (le_of_mul-le-mul_right g p)
  where
    few : 7 * 2 ^ 24 * r ≤ 8 * (2 ^ 24 + 1) * d → 4 * r ≤ 5 * d
    few h = omega arith

-- 7/8
abbrev most_of_one : Float
most_of_one = of_bits binary32 0x3f600000

most_is : Value binary32 most_of_one false (7 * 2 ^ 146)
unfolding of_bits
most_is = (refl, refl)

-- x is at least 1 - 5005 times 2^-24
pub reciprocal : (x : Float) (n : ℕ) → T (fits binary32 x) → Value binary32 x false n → 16772211 * E ≤ n → Reciprocal (div binary32 one (root x))
reciprocal x n F h l =
    record {
      size = size_in binary32 (div binary32 one (root x));
      has = recip_value x F q;
      most = recip_le (size_in binary32 (div binary32 one (root x))) (size_in binary32 (root x)) D (pow_pos 149) (mul-le-mul_left 8 reaches) (recip_near x F q).0;
    }
  where
    q : T (positive x)
    q = positive_of_value x n D h (lt_of_lt_of_le (lit< tt) l)

    reaches : 7 * 2 ^ 146 ≤ size_in binary32 (root x)
    reaches =
        root_at_least x (root x) most_of_one (7 * 2 ^ 146) (positive_root x F q) (of_bits-fits binary32 0x3f600000) most_is
        (subst (λ (k : ℕ). 7 * 2 ^ 146 * (7 * 2 ^ 146) ≤ k * D) (sym (size_of_value binary32 x false n h).0) (le_trans (lit≤ tt) (mul-le-mul_right D l)))
