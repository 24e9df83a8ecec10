-- A fraction rounded, in units of the format's smallest value (`grid`): a power of two bounds the result where it bounds the fraction, and bounds its error. Assumes nothing.
use mathlib.Core.Path.{◌≡◌, refl, sym, ap, ◌∙◌}
use mathlib.Core.Logic.{inl, inr}
use Prim.Native.Nat.{ℕ, suc, ◌+◌, ◌-◌, ◌*◌, ◌/◌, ◌^◌, ◌≤◌, ◌<◌}
use native.Mathlib.Nat.{le_trans, le_of_eq, lt_of_lt_of_le, lt_of_le_of_lt, eq-or-lt_of_le, mul_comm, mul_assoc, mul_left_comm, mul_right_comm, mul-le-mul, mul-le-mul_left, mul-le-mul_right, mul-lt-mul_of_pos_right, mul-pos, div-lt_iff_lt-mul, le-div_iff_mul-le}
use native.Mathlib.Omega.{arith}
use lib.Pow.{pow_pos, pow-add, pow_mono}
use lib.Ieee.{Format, binary32, binary64, prec, emax, low, size}
use lib.Ieee.Digits.{size-le}
use lib.Ieee.Fits.{two, two-le_pos}
use lib.Ieee.Nearest.{closest}
use lib.Ieee.Order.{drop}
use lib.Ieee.Scale.{grid}
use Rattle.laws.specs.Within.{Within}
use Rattle.laws.proofs.rounding.ClosestLaws.{closest_is}
use Rattle.laws.proofs.values.ValueLaws.{size_more}
use Rattle.laws.proofs.rounding.KeptLaws.{kept_le, kept_ge}
use Rattle.laws.proofs.rounding.RoundingError.{grid_near}

-- 1, and half a unit in the last place between 1 and 2: the error of a rounding there
abbrev pub unit : Format → ℕ
unit f = 2 ^ low f

abbrev pub half_ulp : Format → ℕ
half_ulp f = 2 ^ (emax f - 2)

-- ---- the format's numbers
low_is : (f : Format) → emax f - 2 + prec f ≡ low f
low_is binary32 = refl
low_is binary64 = refl

-- ---- what is dropped
fewer : (x y p : ℕ) → x ≤ y → x - p ≤ y - p
fewer x y p h = omega arith

-- a fraction below 2 ^ j drops at most j - p bits
drop_le : (p n c j : ℕ) → 0 < c → n < 2 ^ j * c → drop p n c ≤ j - p
drop_le p n c j C h = fewer (size (n / c)) j p (size-le (n / c) j ((div-lt_iff_lt-mul C).1 h))

-- one of 2 ^ j at least drops j + 1 - p at least
drop_ge : (p n c j : ℕ) → 0 < c → 2 ^ j * c ≤ n → suc j - p ≤ drop p n c
drop_ge p n c j C h = fewer (suc j) (size (n / c)) p (size_more (n / c) j ((le-div_iff_mul-le C).1 h))

-- ---- a whole multiple of the unit is its own nearest
closest_mul : (q u : ℕ) → 0 < u → closest (q * u) u ≡ q
closest_mul q u h = closest_is (q * u) u q h (omega arith) (omega arith)

turn : (c x y : ℕ) → c * x * y ≡ y * x * c
turn c x y = simp (mul_assoc, mul_comm, mul_left_comm)

-- ---- a power of two is exact
module _ (f : Format) (a c g : ℕ) (C : 0 < c) where
  up_there : a ≡ c * 2 ^ g → a * 2 ^ low f ≡ 2 ^ (low f + g) * c
  up_there e = ap (λ (x : ℕ). x * 2 ^ low f) e ∙ turn c (2 ^ g) (2 ^ low f) ∙ ap (λ (x : ℕ). x * c) (sym (pow-add 2 (low f) g))

  scaled_ge : c * 2 ^ g ≤ a → 2 ^ (low f + g) * c ≤ a * 2 ^ low f
  scaled_ge h = le_trans (le_of_eq (ap (λ (x : ℕ). x * c) (pow-add 2 (low f) g) ∙ sym (turn c (2 ^ g) (2 ^ low f)))) (mul-le-mul_right (2 ^ low f) h)

  scaled_lt : a < c * 2 ^ g → a * 2 ^ low f < 2 ^ (low f + g) * c
  scaled_lt h = lt_of_lt_of_le (mul-lt-mul_of_pos_right h (pow_pos (low f))) (le_of_eq (turn c (2 ^ g) (2 ^ low f) ∙ ap (λ (x : ℕ). x * c) (sym (pow-add 2 (low f) g))))

  grid_exact : a ≡ c * 2 ^ g → grid f a c ≡ 2 ^ (low f + g)
  grid_exact e = at (drop (prec f) (a * 2 ^ low f) c) inside
    where
      j : ℕ
      j = low f + g

      spare : (p x j : ℕ) → 0 < p → x ≤ suc j - p → x ≤ j
      spare p x j P h = omega arith

      double : (x c : ℕ) → 0 < x * c → x * c < x * 2 * c
      double x c h = lt_of_lt_of_le (grow (x * c) h) (le_of_eq (mul_right_comm x c 2))
        where
          grow : (y : ℕ) → 0 < y → y < y * 2
          grow y h = omega arith

      inside : drop (prec f) (a * 2 ^ low f) c ≤ j
      inside = spare (prec f) (drop (prec f) (a * 2 ^ low f) c) j (two-le_pos (prec f) (two f))
          (drop_le (prec f) (a * 2 ^ low f) c (suc j) C
          (lt_of_le_of_lt (le_of_eq (up_there e)) (lt_of_lt_of_le (double (2 ^ j) c (mul-pos (pow_pos j) C)) (le_of_eq (ap (λ (x : ℕ). x * c) (sym (pow-add 2 j 1) ∙ ap (λ (x : ℕ). 2 ^ x) (one j)))))))
        where
          one : (j : ℕ) → j + 1 ≡ suc j
          one j = omega arith

      back : (j k : ℕ) → k ≤ j → j - k + k ≡ j
      back j k h = omega arith

      at : (k : ℕ) → k ≤ j → closest (a * 2 ^ low f) (c * 2 ^ k) * 2 ^ k ≡ 2 ^ j
      at k h =
          ap (λ (n : ℕ). closest n (c * 2 ^ k) * 2 ^ k) (up_there e ∙ ap (λ (x : ℕ). 2 ^ x * c) (sym (back j k h)) ∙ ap (λ (x : ℕ). x * c) (pow-add 2 (j - k) k) ∙ mul_assoc (2 ^ (j - k)) (2 ^ k) c ∙ ap (λ (x : ℕ). 2 ^ (j - k) * x) (mul_comm (2 ^ k) c))
          ∙ ap (λ (n : ℕ). n * 2 ^ k) (closest_mul (2 ^ (j - k)) (c * 2 ^ k) (mul-pos C (pow_pos k)))
          ∙ sym (pow-add 2 (j - k) k)
          ∙ ap (λ (x : ℕ). 2 ^ x) (back j k h)

  -- ---- at most 2 ^ g rounds to at most 2 ^ g
  below : a < c * 2 ^ g → drop (prec f) (a * 2 ^ low f) c ≤ emax f - 2 + g
  below h = le_trans (drop_le (prec f) (a * 2 ^ low f) c (low f + g) C (scaled_lt h)) (le_of_eq (dropped (emax f - 2) (prec f) (low f) g (low_is f)))
    where
      dropped : (m p l g : ℕ) → m + p ≡ l → l + g - p ≡ m + g
      dropped m p l g e = omega arith

  whole : (m p l g : ℕ) → m + p ≡ l → p + (m + g) ≡ l + g
  whole m p l g e = omega arith

  pub grid_le : a ≤ c * 2 ^ g → grid f a c ≤ 2 ^ (low f + g)
  grid_le h = elim (eq-or-lt_of_le h) [
    | inl e ↦ le_of_eq (grid_exact e)
    | inr l ↦
        le_trans (mul-le-mul (kept_le (prec f) (a * 2 ^ low f) c) (pow_mono (below l)))
        (le_of_eq (sym (pow-add 2 (prec f) (emax f - 2 + g)) ∙ ap (λ (x : ℕ). 2 ^ x) (whole (emax f - 2) (prec f) (low f) g (low_is f))))
  ]

  -- ---- and at least 2 ^ g to at least 2 ^ g
  pub grid_ge : c * 2 ^ g ≤ a → 2 ^ (low f + g) ≤ grid f a c
  grid_ge h =
      let k = drop (prec f) (a * 2 ^ low f) c in
      let K : suc (low f + g) - prec f ≤ k = drop_ge (prec f) (a * 2 ^ low f) c (low f + g) C (scaled_ge h) in
      le_trans
      (le_trans (pow_mono (reach (emax f - 2) (prec f) (low f) g k (low_is f) K)) (le_of_eq (pow-add 2 (prec f - 1) k)))
      (mul-le-mul_right (2 ^ k) (kept_ge (prec f) (a * 2 ^ low f) c (two-le_pos (prec f) (two f)) C (lt_of_lt_of_le (some (emax f - 2) (prec f) (low f) g (low_is f)) K)))
    where
      reach : (m p l g k : ℕ) → m + p ≡ l → suc (l + g) - p ≤ k → l + g ≤ p - 1 + k
      reach m p l g k e h = omega arith

      some : (m p l g : ℕ) → m + p ≡ l → 0 < suc (l + g) - p
      some m p l g e = omega arith

-- ---- the error: up to 2 ^ (g + 1) it is at most 2 ^ g times that
pub grid_error : (f : Format) (a c g : ℕ) → 0 < c → a ≤ c * 2 ^ suc g → Within (grid f a c * c) (a * unit f) (c * (half_ulp f * 2 ^ g))
grid_error f a c g C h = elim (eq-or-lt_of_le h) [
  | inl e ↦ same (grid f a c * c) (a * unit f) (c * (half_ulp f * 2 ^ g)) (ap (λ (x : ℕ). x * c) (grid_exact f a c (suc g) C e) ∙ sym (up_there f a c (suc g) C e))
  | inr l ↦
      let k = drop (prec f) (a * 2 ^ low f) c in
      halve (grid f a c * c) (a * unit f) (c * (half_ulp f * 2 ^ g)) (c * 2 ^ k)
      (le_trans (mul-le-mul_left c (pow_mono (below f a c (suc g) C l))) (le_of_eq (ap (λ (x : ℕ). c * x) (pow-add 2 (emax f - 2) (suc g)) ∙ ap (λ (x : ℕ). c * (half_ulp f * x)) (ap (λ (x : ℕ). 2 ^ x) (one g) ∙ pow-add 2 g 1) ∙ regroup c (half_ulp f) (2 ^ g))))
      (grid_near f a c C)
]
  where
    same : (x y z : ℕ) → x ≡ y → Within x y z
    same x y z e = omega arith

    one : (g : ℕ) → suc g ≡ g + 1
    one g = omega arith

    regroup : (c u x : ℕ) → c * (u * (x * 2)) ≡ c * (u * x) * 2
    regroup c u x = simp (mul_assoc)

    halve : (x y z w : ℕ) → w ≤ z * 2 → Within (x * 2) (y * 2) w → Within x y z
    halve x y z w h k = omega arith
