-- The whole root of a number with four bits more: a digit of base 4 more. Assumes nothing.
use mathlib.Core.Path.{◌≡◌, sym, ap, ◌∙◌, subst}
use Prim.Native.Nat.{ℕ, ◌+◌, ◌-◌, ◌*◌, ◌/◌, ◌^◌, ◌≤◌, ◌<◌}
use native.Mathlib.Nat.{lt_of_le_of_lt, div-le_self, div-div-eq-div-mul, div-eq_of_lt}
use native.Mathlib.Omega.{arith}
use lib.Pow.{pow-add}
use Rattle.laws.specs.WholeRoot.{WholeRoot, grown}
use Rattle.laws.proofs.numbers.WholeRootLaws.{even_square, bit_one, bit_zero, grown_is, root_lt}

-- ---- a digit, of which the first bit is told
module _ (m s : ℕ) (w : WholeRoot (m / 16) s) where
  before : WholeRoot (m / 4 / 4) s
  before = subst (λ (x : ℕ). WholeRoot x s) (sym (div-div-eq-div-mul m 4 4)) w

  twice : 2 * (2 * s + 1) ≡ 4 * s + 2
  twice = omega arith

  halves : (4 * s + 2) * (4 * s + 2) ≡ 4 * ((2 * s + 1) * (2 * s + 1))
  halves = subst (λ (r : ℕ). r * r ≡ 4 * ((2 * s + 1) * (2 * s + 1))) twice (even_square (2 * s + 1))

  pub first_one : (4 * s + 2) * (4 * s + 2) ≤ m → WholeRoot m (grown (4 * s + 2) m)
  first_one h = subst (λ (r : ℕ). WholeRoot m (grown r m)) twice (grown_is m (2 * s + 1) (bit_one (m / 4) s before (omega (arith, halves))))

  pub first_zero : m < (4 * s + 2) * (4 * s + 2) → WholeRoot m (grown (4 * s) m)
  first_zero h = subst (λ (r : ℕ). WholeRoot m (grown r m)) same (grown_is m (2 * s) (bit_zero (m / 4) s before (omega (arith, halves))))
    where
      same : 2 * (2 * s) ≡ 4 * s
      same = omega arith

-- ---- a root has few bits
pub root_few : (m s : ℕ) → m < 2 ^ 48 → WholeRoot (m / 16) s → s < 2 ^ 22
root_few m s h w = root_lt (m / 16) s 4194304 w (omega arith)

-- ---- no bit of n yet, four bits more, and all
pub no_bits : (n : ℕ) → n < 2 ^ 48 → WholeRoot (n / 2 ^ 48) 0
no_bits n h = subst (λ (m : ℕ). WholeRoot m 0) (sym (div-eq_of_lt h)) (record { below = omega arith; above = omega arith })

pub four_bits : (n s i : ℕ) → n < 2 ^ 48 → i < 12 → WholeRoot (n / 2 ^ (48 - 4 * i)) s → (s < 2 ^ 22) × WholeRoot (n / 2 ^ (44 - 4 * i) / 16) s
four_bits n s i l h w = (root_few _ _ (lt_of_le_of_lt (div-le_self _ _) l) (next n s i h w), next n s i h w)
  where
    sum : (i : ℕ) → i < 12 → 48 - 4 * i ≡ 44 - 4 * i + 4
    sum i h = omega arith

    next : (n s i : ℕ) → i < 12 → WholeRoot (n / 2 ^ (48 - 4 * i)) s → WholeRoot (n / 2 ^ (44 - 4 * i) / 16) s
    next n s i h w = subst (λ (m : ℕ). WholeRoot m s) (ap (λ (k : ℕ). n / 2 ^ k) (sum i h) ∙ ap (λ (v : ℕ). n / v) (pow-add 2 (44 - 4 * i) 4) ∙ sym (div-div-eq-div-mul n (2 ^ (44 - 4 * i)) 16)) w

pub all_bits : (n s i : ℕ) → 12 ≤ i → WholeRoot (n / 2 ^ (48 - 4 * i)) s → WholeRoot n s
all_bits n s i h w = subst (λ (m : ℕ). WholeRoot m s) (ap (λ (k : ℕ). n / 2 ^ k) (none i h) ∙ whole n) w
  where
    none : (i : ℕ) → 12 ≤ i → 48 - 4 * i ≡ 0
    none i h = omega arith

    whole : (n : ℕ) → n / 1 ≡ n
    whole n = omega arith
