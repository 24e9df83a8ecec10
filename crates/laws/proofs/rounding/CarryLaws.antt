-- `closest` by one sum and a division, as a program without branches finds it: half the divisor less one is added, and one more where
-- the quotient is odd. Assumes nothing.
use mathlib.Core.Path.{◌≡◌, sym, ap, ◌∙◌, subst}
use Prim.Native.Nat.{ℕ, zero, suc, ◌+◌, ◌-◌, ◌*◌, ◌/◌, ◌%◌, ◌≤◌, ◌<◌, compare, Ordering}
use native.Mathlib.Nat.{add-zero, suc-mul, mod-lt, div-add-mod'}
use native.Mathlib.Numerals.{add-one}
use native.Mathlib.Omega.{arith}
use lib.Arith.{digits_div}
use lib.Ieee.{nearest}
use lib.Ieee.Nearest.{closest}
use Rattle.laws.proofs.numbers.CompareLaws.{Cmp, cmp}

carried : (w h r : ℕ) (o : Ordering) → Cmp o (r * 2) (2 * h) → r < 2 * h → (w * (2 * h) + r + (h - 1) + w % 2) / (2 * h) ≡ nearest w o
carried w h r Ordering.lt c l = ap (λ (n : ℕ). n / (2 * h)) (sums w h r) ∙ digits_div w (less w h r c)
  where
    sums : (w h r : ℕ) → w * (2 * h) + r + (h - 1) + w % 2 ≡ w * (2 * h) + (r + (h - 1) + w % 2)
    sums w h r = omega arith

    less : (w h r : ℕ) → r * 2 < 2 * h → r + (h - 1) + w % 2 < 2 * h
    less w h r c = omega arith
carried w h r Ordering.eq c l = ap (λ (n : ℕ). n / (2 * h)) (sums w h r c l) ∙ at (w % 2) (bit w)
  where
    sums : (w h r : ℕ) → r * 2 ≡ 2 * h → r < 2 * h → w * (2 * h) + r + (h - 1) + w % 2 ≡ w * (2 * h) + (2 * h - 1 + w % 2)
    sums w h r c l = omega arith

    bit : (w : ℕ) → w % 2 ≤ 1
    bit w = omega arith

    less : (h r : ℕ) → r < 2 * h → 2 * h - 1 + 0 < 2 * h
    less h r l = omega arith

    next : (w h r : ℕ) → r < 2 * h → w * (2 * h) + (2 * h - 1 + 1) ≡ suc w * (2 * h) + 0
    next w h r l = omega (arith, suc-mul w (2 * h))

    pos : (h r : ℕ) → r < 2 * h → 0 < 2 * h
    pos h r l = omega arith

    at : (b : ℕ) → b ≤ 1 → (w * (2 * h) + (2 * h - 1 + b)) / (2 * h) ≡ w + b
    at zero k = digits_div w (less h r l) ∙ sym (add-zero w)
    at (suc zero) k = ap (λ (n : ℕ). n / (2 * h)) (next w h r l) ∙ digits_div (suc w) (pos h r l) ∙ sym (add-one w)
    at (suc (suc b)) k = absurd (omega arith)
carried w h r Ordering.gt c l = ap (λ (n : ℕ). n / (2 * h)) (sums w h r c l) ∙ digits_div (suc w) (less w h r c l)
  where
    sums : (w h r : ℕ) → 2 * h < r * 2 → r < 2 * h → w * (2 * h) + r + (h - 1) + w % 2 ≡ suc w * (2 * h) + (r - h - 1 + w % 2)
    sums w h r c l = omega (arith, suc-mul w (2 * h))

    less : (w h r : ℕ) → 2 * h < r * 2 → r < 2 * h → r - h - 1 + w % 2 < 2 * h
    less w h r c l = omega arith

pub closest_carry : (a h : ℕ) → 0 < h → (a + (h - 1) + a / (2 * h) % 2) / (2 * h) ≡ closest a (2 * h)
closest_carry a h H =
    subst (λ (n : ℕ). (n + (h - 1) + a / (2 * h) % 2) / (2 * h) ≡ closest a (2 * h)) (div-add-mod' a (2 * h))
    (carried (a / (2 * h)) h (a % (2 * h)) (compare (a % (2 * h) * 2) (2 * h)) (cmp (a % (2 * h) * 2) (2 * h)) (mod-lt a (double h H)))
  where
    double : (h : ℕ) → 0 < h → 0 < 2 * h
    double h H = omega arith
