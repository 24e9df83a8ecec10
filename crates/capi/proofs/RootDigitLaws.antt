-- The whole root of a number with four bits more, and of all its bits, for every number of bits that are left out. Assumes nothing.
use mathlib.Core.Path.{◌≡◌, sym, ap, ◌∙◌, subst}
use Prim.Native.Nat.{ℕ, zero, suc, ◌+◌, ◌-◌, ◌/◌, ◌^◌, ◌≤◌}
use native.Mathlib.Nat.{div-div-eq-div-mul}
use native.Mathlib.Omega.{arith}
use lib.Pow.{pow-add}
use Rattle.laws.specs.WholeRoot.{WholeRoot}

pub four_bits : (n s k : ℕ) → 4 ≤ k → WholeRoot (n / 2 ^ k) s → WholeRoot (n / 2 ^ (k - 4) / 16) s
four_bits n s k h w = subst (λ (m : ℕ). WholeRoot m s) (ap (λ (i : ℕ). n / 2 ^ i) (sum k h) ∙ ap (λ (v : ℕ). n / v) (pow-add 2 (k - 4) 4) ∙ sym (div-div-eq-div-mul n (2 ^ (k - 4)) 16)) w
  where
    sum : (k : ℕ) → 4 ≤ k → k ≡ k - 4 + 4
    sum k h = omega arith

pub all_bits : (n s k : ℕ) → k ≤ 0 → WholeRoot (n / 2 ^ k) s → WholeRoot n s
all_bits n s zero h w = subst (λ (m : ℕ). WholeRoot m s) (omega arith) w
all_bits n s (suc k) h w = absurd (omega arith)
