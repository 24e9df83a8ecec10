-- The leading zeros of a number v below 2 ^ w, and v shifted left by them. Assumes nothing.
use mathlib.Core.Path.{◌≡◌, sym, ap, ◌∙◌}
use Prim.Native.Nat.{ℕ, suc, ◌+◌, ◌-◌, ◌*◌, ◌^◌, ◌≤◌, ◌<◌}
use native.Mathlib.Nat.{le_trans, le_of_eq, lt_of_lt_of_le, mul-le-mul_right, mul-lt-mul_of_pos_right}
use native.Mathlib.Omega.{arith}
use lib.Pow.{pow_pos, pow-add}
use lib.Count.{count_leading_zeros, leading_top}

module _ (w v : ℕ) (P : 0 < v) (W : v < 2 ^ w) where
  pub leading_lt : count_leading_zeros w v < w
  leading_lt = let e = (leading_top w v P W).1 in omega arith

  -- shifted left until d are left
  pub leading_shift : (u d : ℕ) → u + d ≡ count_leading_zeros w v → (2 ^ (w - d - 1) ≤ v * 2 ^ u) × (v * 2 ^ u < 2 ^ (w - d))
  leading_shift u d h = let t = leading_top w v P W in (
    le_trans (le_of_eq (ap (λ (n : ℕ). 2 ^ n) (low t.0 t.1) ∙ pow-add 2 t.0 u)) (mul-le-mul_right (2 ^ u) t.2),
    lt_of_lt_of_le (mul-lt-mul_of_pos_right t.3 (pow_pos u)) (le_of_eq (sym (ap (λ (n : ℕ). 2 ^ n) (high t.0 t.1) ∙ pow-add 2 (suc t.0) u))),
  )
    where
      low : (j : ℕ) → count_leading_zeros w v + suc j ≡ w → w - d - 1 ≡ j + u
      low j e = omega arith

      high : (j : ℕ) → count_leading_zeros w v + suc j ≡ w → w - d ≡ suc j + u
      high j e = omega arith
