-- The unit in the last place of a rounded number: n, counted in 2 ^ -426, is rounded to a multiple of 2 ^ (277 + k). Assumes nothing.
use mathlib.Core.Path.{◌≡◌, refl, sym, ap, ◌∙◌, subst}
use mathlib.Core.Bool.{Bool}
use mathlib.Core.List.{[], ◌∷◌}
use Prim.Native.Nat.{ℕ, zero, suc, ◌+◌, ◌-◌, ◌*◌, ◌/◌, ◌^◌, ◌≤◌, ◌<◌}
use native.Mathlib.Nat.{le_trans, le_of_eq, lt_of_lt_of_le, mul-pos, mul-div-mul_right, div-lt_iff_lt-mul, le-div_iff_mul-le}
use native.Mathlib.Omega.{arith}
use lib.Pow.{pow_pos, pow-add, pow_mono}
use lib.Ieee.{binary32, size, units, round}
use lib.Ieee.Digits.{size-lt, size-le, size_reaches}
use lib.Ieee.Fits.{core, round_is}
use lib.Ieee.Nearest.{closest, closest_same}
use Rattle.laws.proofs.solvers.Ring.{var, lit, ◌⊗◌}
use Rattle.laws.proofs.solvers.RingNat.{ring}
use Rattle.laws.proofs.values.ValueLaws.{size_is}

-- that is 2 ^ k of the smallest values where n lies between 2 ^ (300 + k) and 2 ^ (301 + k)
ulp_size : (n k : ℕ) → n < 2 ^ (301 + k) → (0 < k → 2 ^ (300 + k) ≤ n) → size (n / 2 ^ 277) - 24 ≡ k
ulp_size n k h l = go k refl
  where
    under : n / 2 ^ 277 < 2 ^ (24 + k)
    under = (div-lt_iff_lt-mul (pow_pos 277)).1 (lt_of_lt_of_le h (le_of_eq (ap (λ (x : ℕ). 2 ^ x) (high k) ∙ pow-add 2 (24 + k) 277)))
      where
        high : (k : ℕ) → 301 + k ≡ 24 + k + 277
        high k = omega arith

    over : 0 < k → 2 ^ (23 + k) ≤ n / 2 ^ 277
    over p = (le-div_iff_mul-le (pow_pos 277)).1 (le_trans (le_of_eq (sym (ap (λ (x : ℕ). 2 ^ x) (low k) ∙ pow-add 2 (23 + k) 277))) (l p))
      where
        low : (k : ℕ) → 300 + k ≡ 23 + k + 277
        low k = omega arith

    go : (j : ℕ) → k ≡ j → size (n / 2 ^ 277) - 24 ≡ k
    go zero e = let z = size-le (n / 2 ^ 277) (24 + k) under in omega arith
    go (suc j) e =
        let z = size_is (n / 2 ^ 277) (23 + k) (over (omega arith)) (subst (λ (x : ℕ). n / 2 ^ 277 < 2 ^ x) (next k) under) in
        omega arith
      where
        next : (k : ℕ) → 24 + k ≡ suc (23 + k)
        next k = omega arith

-- and for one k it does: the exponent of the unit in the last place, counted from the smallest value's
abbrev pub ulp_of : ℕ → ℕ
ulp_of n = size (n / 2 ^ 277) - 24

pub ulp_under : (n : ℕ) → n < 2 ^ (301 + ulp_of n)
ulp_under n =
    lt_of_lt_of_le ((div-lt_iff_lt-mul (pow_pos 277)).0 (lt_of_lt_of_le (size-lt (n / 2 ^ 277)) (pow_mono (cover (size (n / 2 ^ 277))))))
    (le_of_eq (sym (pow-add 2 (24 + ulp_of n) 277) ∙ ap (λ (x : ℕ). 2 ^ x) (sums (ulp_of n))))
  where
    cover : (z : ℕ) → z ≤ 24 + (z - 24)
    cover z = omega arith

    sums : (k : ℕ) → 24 + k + 277 ≡ 301 + k
    sums k = omega arith

pub ulp_over : (n : ℕ) → 0 < ulp_of n → 2 ^ (300 + ulp_of n) ≤ n
ulp_over n p =
    le_trans (le_of_eq (ap (λ (x : ℕ). 2 ^ x) (sums (ulp_of n)) ∙ pow-add 2 (23 + ulp_of n) 277))
    ((le-div_iff_mul-le (pow_pos 277)).0 (size_reaches (n / 2 ^ 277) (23 + ulp_of n) (inside (size (n / 2 ^ 277)) p)))
  where
    sums : (k : ℕ) → 300 + k ≡ 23 + k + 277
    sums k = omega arith

    inside : (z : ℕ) → 0 < z - 24 → 23 + (z - 24) < z
    inside z h = omega arith

pub round_ulp : (s : Bool) (n k : ℕ) → n < 2 ^ (301 + k) → (0 < k → 2 ^ (300 + k) ≤ n) → round binary32 s n (2 ^ 426) ≡ units binary32 s (closest n (2 ^ (277 + k))) k
round_ulp s n k h l =
    round_is binary32 s n (2 ^ 426)
    ∙ ap (λ (z : ℕ). core binary32 s (n * 2 ^ 149) (2 ^ 426) z) (ap (λ (z : ℕ). size z - 24) (mul-div-mul_right n (2 ^ 277) (pow_pos 149)) ∙ ulp_size n k h l)
    ∙ ap (λ (z : ℕ). units binary32 s z k) (closest_same (n * 2 ^ 149) (2 ^ 426 * 2 ^ k) n (2 ^ (277 + k)) (mul-pos (pow_pos 426) (pow_pos k)) (pow_pos (277 + k))
    (ap (λ (z : ℕ). n * 2 ^ 149 * z) (pow-add 2 277 k) ∙ ring (n ∷ 2 ^ k ∷ []) (var 0 ⊗ lit (2 ^ 149) ⊗ (lit (2 ^ 277) ⊗ var 1)) (var 0 ⊗ (lit (2 ^ 426) ⊗ var 1)) refl))
