-- A power of two above all f32: a small number times it is the product with two powers that are f32, and exact. Assumes nothing.
use mathlib.Core.Path.{◌≡◌, sym, ap, ◌∙◌, subst}
use mathlib.Core.Bool.{Bool}
use Prim.Native.Nat.{ℕ, ◌+◌, ◌*◌, ◌^◌, ◌≤◌, ◌<◌}
use native.Mathlib.Nat.{lt_of_lt_of_le, mul_assoc, mul-lt-mul_of_pos_right, mul-le-mul_right}
use native.Mathlib.Omega.{arith}
use lib.Dec.{T, lit≤}
use lib.Pow.{pow_pos, pow-add, pow_mono}
use lib.Ieee.{Float, nan, inf, fin, binary32, round, mul, fits}
use lib.Ieee.Exact.{round_exact}
use lib.Ieee.Fits.{mul-fits}
use lib.Ieee.Scale.{finite, round_same}
use Rattle.laws.specs.Exact.{negative, size_in}
use Rattle.laws.proofs.values.ValueLaws.{Value, value_same}
use Rattle.laws.proofs.values.SizeLaws.{value_of_size}
use Rattle.scalar.specs.Powers.{times_power, power_of_two}
use Rattle.scalar.proofs.scaling.PowerLaws.{power_at, power_factor}

-- x times 2 ^ 127 and then 2 ^ (22 - j)
abbrev twice : ℕ → Float → Float
twice j x = mul binary32 (mul binary32 x (power_of_two 22)) (power_of_two (127 + j))

module _ (j : ℕ) (low : j < 22) (x : Float) (f : T (fits binary32 x)) where
  -- each product is the number times that power
  by_factors : twice j x ≡ times_power (127 + j) (times_power 22 x)
  by_factors =
      power_factor (127 + j) (omega arith) (omega arith) (mul binary32 x (power_of_two 22)) (mul-fits binary32 x (power_of_two 22))
      ∙ ap (times_power (127 + j)) (power_factor 22 (lit≤ tt) (lit≤ tt) x f)

-- N smallest values, fewer than 2 ^ 22, times 2 ^ 127 are exact
module _ (j : ℕ) (low : j < 22) (x : Float) (s : Bool) (N : ℕ) (is : Value binary32 x s N) (h : N < 2 ^ j * 2) where
  few : N < 2 ^ 22
  few = lt_of_lt_of_le h (mul-le-mul_right 2 (pow_mono (below j low)))
    where
      below : (j : ℕ) → j < 22 → j ≤ 21
      below j l = omega arith

  first : Value binary32 (times_power 22 x) s (N * 2 ^ 127)
  first =
      subst (λ (y : Float). Value binary32 y s (N * 2 ^ 127)) (sym (power_at 22 x s N is))
      (value_same (round binary32 s N (2 ^ 22)) s N (2 ^ 22) (N * 2 ^ 127) (2 ^ 149) (pow_pos 22) same
      (round_exact binary32 s N (2 ^ 22) N 127 (pow_pos 22) (lt_of_lt_of_le few (lit≤ tt)) (lt_of_lt_of_le (mul-lt-mul_of_pos_right few (pow_pos 127)) (lit≤ tt)) same))
    where
      same : N * 2 ^ 149 ≡ N * 2 ^ 127 * 2 ^ 22
      same = ap (λ (n : ℕ). N * n) (pow-add 2 127 22) ∙ sym (mul_assoc N (2 ^ 127) (2 ^ 22))

  second : times_power (127 + j) (times_power 22 x) ≡ times_power j x
  second =
      power_at (127 + j) (times_power 22 x) s (N * 2 ^ 127) first
      ∙ round_same binary32 s (N * 2 ^ 127) (2 ^ (127 + j)) N (2 ^ j) (pow_pos (127 + j)) (pow_pos j) (mul_assoc N (2 ^ 127) (2 ^ j) ∙ ap (λ (n : ℕ). N * n) (sym (pow-add 2 127 j)))
      ∙ sym (power_at j x s N is)

pub power_twice : (j : ℕ) → j < 22 → (x : Float) → T (fits binary32 x) → (T (finite x) → size_in binary32 x < 2 ^ j * 2) → mul binary32 (mul binary32 x (power_of_two 22)) (power_of_two (127 + j)) ≡ times_power j x
unfolding times_power
power_twice j low nan f h = by_factors j low nan f
power_twice j low (inf s) f h = by_factors j low (inf s) f
power_twice j low (fin s m e) f h =
    let x = fin s m e in
    by_factors j low x f ∙ second j low x (negative x) (size_in binary32 x) (value_of_size binary32 x f tt) (h tt)
