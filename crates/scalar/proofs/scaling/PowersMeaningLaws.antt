-- Products with powers of two, powers of two and binary logarithms are what specs/PowersMeaning says. Assumes nothing.
use mathlib.Core.Path.{◌≡◌, sym, ap, ◌∙◌, subst}
use mathlib.Core.Bool.{false}
use Prim.Native.Nat.{ℕ, suc, ◌-◌, ◌*◌, ◌^◌, ◌≤◌, ◌<◌}
use native.Mathlib.Nat.{le_of_eq, lt_of_lt_of_le, lt_of_not-le, not-le_of_lt, pow-suc}
use native.Mathlib.Omega.{arith}
use lib.Dec.{T}
use lib.Pow.{pow_pos, pow_mono}
use lib.Ieee.{Float, binary32, size, fits}
use lib.Ieee.Digits.{size-lt, size_reaches}
use lib.Ieee.Scale.{finite}
use Rattle.laws.specs.Exact.{negative, size_in}
use Rattle.laws.proofs.values.SizeLaws.{value_of_size}
use Rattle.laws.proofs.rounding.RoundNearest.{round_nearest}
use Rattle.scalar.specs.Powers.{times_power, power_of_two, log2}
use Rattle.scalar.specs.PowersMeaning.{PowerProduct, PowersMeaning}
use Rattle.scalar.proofs.scaling.PowerLaws.{power_at}

pub product_means : (j : ℕ) (x : Float) → T (fits binary32 x) → T (finite x) → PowerProduct j x (times_power j x)
product_means j x f t =
    subst (PowerProduct j x) (sym (power_at j x (negative x) (size_in binary32 x) (value_of_size binary32 x f t)))
    (round_nearest binary32 (negative x) (size_in binary32 x) (2 ^ j) (pow_pos j))

-- ---- the binary logarithm
module _ (n : ℕ) (some : 0 < n) where
  size_some : 0 < size n
  size_some = lt_of_not-le (λ (g : size n ≤ 0). not-le_of_lt (lt_of_lt_of_le (size-lt n) (pow_mono g)) some)

  pub log2_low : 2 ^ log2 n ≤ n
  log2_low = size_reaches n (log2 n) (less (size n) size_some)
    where
      less : (z : ℕ) → 0 < z → z - 1 < z
      less z h = omega arith

  pub log2_high : n < 2 ^ log2 n * 2
  log2_high = lt_of_lt_of_le (size-lt n) (le_of_eq (ap (λ (i : ℕ). 2 ^ i) (more (size n) size_some) ∙ pow-suc 2 (log2 n)))
    where
      more : (z : ℕ) → 0 < z → z ≡ suc (z - 1)
      more z h = omega arith

pub powers_mean : PowersMeaning
unfolding power_of_two
powers_mean = record {
  product = product_means;
  power = λ j. round_nearest binary32 false (2 ^ 149) (2 ^ j) (pow_pos j);
  from = log2_low;
  to = log2_high;
}
