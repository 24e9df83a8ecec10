-- What products with powers of two, powers of two and binary logarithms are, said of exact values.
use Rattle.std.specs.Prelude.{ℕ, ◌*◌, ◌^◌, ◌≤◌, ◌<◌, false, T, Float}
use Rattle.std.specs.Float.{binary32}
use Rattle.std.specs.Float.Ieee.{fits}
use Rattle.std.specs.Float.Ieee.Scale.{finite}
use Rattle.laws.specs.Exact.{negative, size_in}
use Rattle.laws.specs.RoundsTo.{RoundsTo}
use Rattle.scalar.specs.Powers.{times_power, power_of_two, log2}

-- "each exact product is rounded once": x is n times 2^-149, and that times 2^(149-j) is n / 2^j
abbrev pub PowerProduct : ℕ → Float → Float → Type 0
PowerProduct j x r = RoundsTo binary32 (negative x) (size_in binary32 x) (2 ^ j) r

pub record PowersMeaning : Type 0 where
  pub product : (j : ℕ) (x : Float) → T (fits binary32 x) → T (finite x) → PowerProduct j x (times_power j x)
  pub power : (j : ℕ) → RoundsTo binary32 false (2 ^ 149) (2 ^ j) (power_of_two j)
  pub from : (n : ℕ) → 0 < n → 2 ^ log2 n ≤ n
  pub to : (n : ℕ) → 0 < n → n < 2 ^ log2 n * 2
