-- A number times a power of two (document 02, f: "each exact product is rounded once to f32, also where the power itself is no f32"), and the binary logarithm of a
-- size, which tells the power.
use Rattle.std.specs.Prelude.{ℕ, ◌+◌, ◌-◌, ◌*◌, ◌^◌, false, Float}
use Rattle.std.specs.Float.{nan, inf, fin, binary32}
use Rattle.std.specs.Float.Ieee.{up, down, size, round}

-- x times 2 ^ (149 - j), the exact product rounded once; the power is an f32 for j of 22 to 298 alone
unfoldable pub times_power : ℕ → Float → Float
times_power j nan = nan
times_power j (inf s) = inf s
times_power j (fin s m e) = round binary32 s (m * up e * 2 ^ 149) (down e * 2 ^ j)

-- 2 ^ (149 - j) itself, rounded
unfoldable pub power_of_two : ℕ → Float
power_of_two j = round binary32 false (2 ^ 149) (2 ^ j)

-- the one j with 2 ^ j ≤ n < 2 ^ (j + 1): one less than n has bits; 0 for 0
abbrev pub log2 : ℕ → ℕ
log2 n = size n - 1

-- the larger of two numbers: m, and what n has more
abbrev pub larger : ℕ → ℕ → ℕ
larger m n = m + (n - m)
