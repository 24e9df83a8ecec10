-- What the functions of the root promise each other.
use Rattle.std.specs.Prelude.{◌≡◌, ℕ, ◌+◌, ◌-◌, ◌*◌, ◌%◌, ◌^◌, ◌≤◌, ◌<◌}

-- a significand above zero and its exponent
pub record Positive (q k : ℕ) : Type 0 where
  pub some : 0 < q
  pub bits : q < 2 ^ 24
  pub range : k < 254

-- q shifted left by r has 47 or 48 bits, and k + 149 - r is even
pub record Shift (q k r : ℕ) : Type 0 where
  pub low : 2 ^ 46 ≤ q * 2 ^ r
  pub high : q * 2 ^ r < 2 ^ 48
  pub least : 23 ≤ r
  pub most : r ≤ 47
  pub even : (k + 149 - r) % 2 ≡ 0

-- r, of 24 bits or 2 ^ 24, is nearest to the root of n: the root lies between r - 1/2 and r + 1/2
pub record NearRoot (n r : ℕ) : Type 0 where
  pub above : 4 * (r * r) + 1 < 4 * n + 4 * r
  pub below : 4 * n < (2 * r + 1) * (2 * r + 1)
  pub least : 2 ^ 23 ≤ r
  pub most : r ≤ 2 ^ 24
