-- The whole root of a whole number, as a statement and as a computation.
use Rattle.std.specs.Prelude.{ℕ, zero, suc, ◌+◌, ◌*◌, ◌/◌, ◌≤◌, ◌<◌, cond, leb}

-- r is the whole root of n: the largest whose square is at most n.
pub record WholeRoot (n r : ℕ) : Type 0 where
  pub below : r * r ≤ n
  pub above : n < (r + 1) * (r + 1)

-- r, or the next number if its square is at most n
abbrev pub grown : ℕ → ℕ → ℕ
grown r n = cond (leb ((r + 1) * (r + 1)) n) (r + 1) r

-- The whole root of an n below 4 ^ k, a bit at a time.
unfoldable pub whole_root : ℕ → ℕ → ℕ
whole_root zero n = 0
whole_root (suc k) n = let r = whole_root k (n / 4) in grown (2 * r) n
