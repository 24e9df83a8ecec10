-- A quotient truncated with a sticky bit, for rounding.
use Rattle.std.specs.Prelude.{ℕ, ◌+◌, ◌*◌, ◌/◌, ◌%◌, cond, eqb}

-- The sticky bit of what is dropped: 0 where that is 0, else 1.
abbrev pub sticky_bit : ℕ → ℕ
sticky_bit r = cond (eqb r 0) 0 1

-- a / b truncated, with its last bit set where anything is dropped (rounding to odd): on the same side of each even number as a / b.
unfoldable pub sticky : ℕ → ℕ → ℕ
sticky a b = 2 * (a / (2 * b)) + sticky_bit (a % (2 * b))
