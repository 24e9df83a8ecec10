-- Distance of natural numbers: the vocabulary of the error bounds.
use Rattle.std.specs.Prelude.{ℕ, ◌+◌, ◌-◌, ◌≤◌}

-- how far apart a and b are
abbrev pub distance : ℕ → ℕ → ℕ
distance a b = a - b + (b - a)

-- a and b are at most c apart
abbrev pub Within : ℕ → ℕ → ℕ → Type 0
Within a b c = (a ≤ b + c) × (b ≤ a + c)
