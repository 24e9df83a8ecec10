-- Where the sign functions on bit patterns agree with those on floats: component by component, wherever the one that a sign is taken from is no NaN.
use Rattle.std.specs.Prelude.{◌≡◌, not, ℕ, ◌/◌, ◌%◌, ◌^◌, ◌≤◌, T}
use Rattle.std.specs.Float.Ieee.{is_nan}
use Rattle.vector.specs.ElementsMeaning.{at}
use Rattle.vector.specs.Signs.{of_patterns, copysign, copysign_bits, is_negative_bitmask, is_negative_bitmask_bits}

-- bit i of a number, 0 the lowest
abbrev pub bit_at : ℕ → ℕ → ℕ
bit_at n i = n / 2 ^ i % 2

-- bit i of the masks, where component i is no NaN
abbrev pub MasksAgree : ℕ → ℕ → ℕ → Type 0
MasksAgree x y z =
    (i : ℕ) → i ≤ 2 → T (not (is_nan (at (of_patterns x y z) i))) → bit_at (is_negative_bitmask_bits x y z) i ≡ bit_at (is_negative_bitmask (of_patterns x y z)) i

-- component i of the vectors, where component i of the signs a, b, c is no NaN
abbrev pub CopiesAgree : ℕ → ℕ → ℕ → ℕ → ℕ → ℕ → Type 0
CopiesAgree x y z a b c =
    (i : ℕ) → i ≤ 2 → T (not (is_nan (at (of_patterns a b c) i))) → at (copysign_bits x y z a b c) i ≡ at (copysign (of_patterns x y z) (of_patterns a b c)) i
