-- Sizes by their bits: all bits but the sign. Larger sizes have larger bits, and from 0x7f80_0000 on a number is not finite.
use Rattle.std.specs.Prelude.{ℕ, ◌+◌, ◌-◌, ◌*◌, ◌/◌, ◌%◌, ◌^◌, cond, ltb, Float}
use Rattle.std.specs.Float.{binary32}
use Rattle.std.specs.Float.Ieee.{to_bits}
use Rattle.scalar.specs.Powers.{larger}

abbrev pub size_bits : Float → ℕ
size_bits x = to_bits binary32 x % 2147483648

-- those of the largest size of three
unfoldable pub largest_bits : Float → Float → Float → ℕ
largest_bits x y z = larger (size_bits x) (larger (size_bits y) (size_bits z))

-- the size with the bits b, in whole numbers of 2^-149: below 2 ^ 23 it is subnormal, else the significand has one bit more, shifted by the exponent
unfoldable pub size_of_bits : ℕ → ℕ
size_of_bits b = cond (ltb b 8388608) b ((b % 8388608 + 8388608) * 2 ^ (b / 8388608 - 1))
