-- The bit pattern of zero. Assumes nothing.
use mathlib.Core.Path.{◌≡◌, refl}
use lib.Ieee.{binary32, of_bits, to_bits}
use Rattle.vector.specs.Vectors.{zer}

pub bits_of_zero : to_bits binary32 zer ≡ 0
unfolding to_bits of_bits
bits_of_zero = refl
