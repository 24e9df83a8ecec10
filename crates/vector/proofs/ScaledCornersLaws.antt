-- The cases of scaled vectors of specs/ScaledCorners hold: each is computed from the definitions. Assumes nothing.
use Rattle.std.specs.Prelude.{refl}
use Rattle.std.specs.Float.Ieee.{of_bits, size, round, sum, add, mul, div, lt, eq}
use Rattle.laws.specs.Exact.{size_in}
use Rattle.laws.specs.WholeRoot.{whole_root}
use Rattle.scalar.specs.Root.{root, root_units}
use Rattle.scalar.specs.Powers.{times_power}
use Rattle.vector.specs.Operators.{mul_number}
use Rattle.vector.specs.Comparisons.{is_finite}
use Rattle.vector.specs.Products.{dot, length, length_recip}
use Rattle.vector.specs.Normalizing.{usable, try_normalize}
use Rattle.vector.specs.Scaled.{scaled}
use Rattle.vector.specs.DirectionOf.{three_zeros, direction_of, direction_unchecked}
use Rattle.vector.specs.ScaledCorners.{ScaledCorners}

pub scaled_corners : ScaledCorners
unfolding direction_of direction_unchecked three_zeros scaled is_finite times_power size_in size round of_bits try_normalize usable length_recip length dot root root_units whole_root mul_number mul add sum div lt eq
scaled_corners = record {
  short = refl;
  unscaled = refl;
  shorter = refl;
  below_one = refl;
  below_two = refl;
  smallest = refl;
  longest = refl;
  once = refl;
  tie = refl;
  zeros = refl;
  infinite = refl;
  unchecked = refl;
  unchecked_zeros = refl;
  unchecked_nan = refl;
  unchecked_infinite = refl;
}
