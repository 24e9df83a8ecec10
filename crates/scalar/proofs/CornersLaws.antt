-- The marked cases of specs/Corners hold: each is computed from the definitions. Assumes nothing.
use Rattle.std.specs.Prelude.{refl}
use Rattle.std.specs.Float.Ieee.{of_bits, round, sum, add, sub, mul, div, rem, lt}
use Rattle.laws.specs.Exact.{size_in}
use Rattle.laws.specs.WholeRoot.{whole_root}
use Rattle.scalar.specs.Sign.{abs}
use Rattle.scalar.specs.Root.{root, root_units}
use Rattle.scalar.specs.ExactRoot.{exact_root}
use Rattle.scalar.specs.Integral.{integral}
use Rattle.scalar.specs.Euclid.{div_euclid, rem_euclid}
use Rattle.scalar.specs.Fused.{fused_multiply_add}
use Rattle.scalar.specs.Corners.{Corners}

pub corners : Corners
unfolding exact_root root root_units whole_root size_in integral rem_euclid div_euclid abs fused_multiply_add round rem div lt sub add sum mul of_bits
corners = record {
  root_of_25 = refl;
  root_of_2 = refl;
  root_of_minus_0 = refl;
  exact_of_25 = refl;
  exact_of_2 = refl;
  exact_of_0 = refl;
  exact_of_minus_0 = refl;
  exact_of_infinity = refl;
  exact_of_minus_infinity = refl;
  exact_of_nan = refl;
  exact_of_minus_25 = refl;
  exact_of_least = refl;
  square_of_least = refl;
  exact_of_3 = refl;
  square_of_3 = refl;
  round_half = refl;
  round_3_halves = refl;
  round_5_halves = refl;
  round_minus_half = refl;
  rem_euclid_tiny = refl;
  div_euclid_negative = refl;
  rounded_once = refl;
  rounded_twice = refl;
}
