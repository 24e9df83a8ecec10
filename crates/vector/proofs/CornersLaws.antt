-- The marked cases of specs/Corners hold: each is computed from the definitions. Assumes nothing.
use Rattle.std.specs.Prelude.{refl}
use Rattle.std.specs.Float.Ieee as Ieee
use Rattle.std.specs.Float.Ieee.{of_bits, round, sum, add, mul, div, neg, lt, eq, le}
use Rattle.laws.specs.Exact.{negative, size_in}
use Rattle.laws.specs.WholeRoot.{whole_root}
use Rattle.scalar.specs.Root.{root, root_units}
use Rattle.scalar.specs.ExactRoot.{exact_root, root_and_exactness}
use Rattle.scalar.specs.Sign.{abs, copysign, signum}
use Rattle.vector.specs.Operators.{sub, number_mul}
use Rattle.vector.specs.Elements.{lesser, min, position, min_position}
use Rattle.vector.specs.Products.{dot, length, length_and_exactness, distance_and_exactness}
use Rattle.vector.specs.Optics.{refract_k, refract}
use Rattle.vector.specs.Orthogonal.{any_orthogonal_vector, any_orthonormal_pair}
use Rattle.vector.proofs.ScaledCornersLaws.{scaled_corners}
use Rattle.vector.specs.Corners.{Corners}

pub corners : Corners
unfolding min lesser min_position position any_orthogonal_vector any_orthonormal_pair negative abs copysign signum refract refract_k length length_and_exactness distance_and_exactness dot sub number_mul exact_root root_and_exactness root root_units whole_root size_in round neg div Ieee.sub le lt eq add sum mul of_bits
corners = record {
  scaling = scaled_corners;
  min_of_nan = refl;
  min_with_nan = refl;
  first_least = refl;
  nan_first = refl;
  orthogonal = refl;
  pair = refl;
  along = refl;
  reflected = refl;
  vanished = refl;
  next_vanished = refl;
  overflowed = refl;
  infinite = refl;
  whole = refl;
  not_whole = refl;
  sum_rounded = refl;
  mark_of_infinity = refl;
  mark_of_nan = refl;
}
