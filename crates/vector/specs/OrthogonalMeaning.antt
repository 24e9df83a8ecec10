-- What `any_orthogonal_vector` of a finite a is, said of exact values (document 01: "dot products are taken of exact values, without
-- rounding"): a finite r at a right angle to a, exactly, and not zero where a is not.
use Rattle.std.specs.Prelude.{◌≡◌, ◌<◌, pos}
use Rattle.vector.specs.declared.vec3.Vec3.{Vec3}
use Rattle.vector.specs.ExactVectors.{exact_dot, exact_square, FiniteVec}

pub record ExactlyOrthogonal (a r : Vec3) : Type 0 where
  pub right_angle : exact_dot a r ≡ pos 0
  pub not_zero : 0 < exact_square a → 0 < exact_square r
  pub finite_result : FiniteVec r
