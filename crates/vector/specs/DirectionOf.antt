-- "Direction of" a vector (document 02, f): "In the trade only the zero vector has no direction"; and the same where there always is one (g).
use Rattle.std.specs.Prelude.{Bool, not, ◌&&◌, cond, Option, None}
use Rattle.std.specs.Float.Ieee.{eq}
use Rattle.vector.specs.declared.vec3.Vec3.{Vec3}
use Rattle.vector.specs.Vectors.{zer}
use Rattle.vector.specs.Operators.{mul_number}
use Rattle.vector.specs.Comparisons.{is_finite}
use Rattle.vector.specs.Products.{length_recip}
use Rattle.vector.specs.Normalizing.{try_normalize}
use Rattle.vector.specs.Scaled.{scaled}

-- zeros of either sign
unfoldable pub three_zeros : Vec3 → Bool
three_zeros v = eq v.x zer && eq v.y zer && eq v.z zer

-- "exactly for three zeros .. for those or a number not finite"
abbrev pub has_direction : Vec3 → Bool
has_direction v = is_finite v && not (three_zeros v)

-- "multiply its components by the power of two .., then take `try_normalize` of that"
unfoldable pub direction_of : Vec3 → Option Vec3
direction_of v = cond (has_direction v) (try_normalize (scaled v)) None

-- "The test then leaves these three commands" (g): the vector of `try_normalize` of the scaled vector, which is its product with the reciprocal of its length, without
-- the test. It is the direction where there is one (specs/NeverZero); three zeros give three NaNs, a NaN likewise, and an infinite component a NaN beside zeros.
unfoldable pub direction_unchecked : Vec3 → Vec3
direction_unchecked v = let w = scaled v in mul_number w (length_recip w)
