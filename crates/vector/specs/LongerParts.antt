-- Longer parts, longer sight line (document 02, b): "For any two vectors without a NaN, where each component of the second is at least as large in size as the
-- first's, `length_squared` and `length` of the second are at least those of the first. Infinities count, and so do squares that vanish."
use Rattle.std.specs.Prelude.{not, T}
use Rattle.std.specs.Float.Ieee.{le}
use Rattle.vector.specs.declared.vec3.Vec3.{Vec3}
use Rattle.vector.specs.Operators.{sub}
use Rattle.vector.specs.Comparisons.{is_nan}
use Rattle.vector.specs.Signs.{abs}
use Rattle.vector.specs.Products.{length_squared, length, distance_squared, distance}

-- each component of b is at least as large in size as a's, in f32's own order
pub record LargerParts (a b : Vec3) : Type 0 where
  pub larger_x : T (le (abs a).x (abs b).x)
  pub larger_y : T (le (abs a).y (abs b).y)
  pub larger_z : T (le (abs a).z (abs b).z)

-- a is the first vector, b the second. `<=` is false where a NaN stands, so that all four results are numbers.
abbrev pub LongerParts : Type 0
LongerParts = (a b : Vec3) → T (not (is_nan a)) → T (not (is_nan b)) → LargerParts a b → T (le (length_squared a) (length_squared b)) × T (le (length a) (length b))

-- so too the distances of a from b and of c from d, by their differences as computed
abbrev pub LongerDifferences : Type 0
LongerDifferences =
    (a b c d : Vec3) → T (not (is_nan (sub a b))) → T (not (is_nan (sub c d))) → LargerParts (sub a b) (sub c d)
    → T (le (distance_squared a b) (distance_squared c d)) × T (le (distance a b) (distance c d))
