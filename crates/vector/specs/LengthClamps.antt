-- The three length clamps, as src/f32/vec3.rs has them.
use Rattle.std.specs.Prelude.{cond, Float}
use Rattle.std.specs.Float.{binary32}
use Rattle.std.specs.Float.Ieee.{mul, lt}
use Rattle.scalar.specs.Root.{root}
use Rattle.vector.specs.declared.vec3.Vec3.{Vec3}
use Rattle.vector.specs.Operators.{div_number, number_mul}
use Rattle.vector.specs.Products.{length_squared}

-- bound * (self / math::sqrt(length_sq))
abbrev pub at_length : Float → Vec3 → Float → Vec3
at_length bound a length_sq = number_mul bound (div_number a (root length_sq))

-- if length_sq < min * min { min * .. } else if length_sq > max * max { max * .. } else { self }
unfoldable pub clamp_length : Vec3 → Float → Float → Vec3
clamp_length a min max =
    let length_sq = length_squared a in
    cond (lt length_sq (mul binary32 min min)) (at_length min a length_sq)
    (cond (lt (mul binary32 max max) length_sq) (at_length max a length_sq) a)

-- if length_sq > max * max { max * .. } else { self }
unfoldable pub clamp_length_max : Vec3 → Float → Vec3
clamp_length_max a max = let length_sq = length_squared a in cond (lt (mul binary32 max max) length_sq) (at_length max a length_sq) a

-- if length_sq < min * min { min * .. } else { self }
unfoldable pub clamp_length_min : Vec3 → Float → Vec3
clamp_length_min a min = let length_sq = length_squared a in cond (lt length_sq (mul binary32 min min)) (at_length min a length_sq) a
