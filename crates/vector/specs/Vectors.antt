-- Vectors and their constants (document 01, "Masks and vectors": "A vector is three f32 numbers x, y, z; ZERO, ONE and X are fixed vectors of the type").
use Rattle.std.specs.Prelude.{Float}
use Rattle.std.specs.Float.{binary32}
use Rattle.std.specs.Float.Ieee.{of_bits}
use Rattle.vector.specs.declared.vec3.Vec3.{Vec3}

abbrev pub vec : Float → Float → Float → Vec3
vec x y z = record { x = x; y = y; z = z }

-- 0.0 and 1.0
abbrev pub zer : Float
zer = of_bits binary32 0

abbrev pub one : Float
one = of_bits binary32 0x3f800000

abbrev pub ZERO : Vec3
ZERO = vec zer zer zer

abbrev pub ONE : Vec3
ONE = vec one one one

abbrev pub X : Vec3
X = vec one zer zer

-- a function of a number, taken of each component
abbrev pub each : (Float → Float) → Vec3 → Vec3
each f a = vec (f a.x) (f a.y) (f a.z)

-- a function of two numbers, taken of the components of two vectors
abbrev pub both : (Float → Float → Float) → Vec3 → Vec3 → Vec3
both f a b = vec (f a.x b.x) (f a.y b.y) (f a.z b.z)
