-- The operators (document 01, "Masks and vectors": "+ - times / (a vector or a number on the right) and negation. A number times a vector multiplies
-- each component, number first").
use Rattle.std.specs.Float.Ieee as Ieee
use Rattle.std.specs.Prelude.{Float}
use Rattle.std.specs.Float.{binary32}
use Rattle.vector.specs.declared.vec3.Vec3.{Vec3}
use Rattle.vector.specs.Vectors.{each, both}

unfoldable pub add : Vec3 → Vec3 → Vec3
add a b = both (Ieee.add binary32) a b

unfoldable pub sub : Vec3 → Vec3 → Vec3
sub a b = both (Ieee.sub binary32) a b

unfoldable pub mul : Vec3 → Vec3 → Vec3
mul a b = both (Ieee.mul binary32) a b

unfoldable pub div : Vec3 → Vec3 → Vec3
div a b = both (Ieee.div binary32) a b

-- a number on the right
unfoldable pub add_number : Vec3 → Float → Vec3
add_number a k = each (λ (v : Float). Ieee.add binary32 v k) a

unfoldable pub sub_number : Vec3 → Float → Vec3
sub_number a k = each (λ (v : Float). Ieee.sub binary32 v k) a

unfoldable pub mul_number : Vec3 → Float → Vec3
mul_number a k = each (λ (v : Float). Ieee.mul binary32 v k) a

unfoldable pub div_number : Vec3 → Float → Vec3
div_number a k = each (λ (v : Float). Ieee.div binary32 v k) a

-- the number first
unfoldable pub number_mul : Float → Vec3 → Vec3
number_mul k a = each (λ (v : Float). Ieee.mul binary32 k v) a

unfoldable pub neg : Vec3 → Vec3
neg a = each Ieee.neg a
