-- Reflection, refraction and the angle between two vectors, as src/f32/vec3.rs has them.
use Rattle.std.specs.Prelude.{cond, Float}
use Rattle.std.specs.Float.{binary32}
use Rattle.std.specs.Float.Ieee.{of_bits, add, mul, div, le}
use Rattle.std.specs.Float.Ieee as Ieee
use Rattle.scalar.specs.Root.{root}
use Rattle.scalar.specs.Acos.{acos_approx}
use Rattle.vector.specs.declared.vec3.Vec3.{Vec3}
use Rattle.vector.specs.Vectors.{zer, one, ZERO}
use Rattle.vector.specs.Operators.{sub, number_mul}
use Rattle.vector.specs.Products.{dot, length_squared}

-- 2.0
abbrev pub two : Float
two = of_bits binary32 0x40000000

-- self - 2.0 * self.dot(normal) * normal
unfoldable pub reflect : Vec3 → Vec3 → Vec3
reflect a normal = sub a (number_mul (mul binary32 two (dot a normal)) normal)

-- k = 1.0 - eta * eta * (1.0 - n_dot_i * n_dot_i), where n_dot_i = normal.dot(self)
unfoldable pub refract_k : Vec3 → Vec3 → Float → Float
refract_k a normal eta =
    let d = dot normal a in
    Ieee.sub binary32 one (mul binary32 (mul binary32 eta eta) (Ieee.sub binary32 one (mul binary32 d d)))

-- if k >= 0.0 { eta * self - (eta * n_dot_i + math::sqrt(k)) * normal } else { ZERO }
unfoldable pub refract : Vec3 → Vec3 → Float → Vec3
refract a normal eta =
    let d = dot normal a in
    let k = refract_k a normal eta in
    cond (le zer k) (sub (number_mul eta a) (number_mul (add binary32 (mul binary32 eta d) (root k)) normal)) ZERO

-- math::acos_approx(self.dot(rhs).div(math::sqrt(self.length_squared().mul(rhs.length_squared()))))
unfoldable pub angle_between : Vec3 → Vec3 → Float
angle_between a b = acos_approx (div binary32 (dot a b) (root (mul binary32 (length_squared a) (length_squared b))))
