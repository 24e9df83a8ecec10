-- Vectors at right angles to a given one, as src/f32/vec3.rs has them.
use Rattle.std.specs.Prelude.{Bool, cond, Float}
use Rattle.std.specs.Float.{binary32}
use Rattle.std.specs.Float.Ieee.{neg, add, mul, div, lt}
use Rattle.scalar.specs.Sign.{abs, signum}
use Rattle.vector.specs.declared.vec3.Vec3.{Vec3}
use Rattle.vector.specs.declared.vec3.orthogonal.Pair.{Pair}
use Rattle.vector.specs.Vectors.{vec, zer, one}

-- abs(self.x) > abs(self.y)
abbrev pub x_larger : Vec3 → Bool
x_larger a = lt (abs a.y) (abs a.x)

-- new(-self.z, 0.0, self.x), which is self.cross(Self::Y)
abbrev pub cross_y : Vec3 → Vec3
cross_y a = vec (neg a.z) zer a.x

-- new(0.0, self.z, -self.y), which is self.cross(Self::X)
abbrev pub cross_x : Vec3 → Vec3
cross_x a = vec zer a.z (neg a.y)

-- if abs(self.x) > abs(self.y) { new(-self.z, 0.0, self.x) } else { new(0.0, self.z, -self.y) }
unfoldable pub any_orthogonal_vector : Vec3 → Vec3
any_orthogonal_vector a = cond (x_larger a) (cross_y a) (cross_x a)

-- let a = -1.0 / (sign + self.z), with sign = math::signum(self.z)
abbrev pub scale_of : Float → Float
scale_of z = div binary32 (neg one) (add binary32 (signum z) z)

-- let b = self.x * self.y * a
abbrev pub mix_of : Vec3 → Float
mix_of v = mul binary32 (mul binary32 v.x v.y) (scale_of v.z)

-- new(1.0 + sign * self.x * self.x * a, sign * b, -sign * self.x)
abbrev pub first_of : Vec3 → Vec3
first_of v =
    let sign = signum v.z in
    let a = scale_of v.z in
    let b = mix_of v in
    vec
    (add binary32 one (mul binary32 (mul binary32 (mul binary32 sign v.x) v.x) a))
    (mul binary32 sign b)
    (mul binary32 (neg sign) v.x)

-- new(b, sign + self.y * self.y * a, -self.y)
abbrev pub second_of : Vec3 → Vec3
second_of v =
    let sign = signum v.z in
    let a = scale_of v.z in
    let b = mix_of v in
    vec b (add binary32 sign (mul binary32 (mul binary32 v.y v.y) a)) (neg v.y)

-- in the Rust the same text as that of the pair's second vector
unfoldable pub any_orthonormal_vector : Vec3 → Vec3
any_orthonormal_vector v = second_of v

-- the tuple (first, second)
unfoldable pub any_orthonormal_pair : Vec3 → Pair
any_orthonormal_pair v = record { first = first_of v; second = second_of v }
