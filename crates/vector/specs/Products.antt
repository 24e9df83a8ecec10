-- Products, lengths and distances, as src/f32/vec3.rs has them, and lengths and distances with the mark of their roots (document 02, c).
use Rattle.std.specs.Prelude.{Float}
use Rattle.std.specs.Float.{binary32}
use Rattle.std.specs.Float.Ieee.{add, sub, mul, div}
use Rattle.scalar.specs.declared.root.MarkedRoot.{MarkedRoot}
use Rattle.scalar.specs.Root.{root}
use Rattle.scalar.specs.ExactRoot.{root_and_exactness}
use Rattle.vector.specs.declared.vec3.Vec3.{Vec3}
use Rattle.vector.specs.Vectors.{vec, one}
use Rattle.vector.specs.Operators as Operators

-- (self.x * rhs.x) + (self.y * rhs.y) + (self.z * rhs.z)
unfoldable pub dot : Vec3 → Vec3 → Float
dot a b = add binary32 (add binary32 (mul binary32 a.x b.x) (mul binary32 a.y b.y)) (mul binary32 a.z b.z)

-- self.y * rhs.z - rhs.y * self.z and so on
unfoldable pub cross : Vec3 → Vec3 → Vec3
cross a b =
    vec
    (sub binary32 (mul binary32 a.y b.z) (mul binary32 b.y a.z))
    (sub binary32 (mul binary32 a.z b.x) (mul binary32 b.z a.x))
    (sub binary32 (mul binary32 a.x b.y) (mul binary32 b.x a.y))

-- self.dot(self)
unfoldable pub length_squared : Vec3 → Float
length_squared a = dot a a

-- math::sqrt(self.dot(self))
unfoldable pub length : Vec3 → Float
length a = root (dot a a)

-- `length`, and "whether its answer squared equals its argument exactly" of the root that it takes (document 02, c: "the sum of squares before it may have been rounded")
unfoldable pub length_and_exactness : Vec3 → MarkedRoot
length_and_exactness a = root_and_exactness (dot a a)

-- self.length().recip()
unfoldable pub length_recip : Vec3 → Float
length_recip a = div binary32 one (length a)

-- (self - rhs).length()
unfoldable pub distance : Vec3 → Vec3 → Float
distance a b = length (Operators.sub a b)

-- `distance`, and the same of its root
unfoldable pub distance_and_exactness : Vec3 → Vec3 → MarkedRoot
distance_and_exactness a b = length_and_exactness (Operators.sub a b)

-- (self - rhs).length_squared()
unfoldable pub distance_squared : Vec3 → Vec3 → Float
distance_squared a b = length_squared (Operators.sub a b)
