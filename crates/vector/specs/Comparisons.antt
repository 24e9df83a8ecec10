-- Comparisons and the tests for finite numbers and NaNs, as src/f32/vec3.rs has them.
use Rattle.std.specs.Prelude.{Bool, ◌&&◌, ◌||◌, Float}
use Rattle.std.specs.Float.Ieee as Ieee
use Rattle.std.specs.Float.Ieee.Scale.{finite}
use Rattle.vector.specs.declared.vec3.Vec3.{Vec3}
use Rattle.vector.specs.declared.bvec3.BVec3.{BVec3}
use Rattle.vector.specs.Masks.{mask}

-- a test of each element, and of the elements of two vectors
abbrev pub each_test : (Float → Bool) → Vec3 → BVec3
each_test p a = mask (p a.x) (p a.y) (p a.z)

abbrev pub both_test : (Float → Float → Bool) → Vec3 → Vec3 → BVec3
both_test p a b = mask (p a.x b.x) (p a.y b.y) (p a.z b.z)

-- self.x == rhs.x and so on
unfoldable pub cmpeq : Vec3 → Vec3 → BVec3
cmpeq a b = both_test Ieee.eq a b

-- self.x >= rhs.x and so on
unfoldable pub cmpge : Vec3 → Vec3 → BVec3
cmpge a b = both_test Ieee.le b a

-- self.x <= rhs.x and so on
unfoldable pub cmple : Vec3 → Vec3 → BVec3
cmple a b = both_test Ieee.le a b

-- self.x < rhs.x and so on
unfoldable pub cmplt : Vec3 → Vec3 → BVec3
cmplt a b = both_test Ieee.lt a b

-- self.x.is_finite() && self.y.is_finite() && self.z.is_finite()
unfoldable pub is_finite : Vec3 → Bool
is_finite a = finite a.x && finite a.y && finite a.z

-- self.x.is_finite() and so on
unfoldable pub is_finite_mask : Vec3 → BVec3
is_finite_mask a = each_test finite a

-- self.x.is_nan() || self.y.is_nan() || self.z.is_nan()
unfoldable pub is_nan : Vec3 → Bool
is_nan a = Ieee.is_nan a.x || Ieee.is_nan a.y || Ieee.is_nan a.z

-- self.x.is_nan() and so on
unfoldable pub is_nan_mask : Vec3 → BVec3
is_nan_mask a = each_test Ieee.is_nan a
