-- Elements: chosen by a mask, the least and the greatest, as src/f32/vec3.rs has them.
use Rattle.std.specs.Prelude.{ℕ, Bool, cond, Float}
use Rattle.std.specs.Float.Ieee.{lt}
use Rattle.vector.specs.declared.vec3.Vec3.{Vec3}
use Rattle.vector.specs.declared.bvec3.BVec3.{BVec3}
use Rattle.vector.specs.Vectors.{vec, both}

-- if mask.test(0) { if_true.x } else { if_false.x } and so on
unfoldable pub select : BVec3 → Vec3 → Vec3 → Vec3
select m a b = vec (cond m.x a.x b.x) (cond m.y a.y b.y) (cond m.z a.z b.z)

-- a > b
abbrev pub gt : Float → Float → Bool
gt a b = lt b a

-- a < b ? a : b
unfoldable pub lesser : Float → Float → Float
lesser a b = cond (lt a b) a b

-- a > b ? a : b
unfoldable pub greater : Float → Float → Float
greater a b = cond (gt a b) a b

-- if self.x < rhs.x { self.x } else { rhs.x } and so on
unfoldable pub min : Vec3 → Vec3 → Vec3
min a b = both lesser a b

-- if self.x > rhs.x { self.x } else { rhs.x } and so on
unfoldable pub max : Vec3 → Vec3 → Vec3
max a b = both greater a b

-- self.max(min).min(max)
unfoldable pub clamp : Vec3 → Vec3 → Vec3 → Vec3
clamp a lo hi = min (max a lo) hi

-- min(self.x, min(self.y, self.z))
unfoldable pub min_element : Vec3 → Float
min_element a = lesser a.x (lesser a.y a.z)

-- max(self.x, max(self.y, self.z))
unfoldable pub max_element : Vec3 → Float
max_element a = greater a.x (greater a.y a.z)

-- x has index 0; where y comes before it, y has index 1; where z comes before that one, the index is 2
unfoldable pub position : (Float → Float → Bool) → Vec3 → ℕ
position before a =
    cond (before a.z (cond (before a.y a.x) a.y a.x)) 2 (cond (before a.y a.x) 1 0)

-- if self.y < min and so on
unfoldable pub min_position : Vec3 → ℕ
min_position a = position lt a

-- if self.y > max and so on
unfoldable pub max_position : Vec3 → ℕ
max_position a = position gt a
