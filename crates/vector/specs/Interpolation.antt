-- Between two vectors: interpolation, steps towards a point, closeness; and the fused product, as src/f32/vec3.rs has them.
use Rattle.std.specs.Prelude.{Bool, ◌&&◌, ◌||◌, cond, Float}
use Rattle.std.specs.Float.{binary32}
use Rattle.std.specs.Float.Ieee.{of_bits, le}
use Rattle.std.specs.Float.Ieee as Ieee
use Rattle.scalar.specs.Sign.{abs}
use Rattle.scalar.specs.Fused as Fused
use Rattle.vector.specs.declared.vec3.Vec3.{Vec3}
use Rattle.vector.specs.Vectors.{vec, one}
use Rattle.vector.specs.Operators.{add, sub, mul_number, div_number}
use Rattle.vector.specs.Products.{length}

-- 0.5
abbrev pub half : Float
half = of_bits binary32 0x3f000000

-- 1e-4
abbrev pub arrived : Float
arrived = of_bits binary32 0x38d1b717

-- self * (1.0 - s) + rhs * s
unfoldable pub lerp : Vec3 → Vec3 → Float → Vec3
lerp a b s = add (mul_number a (Ieee.sub binary32 one s)) (mul_number b s)

-- let a = rhs - self; let len = a.length(); if len <= d || len <= 1e-4 { return rhs; } self + a / len * d
unfoldable pub move_towards : Vec3 → Vec3 → Float → Vec3
move_towards a b d =
    let way = sub b a in
    let len = length way in
    cond (le len d || le len arrived) b (add a (mul_number (div_number way len) d))

-- (self + rhs) * 0.5
unfoldable pub midpoint : Vec3 → Vec3 → Vec3
midpoint a b = mul_number (add a b) half

-- self.sub(rhs).abs().cmple(splat(max_abs_diff)).all()
unfoldable pub abs_diff_eq : Vec3 → Vec3 → Float → Bool
abs_diff_eq a b most =
    let d = sub a b in
    le (abs d.x) most && le (abs d.y) most && le (abs d.z) most

-- math::mul_add(self.x, a.x, b.x) and so on
unfoldable pub mul_add : Vec3 → Vec3 → Vec3 → Vec3
mul_add a b c =
    vec (Fused.mul_add a.x b.x c.x) (Fused.mul_add a.y b.y c.y) (Fused.mul_add a.z b.z c.z)
