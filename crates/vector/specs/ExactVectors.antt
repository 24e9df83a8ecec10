-- Exact squared lengths and dot products (document 01, "The plain sheet": "Exact squared lengths and dot products are taken of exact values,
-- without rounding"), in whole numbers of 2^-298: 2 ^ 298 of them make 1, 2 ^ 274 make 2^-24, 2 ^ 280 make 2^-18 and 2 ^ 282 make 2^-16.
use Rattle.std.specs.Prelude.{ℕ, ◌+◌, ◌*◌, ◌^◌, ◌≤◌, T, ℤ, nat_abs, ◌+ℤ◌, ◌*ℤ◌}
use Rattle.std.specs.Float.{binary32}
use Rattle.std.specs.Float.Ieee.{fits}
use Rattle.std.specs.Float.Ieee.Scale.{finite}
use Rattle.laws.specs.Exact.{size_in, exact}
use Rattle.laws.specs.Within.{Within}
use Rattle.vector.specs.declared.vec3.Vec3.{Vec3}

-- the exact dot product
abbrev pub exact_dot : Vec3 → Vec3 → ℤ
exact_dot a b =
    exact binary32 a.x *ℤ exact binary32 b.x +ℤ exact binary32 a.y *ℤ exact binary32 b.y +ℤ exact binary32 a.z *ℤ exact binary32 b.z

-- the exact squared length
abbrev pub exact_square : Vec3 → ℕ
exact_square a =
    size_in binary32 a.x * size_in binary32 a.x + size_in binary32 a.y * size_in binary32 a.y + size_in binary32 a.z * size_in binary32 a.z

-- components that are f32 values, as those of every vector in a program are
pub record F32Vec (a : Vec3) : Type 0 where
  pub f32_x : T (fits binary32 a.x)
  pub f32_y : T (fits binary32 a.y)
  pub f32_z : T (fits binary32 a.z)

-- components that are finite
pub record FiniteVec (a : Vec3) : Type 0 where
  pub finite_x : T (finite a.x)
  pub finite_y : T (finite a.y)
  pub finite_z : T (finite a.z)

-- a finite vector whose exact squared length is within c times 2^-24 of 1
pub record UnitWithin (c : ℕ) (a : Vec3) : Type 0 where
  pub values : F32Vec a
  pub numbers : FiniteVec a
  pub near : Within (exact_square a) (2 ^ 298) (c * 2 ^ 274)

-- "the exact squared length of every direction lies within 2^-18 of 1" (demand 3): 64 times 2^-24
abbrev pub Direction : Vec3 → Type 0
Direction a = UnitWithin 64 a

-- exact dot product of at most 2^-16 in size (demand 3)
abbrev pub NearlyOrthogonal : Vec3 → Vec3 → Type 0
NearlyOrthogonal a b = nat_abs (exact_dot a b) ≤ 2 ^ 282
