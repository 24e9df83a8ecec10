-- What demand 3 says of rounded arithmetic, for every vector: unit vectors, orthogonal pairs, reflections and refractions. The proofs are in proofs/.
use Rattle.std.specs.Prelude.{◌≡◌, true, ℕ, ◌*◌, ◌^◌, T, Float, Some}
use Rattle.std.specs.Float.{binary32}
use Rattle.std.specs.Float.Ieee.{fits, of_bits, sub, le}
use Rattle.std.specs.Float.Ieee.Scale.{finite}
use Rattle.laws.specs.Exact.{size_in}
use Rattle.laws.specs.Within.{Within}
use Rattle.scalar.specs.Sign.{abs}
use Rattle.vector.specs.declared.vec3.Vec3.{Vec3}
use Rattle.vector.specs.Vectors.{zer, one}
use Rattle.vector.specs.Products.{length, length_squared}
use Rattle.vector.specs.Normalizing.{try_normalize, is_normalized}
use Rattle.vector.specs.DirectionOf.{has_direction, direction_of}
use Rattle.vector.specs.Optics.{reflect, refract, refract_k}
use Rattle.vector.specs.Orthogonal.{any_orthonormal_pair}
use Rattle.vector.specs.ExactVectors.{F32Vec, FiniteVec, UnitWithin, Direction, NearlyOrthogonal}

-- U: whatever has a number that is not zero and only finite ones has a direction, and its exact squared length is within 15 times 2^-24 of 1
pub record HasDirection (a : Vec3) : Type 0 where
  pub direction : Vec3
  pub is : direction_of a ≡ Some direction
  pub unit : UnitWithin 15 direction

abbrev pub LawU : Type 0
LawU = (a : Vec3) → F32Vec a → T (has_direction a) → HasDirection a

-- a direction that is what `try_normalize` gives of the vector itself, as before vectors were scaled: 22 to 24 keep their answers
abbrev pub Unscaled : Vec3 → Type 0
Unscaled a = direction_of a ≡ try_normalize a

-- N: the computed `length_squared` of such a direction is within 20 times 2^-24 of 1, and every direction `is_normalized`
abbrev pub ComputedNear : ℕ → Vec3 → Type 0
ComputedNear c a = T (finite (length_squared a)) × Within (size_in binary32 (length_squared a)) (2 ^ 149) (c * 2 ^ 125)

abbrev pub LawN : Type 0
LawN = ((a : Vec3) → UnitWithin 15 a → ComputedNear 20 a) × ((a : Vec3) → Direction a → is_normalized a ≡ true)

-- 2^-19
abbrev pub small : Float
small = of_bits binary32 0x36000000

-- and back: a vector whose computed `length_squared` differs from 1 by at most 2^-19 is a direction
abbrev pub DirectionIfTested : Type 0
DirectionIfTested = (a : Vec3) → F32Vec a → T (le (abs (sub binary32 (length_squared a) one)) small) → Direction a

-- a number between 0.99 and 1.01
abbrev pub AboutOne : Float → Type 0
AboutOne l = T (le (of_bits binary32 0x3f7d70a4) l) × T (le l (of_bits binary32 0x3f8147ae))

-- P: the vectors of `any_orthonormal_pair` have a computed `length` between 0.99 and 1.01 and directions, and these and n are nearly orthogonal, two by two
pub record OrthogonalDirections (n v w : Vec3) : Type 0 where
  pub first_length : AboutOne (length v)
  pub second_length : AboutOne (length w)
  pub first : HasDirection v
  pub second : HasDirection w
  pub first_unscaled : Unscaled v
  pub second_unscaled : Unscaled w
  pub with_first : NearlyOrthogonal n first.direction
  pub with_second : NearlyOrthogonal n second.direction
  pub with_each_other : NearlyOrthogonal first.direction second.direction

abbrev pub LawP : Type 0
LawP = (n : Vec3) → Direction n → OrthogonalDirections n (any_orthonormal_pair n).first (any_orthonormal_pair n).second

-- M: a reflected direction has a computed `length_squared` between 0.99 and 1.01, and a direction
pub record Refused7Never (r : Vec3) : Type 0 where
  pub values : F32Vec r
  pub numbers : FiniteVec r
  pub squared_length : AboutOne (length_squared r)
  pub direction : HasDirection r
  pub unscaled : Unscaled r

abbrev pub LawM : Type 0
LawM = (a b : Vec3) → Direction a → Direction b → Refused7Never (reflect a b)

-- 0.25 and 4
abbrev pub quarter : Float
quarter = of_bits binary32 0x3e800000

abbrev pub four : Float
four = of_bits binary32 0x40800000

-- R: so has a refracted one, for an f32 u from 0.25 to 4 and k not below zero
abbrev pub LawR : Type 0
LawR =
    (a b : Vec3) (u : Float) → Direction a → Direction b → T (fits binary32 u) → T (le quarter u) → T (le u four) → T (le zer (refract_k a b u)) → Refused7Never (refract a b u)
