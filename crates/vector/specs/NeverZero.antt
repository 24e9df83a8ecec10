-- For tutors (document 02, g): "the vectors which 22, 23 and 24 make a direction of are never zero and always finite, given the bound on the rows that they read and the
-- range of u". Of a row that is read nothing is used but the bound, that its exact squared length lies within 2^-18 of 1, however it was made.
use Rattle.std.specs.Prelude.{◌≡◌, false, not, T, Float, Some}
use Rattle.std.specs.Float.{binary32}
use Rattle.std.specs.Float.Ieee.{fits, lt, le}
use Rattle.vector.specs.declared.vec3.Vec3.{Vec3}
use Rattle.vector.specs.Vectors.{zer}
use Rattle.vector.specs.Products.{length_squared}
use Rattle.vector.specs.Normalizing.{try_normalize}
use Rattle.vector.specs.Scaled.{scaled}
use Rattle.vector.specs.DirectionOf.{three_zeros, has_direction, direction_unchecked}
use Rattle.vector.specs.Optics.{reflect, refract, refract_k}
use Rattle.vector.specs.Orthogonal.{any_orthonormal_pair}
use Rattle.vector.specs.ExactVectors.{F32Vec, FiniteVec, UnitWithin, Direction}
use Rattle.vector.specs.NumericLaws.{AboutOne, quarter, four}

pub record NeverZero (v : Vec3) : Type 0 where
  -- "never zero"
  pub not_zero : T (not (three_zeros v))
  -- "always finite"
  pub numbers : FiniteVec v
  -- and not nearly zero either: the computed `length_squared` is between 0.99 and 1.01
  pub squared_length : AboutOne (length_squared v)
  -- so no test is needed: `try_normalize` of the scaled vector answers a vector, and this is the one; its exact squared length is within 15 times 2^-24 of 1
  pub answers : try_normalize (scaled v) ≡ Some (direction_unchecked v)
  pub unit : UnitWithin 15 (direction_unchecked v)

-- a mirror, a bend and a pair
pub record RaysNeverZero : Type 0 where
  -- 22
  pub reflected : (a b : Vec3) → Direction a → Direction b → NeverZero (reflect a b)
  -- 23: an f32 u of 0.25 to 4, which refusal 5 lets pass, and k not below zero, which refusal 8 does
  pub refracted :
      (a b : Vec3) (u : Float) → Direction a → Direction b → T (fits binary32 u) → T (le quarter u) → T (le u four) → lt (refract_k a b u) zer ≡ false → NeverZero (refract a b u)
  -- 24
  pub first : (n : Vec3) → Direction n → NeverZero (any_orthonormal_pair n).first
  pub second : (n : Vec3) → Direction n → NeverZero (any_orthonormal_pair n).second

-- Of any vector of f32 values that has a direction: `try_normalize` of the scaled one answers, and answers this.
abbrev pub LawUnchecked : Type 0
LawUnchecked = (v : Vec3) → F32Vec v → T (has_direction v) → try_normalize (scaled v) ≡ Some (direction_unchecked v)
