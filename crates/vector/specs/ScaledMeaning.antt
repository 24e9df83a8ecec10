-- What scaling comes to, for every vector of f32 values that has a number that is not zero and only finite ones; and where it changes no direction.
use Rattle.std.specs.Prelude.{◌≡◌, ◌*◌, ◌^◌, ◌≤◌, ◌<◌, T, Float}
use Rattle.std.specs.Float.{binary32}
use Rattle.std.specs.Float.Ieee.{of_bits, le}
use Rattle.scalar.specs.Powers.{log2}
use Rattle.scalar.specs.PowersMeaning.{PowerProduct}
use Rattle.vector.specs.declared.vec3.Vec3.{Vec3}
use Rattle.vector.specs.Vectors.{one}
use Rattle.vector.specs.Products.{length_squared}
use Rattle.vector.specs.ExactVectors.{F32Vec, FiniteVec}
use Rattle.vector.specs.Scaled.{largest, scaled}
use Rattle.vector.specs.DirectionOf.{has_direction}
use Rattle.vector.specs.NumericLaws.{Unscaled}

-- 13
abbrev pub thirteen : Float
thirteen = of_bits binary32 0x41500000

-- b is a times "the power of two that brings the largest size to at least 1 and below 2"
pub record BroughtToOne (a b : Vec3) : Type 0 where
  pub values : F32Vec b
  pub numbers : FiniteVec b
  -- "each exact product is rounded once"
  pub rounded_x : PowerProduct (log2 (largest a)) a.x b.x
  pub rounded_y : PowerProduct (log2 (largest a)) a.y b.y
  pub rounded_z : PowerProduct (log2 (largest a)) a.z b.z
  -- the j of the power 2^(149-j): 2^j ≤ M < 2^(j+1) for the largest size M
  pub from : 2 ^ log2 (largest a) ≤ largest a
  pub to : largest a < 2 ^ log2 (largest a) * 2
  -- the largest component is exact: M times 2^149 over 2^j; and so its size is at least 1 and below 2
  pub exact : largest b * 2 ^ log2 (largest a) ≡ largest a * 2 ^ 149
  pub least : 2 ^ 149 ≤ largest b
  pub below : largest b < 2 ^ 149 * 2
  -- the computed `length_squared` needs no test
  pub squared_least : T (le one (length_squared b))
  pub squared_most : T (le (length_squared b) thirteen)

abbrev pub LawScaled : Type 0
LawScaled = (a : Vec3) → F32Vec a → T (has_direction a) → BroughtToOne a (scaled a)

-- Where the largest size is at least 1/2 and below 2, the power is 2 or 1, and scaling changes nothing.
abbrev pub LawUnscaled : Type 0
LawUnscaled = (a : Vec3) → F32Vec a → FiniteVec a → 2 ^ 148 ≤ largest a → largest a < 2 ^ 150 → Unscaled a
