-- Unit vectors (document 01, "Masks and vectors": "`try_normalize` answers a unit vector or the word that there is none .. `is_normalized` tests
-- 2e-4 on the square"), as src/f32/vec3.rs has them.
use Rattle.std.specs.Prelude.{Bool, ◌&&◌, cond, Float, Option, Some, None}
use Rattle.std.specs.Float.{binary32}
use Rattle.std.specs.Float.Ieee.{of_bits, sub, div, lt, le}
use Rattle.std.specs.Float.Ieee.Scale.{finite}
use Rattle.scalar.specs.Sign.{abs}
use Rattle.vector.specs.declared.vec3.Vec3.{Vec3}
use Rattle.vector.specs.declared.vec3.normalizing.NormalizedAndLength.{NormalizedAndLength}
use Rattle.vector.specs.Vectors.{vec, zer, one, ZERO, X}
use Rattle.vector.specs.Answers.{Answer, given, refused}
use Rattle.vector.specs.Operators as Operators
use Rattle.vector.specs.Operators.{mul_number}
use Rattle.vector.specs.Products.{length, length_squared, length_recip}

-- self.div(Self::splat(self.length()))
unfoldable pub normalize : Vec3 → Vec3
normalize a = let l = length a in Operators.div a (vec l l l)

-- rcp.is_finite() && rcp > 0.0
unfoldable pub usable : Float → Bool
usable rcp = finite rcp && lt zer rcp

-- the paper's number and values for each case of the answer: "7, .. no direction"
abbrev pub answer_of : Option Vec3 → Answer Vec3
answer_of (Some v) = given v
answer_of None = refused 7 ZERO

-- let rcp = self.length_recip(); if .. { Some(self * rcp) } else { None }
unfoldable pub try_normalize : Vec3 → Option Vec3
try_normalize a = let rcp = length_recip a in cond (usable rcp) (Some (mul_number a rcp)) None

-- let rcp = self.length_recip(); if .. { self * rcp } else { fallback }
unfoldable pub normalize_or : Vec3 → Vec3 → Vec3
normalize_or a fallback = let rcp = length_recip a in cond (usable rcp) (mul_number a rcp) fallback

-- self.normalize_or(Self::ZERO)
unfoldable pub normalize_or_zero : Vec3 → Vec3
normalize_or_zero a = normalize_or a ZERO

-- let length = self.length(); let rcp = 1.0 / length; if .. { (self * rcp, length) } else { (Self::X, 0.0) }
unfoldable pub normalize_and_length : Vec3 → NormalizedAndLength
normalize_and_length a =
    let l = length a in
    let rcp = div binary32 one l in
    cond (usable rcp) (record { normalized = mul_number a rcp; length = l }) (record { normalized = X; length = zer })

-- 2e-4
abbrev pub tolerance : Float
tolerance = of_bits binary32 0x3951b717

-- math::abs(self.length_squared() - 1.0) <= 2e-4
unfoldable pub is_normalized : Vec3 → Bool
is_normalized a = le (abs (sub binary32 (length_squared a) one)) tolerance
