-- Divisions with a remainder, roundings, parts and reciprocals of each component, as src/f32/vec3.rs has them.
use Rattle.std.specs.Float.{binary32}
use Rattle.std.specs.Float.Ieee.{div}
use Rattle.scalar.specs.Euclid as Euclid
use Rattle.scalar.specs.Integral as Integral
use Rattle.vector.specs.declared.vec3.Vec3.{Vec3}
use Rattle.vector.specs.Vectors.{one, ZERO, ONE, each, both}
use Rattle.vector.specs.Operators.{sub}
use Rattle.vector.specs.Elements.{select, clamp}
use Rattle.vector.specs.Comparisons.{cmplt}

-- math::div_euclid(self.x, rhs.x) and so on
unfoldable pub div_euclid : Vec3 → Vec3 → Vec3
div_euclid a b = both Euclid.div_euclid a b

-- math::rem_euclid(self.x, rhs.x) and so on
unfoldable pub rem_euclid : Vec3 → Vec3 → Vec3
rem_euclid a b = both Euclid.rem_euclid a b

-- math::round(self.x) and so on
unfoldable pub round : Vec3 → Vec3
round a = each Integral.round_even a

-- math::floor(self.x) and so on
unfoldable pub floor : Vec3 → Vec3
floor a = each Integral.floor a

-- math::trunc(self.x) and so on
unfoldable pub trunc : Vec3 → Vec3
trunc a = each Integral.trunc a

-- Self::select(rhs.cmplt(self), Self::ZERO, Self::ONE)
unfoldable pub step : Vec3 → Vec3 → Vec3
step a b = select (cmplt b a) ZERO ONE

-- self.clamp(Self::ZERO, Self::ONE)
unfoldable pub saturate : Vec3 → Vec3
saturate a = clamp a ZERO ONE

-- self - self.trunc()
unfoldable pub fract : Vec3 → Vec3
fract a = sub a (trunc a)

-- self - self.floor()
unfoldable pub fract_gl : Vec3 → Vec3
fract_gl a = sub a (floor a)

-- 1.0 / self.x and so on
unfoldable pub recip : Vec3 → Vec3
recip a = each (div binary32 one) a
