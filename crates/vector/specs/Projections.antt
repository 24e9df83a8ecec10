-- The four projections, as src/f32/vec3.rs has them.
use Rattle.std.specs.Prelude.{Float}
use Rattle.std.specs.Float.{binary32}
use Rattle.std.specs.Float.Ieee.{div}
use Rattle.vector.specs.declared.vec3.Vec3.{Vec3}
use Rattle.vector.specs.Vectors.{one}
use Rattle.vector.specs.Operators.{sub, mul_number}
use Rattle.vector.specs.Products.{dot}

-- rhs.dot(rhs).recip()
abbrev pub other_len_sq_rcp : Vec3 → Float
other_len_sq_rcp b = div binary32 one (dot b b)

-- rhs * self.dot(rhs) * other_len_sq_rcp, the left product first
unfoldable pub project_onto : Vec3 → Vec3 → Vec3
project_onto a b = mul_number (mul_number b (dot a b)) (other_len_sq_rcp b)

-- self - self.project_onto(rhs)
unfoldable pub reject_from : Vec3 → Vec3 → Vec3
reject_from a b = sub a (project_onto a b)

-- rhs * self.dot(rhs)
unfoldable pub project_onto_normalized : Vec3 → Vec3 → Vec3
project_onto_normalized a b = mul_number b (dot a b)

-- self - self.project_onto_normalized(rhs)
unfoldable pub reject_from_normalized : Vec3 → Vec3 → Vec3
reject_from_normalized a b = sub a (project_onto_normalized a b)
