-- Between three and four numbers, as src/f32/vec3.rs has it.
use Rattle.std.specs.Prelude.{Float}
use Rattle.vector.specs.declared.vec3.Vec3.{Vec3}
use Rattle.vector.specs.declared.vec4.Vec4.{Vec4}
use Rattle.vector.specs.Vectors.{vec, one}
use Rattle.vector.specs.Operators.{div_number}

-- Vec4::new(self.x, self.y, self.z, w)
unfoldable pub extend : Vec3 → Float → Vec4
extend a w = record { x = a.x; y = a.y; z = a.z; w = w }

-- Self::from_vec4(v) / v.w
unfoldable pub from_homogeneous : Vec4 → Vec3
from_homogeneous v = div_number (vec v.x v.y v.z) v.w

-- self.extend(1.0)
unfoldable pub to_homogeneous : Vec3 → Vec4
to_homogeneous a = extend a one
