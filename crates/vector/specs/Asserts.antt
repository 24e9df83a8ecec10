-- What the text of each function of src/f32/vec3.rs that a command calls asserts by glam_assert, worked out in f32 from its arguments (document 01, "The plain sheet":
-- "A Rust function's glam_assert condition is all that its text asserts by that macro"), and at the end that of `clamp` and `from_homogeneous`, for their callers. The macro is off, so
-- that no answer depends on these.
use Rattle.std.specs.Prelude.{Bool, ◌&&◌, Float}
use Rattle.std.specs.Float.Ieee.{lt, le, ne}
use Rattle.std.specs.Float.Ieee.Scale.{finite}
use Rattle.vector.specs.declared.vec3.Vec3.{Vec3}
use Rattle.vector.specs.declared.vec4.Vec4.{Vec4}
use Rattle.vector.specs.Vectors.{zer}
use Rattle.vector.specs.Products.{length_squared}
use Rattle.vector.specs.Normalizing.{is_normalized}
use Rattle.vector.specs.Projections.{other_len_sq_rcp}

-- glam_assert!(other_len_sq_rcp.is_finite())
unfoldable pub asserts_project_onto : Vec3 → Vec3 → Bool
asserts_project_onto a b = finite (other_len_sq_rcp b)

-- by self.project_onto(rhs)
unfoldable pub asserts_reject_from : Vec3 → Vec3 → Bool
asserts_reject_from a b = asserts_project_onto a b

-- glam_assert!(rhs.is_normalized())
unfoldable pub asserts_project_onto_normalized : Vec3 → Vec3 → Bool
asserts_project_onto_normalized a b = is_normalized b

-- by self.project_onto_normalized(rhs)
unfoldable pub asserts_reject_from_normalized : Vec3 → Vec3 → Bool
asserts_reject_from_normalized a b = asserts_project_onto_normalized a b

-- glam_assert!(0.0 <= min); glam_assert!(min <= max)
unfoldable pub asserts_clamp_length : Vec3 → Float → Float → Bool
asserts_clamp_length a min max = le zer min && le min max

-- is_non_zero: self.length_squared() > 0.0
unfoldable pub non_zero : Vec3 → Bool
non_zero a = lt zer (length_squared a)

-- glam_assert!(normal.is_normalized())
unfoldable pub asserts_reflect : Vec3 → Vec3 → Bool
asserts_reflect a normal = is_normalized normal

-- glam_assert!(self.is_normalized()); glam_assert!(normal.is_normalized())
unfoldable pub asserts_refract : Vec3 → Vec3 → Bool
asserts_refract a normal = is_normalized a && is_normalized normal

-- glam_assert!(self.is_non_zero()); glam_assert!(rhs.is_non_zero())
unfoldable pub asserts_angle_between : Vec3 → Vec3 → Bool
asserts_angle_between a b = non_zero a && non_zero b

-- glam_assert!(self.is_normalized())
unfoldable pub asserts_any_orthonormal_pair : Vec3 → Bool
asserts_any_orthonormal_pair a = is_normalized a

-- ---- of functions that no command calls
-- glam_assert!(min.cmple(max).all())
unfoldable pub asserts_clamp : Vec3 → Vec3 → Vec3 → Bool
asserts_clamp a min max = le min.x max.x && le min.y max.y && le min.z max.z

-- glam_assert!(v.w != 0.0)
unfoldable pub asserts_from_homogeneous : Vec4 → Bool
asserts_from_homogeneous v = ne v.w zer
