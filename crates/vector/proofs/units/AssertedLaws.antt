-- S: the glam_assert conditions hold. Assumes nothing.
use mathlib.Core.Path.{subst, sym}
use mathlib.Core.Bool.{Bool, true, false, ◌&&◌}
use lib.Dec.{T}
use lib.Ieee.{le}
use Rattle.vector.specs.declared.vec3.Vec3.{Vec3}
use Rattle.vector.specs.Vectors.{zer}
use Rattle.vector.specs.Normalizing.{is_normalized}
use Rattle.vector.specs.ExactVectors.{Direction}
use Rattle.vector.specs.Asserts.{non_zero, asserts_clamp_length, asserts_project_onto, asserts_reject_from, asserts_project_onto_normalized, asserts_reject_from_normalized, asserts_reflect, asserts_refract, asserts_angle_between, asserts_any_orthonormal_pair}
use Rattle.vector.specs.AssertLaws.{LawS}
use Rattle.vector.proofs.units.NormalizedLaws.{law_n}
use Rattle.vector.proofs.units.NonZeroLaws.{non_zero_lem}

both : (a b : Bool) → T a → T b → T (a && b)
both true b s t = t
both false b s t = s

normalized : (a : Vec3) → Direction a → T (is_normalized a)
normalized a d = subst T (sym (law_n.1 a d)) tt

pub law_s : LawS
unfolding asserts_clamp_length asserts_project_onto asserts_reject_from asserts_project_onto_normalized asserts_reject_from_normalized asserts_reflect asserts_refract asserts_angle_between asserts_any_orthonormal_pair
law_s =
    record {
      clamp_length = λ a u v low high. both (le zer u) (le u v) low high;
      project_onto = λ a b h. h;
      reject_from = λ a b h. h;
      project_onto_normalized = λ a b d. normalized b d;
      reject_from_normalized = λ a b d. normalized b d;
      reflected = λ a b d. normalized b d;
      refracted = λ a b d e. both (is_normalized a) (is_normalized b) (normalized a d) (normalized b e);
      any_orthonormal_pair = λ a d. normalized a d;
      angle_between = λ a b f g h k. both (non_zero a) (non_zero b) (non_zero_lem a f h) (non_zero_lem b g k);
    }
