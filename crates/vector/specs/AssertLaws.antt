-- S: every glam_assert condition of the functions that commands 10 to 12, 22 to 24 and 28 call is true (demand 3). Of a direction nothing is used but that
-- its exact squared length is within 2^-18 of 1; the rest are the tests of refusals 5 and 7 (document 01, "Refused, and by whose doing").
use Rattle.std.specs.Prelude.{Bool, not, T, Float}
use Rattle.std.specs.Float.Ieee.{eq, le}
use Rattle.std.specs.Float.Ieee.Scale.{finite}
use Rattle.vector.specs.declared.vec3.Vec3.{Vec3}
use Rattle.vector.specs.Vectors.{zer}
use Rattle.vector.specs.Products.{length_squared}
use Rattle.vector.specs.Projections.{other_len_sq_rcp}
use Rattle.vector.specs.ExactVectors.{FiniteVec, Direction}
use Rattle.vector.specs.Asserts.{asserts_clamp_length, asserts_project_onto, asserts_reject_from, asserts_project_onto_normalized, asserts_reject_from_normalized, asserts_reflect, asserts_refract, asserts_angle_between, asserts_any_orthonormal_pair}

-- "in 28 a `length_squared` of zero"
abbrev pub zero_length : Vec3 → Bool
zero_length a = eq (length_squared a) zer

pub record LawS : Type 0 where
  -- 10: refusal 5, "not 0 ≤ u ≤ v"
  pub clamp_length : (a : Vec3) (u v : Float) → T (le zer u) → T (le u v) → T (asserts_clamp_length a u v)
  -- 11 and 12 with b a point: refusal 7, "1/(b·b) not finite"
  pub project_onto : (a b : Vec3) → T (finite (other_len_sq_rcp b)) → T (asserts_project_onto a b)
  pub reject_from : (a b : Vec3) → T (finite (other_len_sq_rcp b)) → T (asserts_reject_from a b)
  -- 11 and 12 with b a direction
  pub project_onto_normalized : (a b : Vec3) → Direction b → T (asserts_project_onto_normalized a b)
  pub reject_from_normalized : (a b : Vec3) → Direction b → T (asserts_reject_from_normalized a b)
  -- 22, 23 and 24
  pub reflected : (a b : Vec3) → Direction b → T (asserts_reflect a b)
  pub refracted : (a b : Vec3) → Direction a → Direction b → T (asserts_refract a b)
  pub any_orthonormal_pair : (a : Vec3) → Direction a → T (asserts_any_orthonormal_pair a)
  -- 28: rows are finite, and refusal 7 has tested both
  pub angle_between : (a b : Vec3) → FiniteVec a → FiniteVec b → T (not (zero_length a)) → T (not (zero_length b)) → T (asserts_angle_between a b)
