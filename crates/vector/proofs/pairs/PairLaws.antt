-- P: the vectors of a direction n's pair have lengths near 1 and directions, and these and n are nearly orthogonal, two by two. Assumes nothing.
use Prim.Native.Nat.{ℕ, ◌*◌, ◌^◌, ◌≤◌}
use native.Mathlib.Nat.{le_trans}
use lib.Dec.{T, lit≤}
use lib.Ieee.{binary32, neg, mul, fits}
use lib.Ieee.Fits.{neg-fits, add-fits, mul-fits}
use Rattle.scalar.specs.Sign.{signum}
use Rattle.vector.specs.declared.vec3.Vec3.{Vec3}
use Rattle.vector.specs.Vectors.{one}
use Rattle.vector.specs.Orthogonal.{scale_of, mix_of, first_of, second_of, any_orthonormal_pair}
use Rattle.vector.specs.ExactVectors.{F32Vec, Direction, NearlyOrthogonal}
use Rattle.vector.specs.NumericLaws.{Refused7Never, OrthogonalDirections, LawP}
use Rattle.vector.proofs.values.SignedVectors.{D, E, Exact, Reads, Dot, Norm, exact_of, reads_of}
use Rattle.vector.proofs.values.ExactDots.{dot_size}
use Rattle.vector.proofs.pairs.PairDots.{first, second, first_reads, second_reads, first_norm, second_norm}
use Rattle.vector.proofs.pairs.PairDirections.{normal1, normal2, across}
use Rattle.vector.proofs.units.UnitLaws.{unit_of}
use Rattle.vector.proofs.units.NearUnitLaws.{about_one, near_direction, never_refused}

first_values : (n : Vec3) → F32Vec (first_of n)
first_values n = record {
  f32_x = add-fits binary32 one (mul binary32 (mul binary32 (mul binary32 (signum n.z) n.x) n.x) (scale_of n.z));
  f32_y = mul-fits binary32 (signum n.z) (mix_of n);
  f32_z = mul-fits binary32 (neg (signum n.z)) n.x;
}

second_values : (n : Vec3) → T (fits binary32 n.y) → F32Vec (second_of n)
second_values n h = record {
  f32_x = mul-fits binary32 (mul binary32 n.x n.y) (scale_of n.z);
  f32_y = add-fits binary32 (signum n.z) (mul binary32 (mul binary32 n.y n.y) (scale_of n.z));
  f32_z = neg-fits binary32 n.y h;
}

-- ---- an exact dot product of at most 256 errors is at most 2^-16 in size
nearly : (u v : Vec3) (c : ℕ) → c * (E * D) ≤ 2 ^ 282 → Dot (exact_of u) (exact_of v) (c * (E * D)) → NearlyOrthogonal u v
nearly u v c l h = le_trans (dot_size u v (c * (E * D)) h) l

module _ (n : Vec3) (d : Direction n) where
  reads : Reads n (exact_of n)
  reads = reads_of n d.values d.numbers

  abbrev v : Exact
  v = first n (exact_of n) d.values.f32_x reads d.near

  abbrev w : Exact
  w = second n (exact_of n) d.values.f32_x reads d.near

  v_reads : Reads (first_of n) v
  v_reads = first_reads n (exact_of n) d.values.f32_x reads d.near

  w_reads : Reads (second_of n) w
  w_reads = second_reads n (exact_of n) d.values.f32_x reads d.near

  v_norm : Norm v (D * D) (90 * (E * D))
  v_norm = first_norm n (exact_of n) d.values.f32_x reads d.near

  w_norm : Norm w (D * D) (90 * (E * D))
  w_norm = second_norm n (exact_of n) d.values.f32_x reads d.near

  -- both are finite and near length 1
  pub first_never : Refused7Never (first_of n)
  first_never = never_refused (first_of n) v 90 (lit≤ tt) v_reads v_norm (first_values n)

  pub second_never : Refused7Never (second_of n)
  second_never = never_refused (second_of n) w 90 (lit≤ tt) w_reads w_norm (second_values n d.values.f32_y)

  -- the directions are the vectors times the reciprocals of their lengths
  pair_directions : OrthogonalDirections n (first_of n) (second_of n)
  pair_directions = record {
    first_length = about_one (first_of n) v 90 (lit≤ tt) v_reads v_norm;
    second_length = about_one (second_of n) w 90 (lit≤ tt) w_reads w_norm;
    first = near_direction (first_of n) v 90 (lit≤ tt) v_reads v_norm (first_values n);
    second = near_direction (second_of n) w 90 (lit≤ tt) w_reads w_norm (second_values n d.values.f32_y);
    first_unscaled = first_never.unscaled;
    second_unscaled = second_never.unscaled;
    with_first = nearly n (unit_of (first_of n)) 100 (lit≤ tt) (normal1 n (exact_of n) d.values.f32_x reads d.near);
    with_second = nearly n (unit_of (second_of n)) 100 (lit≤ tt) (normal2 n (exact_of n) d.values.f32_x reads d.near);
    with_each_other = nearly (unit_of (first_of n)) (unit_of (second_of n)) 146 (lit≤ tt) (across n (exact_of n) d.values.f32_x reads d.near);
  }

pub law_p : LawP
unfolding any_orthonormal_pair
law_p n d = pair_directions n d
