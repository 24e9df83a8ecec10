-- The two directions made of a direction's pair, each vector of the pair times the reciprocal of its length: their exact dot products with the direction and
-- with each other are small. Assumes nothing.
use mathlib.Core.Path.{◌≡◌, subst, subst₂}
use Prim.Native.Nat.{ℕ, ◌*◌, ◌≤◌}
use lib.Dec.{T, lit≤}
use lib.Ieee.{binary32, fits}
use Rattle.vector.specs.declared.vec3.Vec3.{Vec3}
use Rattle.vector.specs.Products.{length, length_squared, length_recip}
use Rattle.vector.specs.Orthogonal.{first_of, second_of}
use Rattle.vector.proofs.values.SignedVectors.{D, E, Exact, Reads, Dot, Norm, exact_of, exact_of_lem}
use Rattle.vector.proofs.errors.LengthErrorLaws.{Long, length_near, long_bounds}
use Rattle.vector.proofs.errors.SquaredLengthLaws.{squared_fits}
use Rattle.vector.proofs.errors.NearOneRoots.{Reciprocal, reciprocal}
use Rattle.vector.proofs.units.UnitLaws.{unit_of}
use Rattle.vector.proofs.pairs.PairDots.{first, second, first_reads, second_reads, first_norm, second_norm, first_direction, second_direction, first_direction_reads, second_direction_reads, first_direction_normal, second_direction_normal, directions_across}

-- ---- the reciprocal of a computed length, where the squared length is within c + 5 errors of 1
length_recip_near : (u : Vec3) (a : Exact) (c : ℕ) → c ≤ 5000 → Long a (length_squared u) c → Reciprocal (length_recip u)
unfolding length_recip length length_squared
length_recip_near u a c few l = reciprocal (length_squared u) l.size (squared_fits u) l.has (long_bounds a (length_squared u) c few l).0

module _ (v : Vec3) (n : Exact) (fx : T (fits binary32 v.x)) (reads : Reads v n) (long : Norm n (D * D) (64 * (E * D))) where
  -- the computed squared lengths: within 95 errors of 1
  first_long : Long (first v n fx reads long) (length_squared (first_of v)) 90
  first_long = length_near (first_of v) (first v n fx reads long) 90 (lit≤ tt) (first_reads v n fx reads long) (first_norm v n fx reads long)

  second_long : Long (second v n fx reads long) (length_squared (second_of v)) 90
  second_long = length_near (second_of v) (second v n fx reads long) 90 (lit≤ tt) (second_reads v n fx reads long) (second_norm v n fx reads long)

  r1 : Reciprocal (length_recip (first_of v))
  r1 = length_recip_near (first_of v) (first v n fx reads long) 90 (lit≤ tt) first_long

  r2 : Reciprocal (length_recip (second_of v))
  r2 = length_recip_near (second_of v) (second v n fx reads long) 90 (lit≤ tt) second_long

  abbrev w1 : Exact
  w1 = first_direction v n fx reads long (length_recip (first_of v)) r1.size r1.has r1.most

  abbrev w2 : Exact
  w2 = second_direction v n fx reads long (length_recip (second_of v)) r2.size r2.has r2.most

  w1_is : w1 ≡ exact_of (unit_of (first_of v))
  w1_is = exact_of_lem (unit_of (first_of v)) w1 (first_direction_reads v n fx reads long (length_recip (first_of v)) r1.size r1.has r1.most)

  w2_is : w2 ≡ exact_of (unit_of (second_of v))
  w2_is = exact_of_lem (unit_of (second_of v)) w2 (second_direction_reads v n fx reads long (length_recip (second_of v)) r2.size r2.has r2.most)

  pub normal1 : Dot n (exact_of (unit_of (first_of v))) (100 * (E * D))
  normal1 = subst (λ (w : Exact). Dot n w (100 * (E * D))) w1_is (first_direction_normal v n fx reads long (length_recip (first_of v)) r1.size r1.has r1.most)

  pub normal2 : Dot n (exact_of (unit_of (second_of v))) (100 * (E * D))
  normal2 = subst (λ (w : Exact). Dot n w (100 * (E * D))) w2_is (second_direction_normal v n fx reads long (length_recip (second_of v)) r2.size r2.has r2.most)

  pub across : Dot (exact_of (unit_of (first_of v))) (exact_of (unit_of (second_of v))) (146 * (E * D))
  across = subst₂ (λ (u w : Exact). Dot u w (146 * (E * D))) w1_is w2_is (directions_across v n fx reads long (length_recip (first_of v)) (length_recip (second_of v)) r1.size r2.size r1.has r2.has r1.most r2.most)
