-- The computed dot product of two vectors of lengths near 1 is within 5 errors of the exact one. Assumes nothing.
use mathlib.Core.Path.{refl, sym}
use mathlib.Core.List.{[], ◌∷◌}
use mathlib.Core.Bool.{Bool, true, false}
use Prim.Native.Nat.{ℕ, ◌+◌, ◌*◌, ◌≤◌, ◌<◌}
use native.Mathlib.Nat.{le_trans, le_of_eq, add-mul, zero-mul, mul_assoc, mul-le-mul_right, le_of_mul-le-mul_right}
use native.Mathlib.Omega.{arith}
use lib.Dec.{lit≤}
use lib.Pow.{pow_pos}
use lib.Ieee.{Float, binary32, unlike, add, mul}
use Rattle.laws.proofs.values.ValueLaws.{Value}
use Rattle.laws.proofs.solvers.Ring.{var, lit, ◌⊕◌, ◌⊗◌}
use Rattle.laws.proofs.solvers.RingNat.{ring}
use Rattle.laws.specs.Within.{Within}
use Rattle.laws.proofs.operations.RoundedOperations.{plus, minus, Sized, Signed, mul_near, add_near}
use Rattle.vector.proofs.values.ComponentSizes.{twice_product}
use Rattle.vector.proofs.errors.DotSums.{two_sum, three_sum, sum_size, dot_sum}
use Rattle.vector.proofs.values.SignedVectors.{D, E, Exact, Reads, above, under, Norm, sides, size_of_sum}
use Rattle.vector.specs.declared.vec3.Vec3.{Vec3}
use Rattle.vector.specs.Products.{dot}

-- v is the dot product of a and b, whose squared lengths are within c errors of 1
pub record Dotted (a b : Exact) (v : Float) (c : ℕ) : Type 0 where
  pub sign : Bool
  pub size : ℕ
  pub has : Value binary32 v sign size
  pub near : Within (plus sign size * D + under a b) (minus sign size * D + above a b) (5 * (E * D))
  pub most : size ≤ D + (c + 5) * E

-- ---- in whole numbers
terms : (a1 b1 a2 b2 a3 b3 q1 q2 q3 s : ℕ) → 2 * q1 ≤ a1 + b1 → 2 * q2 ≤ a2 + b2 → 2 * q3 ≤ a3 + b3 → a1 + a2 + a3 ≤ s → b1 + b2 + b3 ≤ s → q1 + q2 + q3 ≤ s
terms a1 b1 a2 b2 a3 b3 q1 q2 q3 s h k l m n = omega arith

term : (q1 q2 q3 u g r : ℕ) → q1 + q2 + q3 ≤ u + g → g + r ≤ u → (q1 ≤ u * 2) × ((q2 ≤ u * 2) × (q3 ≤ u * 2))
term q1 q2 q3 u g r h k = (omega arith, (omega arith, omega arith))

room : (c d e : ℕ) → c ≤ 5000 → 100000 * e ≤ d → c * (e * d) + 5 * (e * d) ≤ d * d
room c d e h k =
    le_trans (le_of_eq (sym (add-mul c 5 (e * d))))
    (le_trans (mul-le-mul_right (e * d) (more c h))
    (le_trans (le_of_eq (sym (mul_assoc 100000 e d))) (mul-le-mul_right d k)))
  where
    more : (c : ℕ) → c ≤ 5000 → c + 5 ≤ 100000
    more c h = omega arith

with_sign : (s : Bool) (p d q r : ℕ) → Within (p * d) q r → Within (plus s p * d + minus s q) (minus s p * d + plus s q) r
with_sign true p d q r h = omega (arith, zero-mul d)
with_sign false p d q r h = omega (arith, zero-mul d)

pub at_last : (s d e c : ℕ) → 0 < d → s * d ≤ d * d + c * (e * d) + 5 * (e * d) → s ≤ d + (c + 5) * e
at_last s d e c h k = le_of_mul-le-mul_right (le_trans k (le_of_eq (ring (d ∷ e ∷ c ∷ []) (var 0 ⊗ var 0 ⊕ var 2 ⊗ (var 1 ⊗ var 0) ⊕ lit 5 ⊗ (var 1 ⊗ var 0)) ((var 0 ⊕ (var 2 ⊕ lit 5) ⊗ var 1) ⊗ var 0) refl))) h

module _ (v w : Vec3) (a b : Exact) (c : ℕ) (few : c ≤ 5000) (ra : Reads v a) (rb : Reads w b) (na : Norm a (D * D) (c * (E * D))) (nb : Norm b (D * D) (c * (E * D))) where
  q1 : ℕ
  q1 = a.ax * b.ax

  q2 : ℕ
  q2 = a.ay * b.ay

  q3 : ℕ
  q3 = a.az * b.az

  all : q1 + q2 + q3 ≤ D * D + c * (E * D)
  unfolding q1 q2 q3
  all = terms (a.ax * a.ax) (b.ax * b.ax) (a.ay * a.ay) (b.ay * b.ay) (a.az * a.az) (b.az * b.az) (a.ax * b.ax) (a.ay * b.ay) (a.az * b.az) (D * D + c * (E * D))
      (twice_product a.ax b.ax) (twice_product a.ay b.ay) (twice_product a.az b.az) na.0 nb.0

  fits_in : c * (E * D) + 5 * (E * D) ≤ D * D
  fits_in = room c D E few (lit≤ tt)

  each : (q1 ≤ D * D * 2) × ((q2 ≤ D * D * 2) × (q3 ≤ D * D * 2))
  each = term q1 q2 q3 (D * D) (c * (E * D)) (5 * (E * D)) all fits_in

  s1 : Bool
  s1 = unlike a.sx b.sx

  s2 : Bool
  s2 = unlike a.sy b.sy

  s3 : Bool
  s3 = unlike a.sz b.sz

  p1 : Sized binary32 (mul binary32 v.x w.x) s1 D q1 E (D * 2)
  unfolding q1 s1
  p1 = mul_near binary32 v.x w.x a.sx b.sx a.ax b.ax 1 ra.at_x rb.at_x each.0 (lit≤ tt)

  p2 : Sized binary32 (mul binary32 v.y w.y) s2 D q2 E (D * 2)
  unfolding q2 s2
  p2 = mul_near binary32 v.y w.y a.sy b.sy a.ay b.ay 1 ra.at_y rb.at_y each.1.0 (lit≤ tt)

  p3 : Sized binary32 (mul binary32 v.z w.z) s3 D q3 E (D * 2)
  unfolding q3 s3
  p3 = mul_near binary32 v.z w.z a.sz b.sz a.az b.az 1 ra.at_z rb.at_z each.1.1 (lit≤ tt)

  two : p1.size + p2.size ≤ D * 2
  two = two_sum D E q1 q2 q3 (c * (E * D)) p1.size p2.size fits_in all p1.near p2.near (pow_pos 149)

  t : Signed binary32 (add binary32 (mul binary32 v.x w.x) (mul binary32 v.y w.y)) (plus s1 p1.size + plus s2 p2.size) (minus s1 p1.size + minus s2 p2.size) E (D * 2)
  t = let k = sides s1 s2 p1.size p2.size (D * 2) two in add_near binary32 1 (lit≤ tt) (mul binary32 v.x w.x) (mul binary32 v.y w.y) s1 s2 p1.size p2.size p1.has p2.has k.0 k.1

  t_size : t.size ≤ p1.size + p2.size + E
  t_size = size_of_sum t.sign s1 s2 t.size p1.size p2.size E t.near

  last : t.size + p3.size ≤ D * 2
  last = three_sum D E q1 q2 q3 (c * (E * D)) p1.size p2.size p3.size t.size fits_in all p1.near p2.near p3.near t_size (pow_pos 149)

  s : Signed binary32 (dot v w) (plus t.sign t.size + plus s3 p3.size) (minus t.sign t.size + minus s3 p3.size) E (D * 2)
  unfolding dot
  s = let k = sides t.sign s3 t.size p3.size (D * 2) last in add_near binary32 1 (lit≤ tt) (add binary32 (mul binary32 v.x w.x) (mul binary32 v.y w.y)) (mul binary32 v.z w.z) t.sign s3 t.size p3.size t.has p3.has k.0 k.1

  s_size : s.size ≤ t.size + p3.size + E
  s_size = size_of_sum s.sign t.sign s3 s.size t.size p3.size E s.near

  pub dot_near : Dotted a b (dot v w) c
  unfolding q1 q2 q3 s1 s2 s3 dot
  dot_near = record {
    sign = s.sign;
    size = s.size;
    has = s.has;
    near = dot_sum D E (plus s.sign s.size) (minus s.sign s.size) (plus t.sign t.size) (minus t.sign t.size)
        (plus s1 p1.size) (minus s1 p1.size) (plus s2 p2.size) (minus s2 p2.size) (plus s3 p3.size) (minus s3 p3.size)
        (plus s1 q1) (minus s1 q1) (plus s2 q2) (minus s2 q2) (plus s3 q3) (minus s3 q3)
        s.near t.near (with_sign s1 p1.size D q1 (E * D) p1.near) (with_sign s2 p2.size D q2 (E * D) p2.near) (with_sign s3 p3.size D q3 (E * D) p3.near);
    most = at_last s.size D E c (pow_pos 149) (sum_size D E q1 q2 q3 (c * (E * D)) p1.size p2.size p3.size t.size s.size all p1.near p2.near p3.near t_size s_size);
  }
