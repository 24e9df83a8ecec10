-- `reflect` of two vectors of lengths near 1: the mirrored vector's length is near 1. Assumes nothing.
use mathlib.Core.Path.{refl, subst}
use mathlib.Core.Bool.{Bool, true, false, not, cond}
use Prim.Native.Nat.{ℕ, ◌+◌, ◌*◌, ◌≤◌, ◌<◌}
use native.Mathlib.Nat.{mul-le-mul, mul-le-mul_left, le_of_mul-le-mul_right, lt_of_le_of_lt, zero-mul, mul_comm, mul-le-mul_right}
use native.Mathlib.Omega.{arith}
use lib.Dec.{T, lit≤, lit<}
use lib.Pow.{pow_pos}
use lib.Ieee as Ieee
use lib.Ieee.{Float, binary32, unlike, add, mul, fits, of_bits}
use lib.Ieee.Fits.{add-fits}
use Rattle.laws.specs.Within.{Within}
use Rattle.laws.proofs.values.ValueLaws.{Value}
use Rattle.laws.proofs.operations.RoundedOperations.{plus, minus, Sized, Signed, mul_near, sub_near}
use Rattle.laws.proofs.operations.ExactProducts.{power_times}
use Rattle.vector.proofs.values.SignedVectors.{D, E, Exact, Reads, norm, above, under, Norm, sides, plain_sign, sizes}
use Rattle.vector.specs.declared.vec3.Vec3.{Vec3}
use Rattle.vector.specs.Operators.{sub, number_mul}
use Rattle.vector.specs.Products.{dot}
use Rattle.vector.specs.Optics.{two, reflect}
use Rattle.vector.proofs.errors.DotErrorLaws.{Dotted, dot_near}
use Rattle.vector.proofs.values.CombinationLaws.{Component, component_of, toward, against, difference}

-- one component of a - 2 * a.dot(b) * b, with q = 2 * a.dot(b)
abbrev mirrored : Float → Float → Float → Float
mirrored q a b = Ieee.sub binary32 a (mul binary32 q b)

dot_fits : (v w : Vec3) → T (fits binary32 (dot v w))
unfolding dot
dot_fits v w = add-fits binary32 (add binary32 (mul binary32 v.x w.x) (mul binary32 v.y w.y)) (mul binary32 v.z w.z)

two_is : Value binary32 two false (D * 2)
unfolding of_bits
two_is = (refl, refl)

-- ---- in whole numbers
exactly : (a d : ℕ) → Within (a * d) (d * a) (0 * d)
exactly a d = omega (arith, mul_comm a d, zero-mul d)

-- 2 δ b is at most 4, b being the size of a component
mirror_product : (d e δ b : ℕ) → 100000 * e ≤ d → δ ≤ d + 69 * e → b ≤ d + 32 * e
    → δ * 2 * b ≤ d * d * 4
mirror_product d e δ b k hδ hb = let l : 4 * δ ≤ 5 * d = omega arith in let m : 4 * b ≤ 5 * d = omega arith in omega (arith, mul-le-mul l m)

-- and m, which is 2 δ b rounded (hm), is at most 2 and 300 errors
mirror_part : (d e δ b m : ℕ) → 100000 * e ≤ d → δ ≤ d + 69 * e → b ≤ d + 32 * e → Within (m * d) (δ * 2 * b) (e * 2 * d) → 0 < d
    → m ≤ d * 2 + 300 * e
mirror_part d e δ b m k hδ hb hm some = let l : m * d ≤ (d * 2 + 300 * e) * d = omega (arith, mul-le-mul hδ hb, mul-le-mul_left e k) in le_of_mul-le-mul_right l some

room : (a m d e : ℕ) → 100000 * e ≤ d → a ≤ d + 32 * e → m ≤ d * 2 + 300 * e → a + m ≤ d * 4
room a m d e k h l = omega arith

-- the dot product, by its own sign
by_own_sign : (s : Bool) (δ d m p r : ℕ) → Within (plus s δ * d + m) (minus s δ * d + p) r → Within (δ * d + cond s p m) (cond s m p) r
by_own_sign true δ d m p r w = omega (arith, zero-mul d)
by_own_sign false δ d m p r w = omega (arith, zero-mul d)

-- r = a - 2 δ b: its squared length nr is 1 within 440 errors. From the square of a - 2 δ b (v), δ near the exact dot product cp - cm (hd) and the squared lengths
-- na and nb of a and b near 1 (ha, hb)
mirror_length : (d e δ cp cm nr na nb : ℕ) → 100000 * e ≤ d → δ ≤ d + 69 * e → Within (δ * d + cm) cp (5 * (e * d)) → Within na (d * d) (64 * (e * d)) → Within nb (d * d) (64 * (e * d)) → Within (d * d * nr + 2 * (d * (δ * 2) * cp)) (d * d * na + δ * 2 * (δ * 2) * nb + 2 * (d * (δ * 2) * cm)) (3 * (4 * (e * d) * (2 * (d * (d * 4)) + 4 * (e * d)))) → 0 < d * d
    → Within nr (d * d) (440 * (e * d))
mirror_length d e δ cp cm nr na nb k hδ hd ha hb v some = (
  let g : nr * (d * d) ≤ (d * d + 440 * (e * d)) * (d * d) = omega (arith, mul-le-mul_left (d * d * e) k, mul-le-mul_left (d * e * δ) k, mul-le-mul_left (d * d * e) hδ, mul-le-mul_left (d * e * δ) hδ, mul-le-mul_left (d * δ) hd.0, mul-le-mul_left (d * d) ha.0, mul-le-mul_left (δ * δ) hb.0) in le_of_mul-le-mul_right g some,
  let g : d * d * (d * d) ≤ (nr + 440 * (e * d)) * (d * d) = omega (arith, mul-le-mul_left (d * d * e) k, mul-le-mul_left (d * e * δ) k, mul-le-mul_left (d * d * e) hδ, mul-le-mul_left (d * e * δ) hδ, mul-le-mul_left (d * δ) hd.1, mul-le-mul_left (d * d) ha.1, mul-le-mul_left (δ * δ) hb.1) in le_of_mul-le-mul_right g some,
)

-- ---- one component
record Mirrored (q : Float) (sq : Bool) (δ : ℕ) (a b : Float) (sa sb : Bool) (A B : ℕ) : Type 0 where
  sign : Bool
  size : ℕ
  has : Value binary32 (mirrored q a b) sign size
  near : Component sign size sa (D * A) (unlike sq sb) (δ * 2 * B) D (4 * (E * D))
  most : size ≤ D * 4

module _ (q : Float) (sq : Bool) (δ : ℕ) (hq : Value binary32 q sq (δ * 2)) (lq : δ ≤ D + 69 * E) (a b : Float) (sa sb : Bool) (A B : ℕ) (ha : Value binary32 a sa A) (hb : Value binary32 b sb B) (la : A ≤ D + 32 * E) (lb : B ≤ D + 32 * E) where
  m : Sized binary32 (mul binary32 q b) (unlike sq sb) D (δ * 2 * B) (E * 2) (D * 4)
  m = mul_near binary32 q b sq sb (δ * 2) B 2 hq hb (mirror_product D E δ B (lit≤ tt) lq lb) (lit≤ tt)

  m_le : m.size ≤ D * 2 + 300 * E
  m_le = mirror_part D E δ B m.size (lit≤ tt) lq lb m.near (pow_pos 149)

  mirrored_is : Signed binary32 (mirrored q a b) (plus sa A + plus (not (unlike sq sb)) m.size) (minus sa A + minus (not (unlike sq sb)) m.size) (E * 2) (D * 4)
  mirrored_is =
      let w = sides sa (not (unlike sq sb)) A m.size (D * 4) (room A m.size D E (lit≤ tt) la m_le) in
      sub_near binary32 2 (lit≤ tt) a (mul binary32 q b) sa (unlike sq sb) A m.size ha m.has w.0 w.1

  mirrored_near : Component mirrored_is.sign mirrored_is.size sa (D * A) (unlike sq sb) (δ * 2 * B) D (4 * (E * D))
  mirrored_near = component_of mirrored_is.sign sa (unlike sq sb) mirrored_is.size A m.size (D * A) (δ * 2 * B) D 0 (E * 2) (E * 2) (exactly A D) m.near mirrored_is.near

  mirrored_of : Mirrored q sq δ a b sa sb A B
  mirrored_of = record { sign = mirrored_is.sign; size = mirrored_is.size; has = mirrored_is.has; near = mirrored_near; most = mirrored_is.most }

-- ---- the whole
module _ (v w : Vec3) (a b : Exact) (ra : Reads v a) (rb : Reads w b) (na : Norm a (D * D) (64 * (E * D))) (nb : Norm b (D * D) (64 * (E * D))) where
  d : Dotted a b (dot v w) 64
  d = dot_near v w a b 64 (lit≤ tt) ra rb na nb

  q : Float
  q = mul binary32 two (dot v w)

  q_is : Value binary32 q d.sign (d.size * 2)
  unfolding q
  q_is = subst (λ (s : Bool). Value binary32 (mul binary32 two (dot v w)) s (d.size * 2)) (plain_sign d.sign)
      (power_times binary32 two (dot v w) false d.sign d.size (dot_fits v w) d.has 1 two_is (lt_of_le_of_lt (mul-le-mul_right 2 d.most) (lit< tt)))

  at_x : Mirrored q d.sign d.size v.x w.x a.sx b.sx a.ax b.ax
  at_x = mirrored_of q d.sign d.size q_is d.most v.x w.x a.sx b.sx a.ax b.ax ra.at_x rb.at_x (sizes a na.0).0 (sizes b nb.0).0

  at_y : Mirrored q d.sign d.size v.y w.y a.sy b.sy a.ay b.ay
  at_y = mirrored_of q d.sign d.size q_is d.most v.y w.y a.sy b.sy a.ay b.ay ra.at_y rb.at_y (sizes a na.0).1.0 (sizes b nb.0).1.0

  at_z : Mirrored q d.sign d.size v.z w.z a.sz b.sz a.az b.az
  at_z = mirrored_of q d.sign d.size q_is d.most v.z w.z a.sz b.sz a.az b.az ra.at_z rb.at_z (sizes a na.0).1.1 (sizes b nb.0).1.1

  pub reflected : Exact
  reflected = record { sx = at_x.sign; ax = at_x.size; sy = at_y.sign; ay = at_y.size; sz = at_z.sign; az = at_z.size }

  pub reflected_reads : Reads (reflect v w) reflected
  unfolding reflected q reflect sub number_mul
  reflected_reads = record { at_x = at_x.has; at_y = at_y.has; at_z = at_z.has }

  pub reflected_norm : Norm reflected (D * D) (440 * (E * D))
  unfolding reflected
  reflected_norm =
      mirror_length D E d.size (toward d.sign a b) (against d.sign a b) (norm reflected) (norm a) (norm b) (lit≤ tt) d.most
      (by_own_sign d.sign d.size D (under a b) (above a b) (5 * (E * D)) d.near) na nb
      (difference D (4 * (E * D)) (D * 4) D d.sign (d.size * 2) a b reflected at_x.most at_y.most at_z.most at_x.near at_y.near at_z.near)
      (lit< tt)
