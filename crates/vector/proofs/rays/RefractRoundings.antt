-- `refract` of two vectors of lengths near 1, by a ratio of at most 4: where its k is not below zero, the refracted vector's length is near 1. Assumes nothing.
use mathlib.Core.Path.{◌≡◌, ap₂, ◌∙◌, subst, transport}
use mathlib.Core.Bool.{Bool, false, not}
use Prim.Native.Nat.{ℕ, ◌+◌, ◌*◌, ◌≤◌}
use native.Mathlib.Nat.{le_trans, le_of_eq, mul-le-mul}
use lib.Dec.{lit≤, lit<}
use lib.Pow.{pow_pos}
use lib.Ieee as Ieee
use lib.Ieee.{Float, binary32, add, mul}
use lib.Ieee.Fits.{sub-fits}
use Rattle.laws.specs.Within.{Within}
use Rattle.scalar.specs.Root.{root}
use Rattle.laws.proofs.numbers.WholeRootLaws.{square_le}
use Rattle.laws.proofs.values.ValueLaws.{Value}
use Rattle.laws.proofs.operations.SumSigns.{unlike_self}
use Rattle.laws.proofs.operations.RoundedOperations.{plus, minus, Sized, Signed, mul_near, add_near, sub_near, same_value}
use Rattle.vector.proofs.values.SignedVectors.{D, E, Exact, Reads, norm, above, under, Norm, sides, size_of_sum, plain_sign, one_part, both_parts, sizes, one_is, above_comm, under_comm}
use Rattle.vector.specs.declared.vec3.Vec3.{Vec3}
use Rattle.vector.specs.Vectors.{one}
use Rattle.vector.specs.Operators.{sub, number_mul}
use Rattle.vector.specs.Products.{dot}
use Rattle.vector.specs.Optics.{refract_k}
use Rattle.vector.proofs.errors.DotErrorLaws.{Dotted, dot_near}
use Rattle.vector.proofs.values.CombinationLaws.{difference}
use Rattle.vector.proofs.errors.NearOneRoots.{Root, root_of}
use Rattle.vector.proofs.rays.RefractNumbers.{bent_square, bent_dot, room, m_low, m_high, m_near, scaled, k_near, below_le, k_le, k_two, g_room, g_le, j_near, mixed, squares_of, four_square}
use Rattle.vector.proofs.rays.RefractComponents.{Times, times, Bent, bent}
use Rattle.vector.proofs.rays.RefractCertificates.{bent_root, bent_length}

-- ---- in terms of s = normal.dot(self)
abbrev pub k_of : Float → Float → Float
k_of eta s = Ieee.sub binary32 one (mul binary32 (mul binary32 eta eta) (Ieee.sub binary32 one (mul binary32 s s)))

abbrev pub g_of : Float → Float → Float
g_of eta s = add binary32 (mul binary32 eta s) (root (k_of eta s))

-- eta * self - (eta * n_dot_i + math::sqrt(k)) * normal
abbrev pub bent_of : Vec3 → Vec3 → Float → Vec3
bent_of a normal eta = sub (number_mul eta a) (number_mul (g_of eta (dot normal a)) normal)

-- finite
pub record Number (v : Float) : Type 0 where
  pub sign : Bool
  pub size : ℕ
  pub has : Value binary32 v sign size

module _ (v w : Vec3) (a b : Exact) (ra : Reads v a) (rb : Reads w b) (na : Norm a (D * D) (64 * (E * D))) (nb : Norm b (D * D) (64 * (E * D)))
    (η : Float) (H : ℕ) (hη : Value binary32 η false H) (lη : H ≤ 4 * D) where
  s : Float
  s = dot w v

  d : Dotted b a s 64
  unfolding s
  d = dot_near w v b a 64 (lit≤ tt) rb ra nb na

  d2 : Sized binary32 (mul binary32 s s) false D (d.size * d.size) E (D * 2)
  d2 = subst (λ (t : Bool). Sized binary32 (mul binary32 s s) t D (d.size * d.size) E (D * 2)) (unlike_self d.sign)
      (mul_near binary32 s s d.sign d.sign d.size d.size 1 d.has d.has (bent_dot D E d.size (lit≤ tt) d.most) (lit≤ tt))

  m : Signed binary32 (Ieee.sub binary32 one (mul binary32 s s)) (D + 0) (0 + d2.size) E D
  m = sub_near binary32 0 (lit≤ tt) one (mul binary32 s s) false false D d2.size one_is d2.has (m_low D d2.size) (m_high D d2.size d2.most)

  e2 : Sized binary32 (mul binary32 η η) false D (H * H) (E * 8) (D * 16)
  e2 = mul_near binary32 η η false false H H 4 hη hη (four_square H D lη) (lit≤ tt)

  p : Sized binary32 (mul binary32 (mul binary32 η η) (Ieee.sub binary32 one (mul binary32 s s))) m.sign D (e2.size * m.size) (E * 8) (D * 16)
  p = subst (λ (t : Bool). Sized binary32 (mul binary32 (mul binary32 η η) (Ieee.sub binary32 one (mul binary32 s s))) t D (e2.size * m.size) (E * 8) (D * 16)) (plain_sign m.sign)
      (mul_near binary32 (mul binary32 η η) (Ieee.sub binary32 one (mul binary32 s s)) false m.sign e2.size m.size 4 e2.has m.has (mul-le-mul e2.most m.most) (lit≤ tt))

  k : Signed binary32 (k_of η s) (D + plus (not m.sign) p.size) (0 + minus (not m.sign) p.size) (E * 16) (D * 32)
  k = let w = sides false (not m.sign) D p.size (D * 32) (room D p.size p.most) in
      sub_near binary32 5 (lit≤ tt) one (mul binary32 (mul binary32 η η) (Ieee.sub binary32 one (mul binary32 s s))) false m.sign D p.size one_is p.has w.0 w.1

  pub k_number : Number (refract_k v w η)
  unfolding s refract_k
  k_number = record { sign = k.sign; size = k.size; has = k.has }

  -- k is not below zero
  module _ (sk : Bool) (K : ℕ) (hk : Value binary32 (refract_k v w η) sk K) (nk : minus sk K ≡ 0) where
    same : (k.sign ≡ sk) × (k.size ≡ K)
    unfolding s refract_k
    same = same_value binary32 (k_of η s) k.sign sk k.size K k.has hk

    none : minus k.sign k.size ≡ 0
    none = ap₂ minus same.0 same.1 ∙ nk

    m_is : Within (plus m.sign m.size + d2.size) (D + minus m.sign m.size) E
    m_is = m_near m.sign m.size d2.size D E m.near

    k_is : Within (k.size + plus m.sign p.size) (D + minus m.sign p.size) (E * 16)
    k_is = k_near k.sign m.sign k.size p.size D (E * 16) none k.near

    k_most : k.size ≤ D + 2600 * E
    k_most = k_le k.size (plus m.sign p.size) (minus m.sign p.size) D E k_is.0
        (below_le m.sign m.size p.size d2.size D E e2.size d.size (pow_pos 149) (lit≤ tt) d.most e2.most d2.near m_is p.near)

    q : Root (root (k_of η s)) k.size
    q = root_of (k_of η s) k.sign k.size (sub-fits binary32 one (mul binary32 (mul binary32 η η) (Ieee.sub binary32 one (mul binary32 s s)))) (k_two k.size D E (lit≤ tt) k_most) k.has none

    q_most : q.size ≤ D + 1400 * E
    q_most = square_le q.size (D + 1400 * E) (bent_square D E q.size k.size (lit≤ tt) k_most q.near)

    abbrev ms : Bool
    ms = m.sign

    all_one : Within (H * H * (D * D) + D * D * (q.size * q.size)) (D * D * D * D + H * H * (d.size * d.size)) (70 * (E * D * D * D))
    all_one = bent_root D E H d.size d2.size (plus ms m.size) (minus ms m.size) e2.size (plus ms p.size) (minus ms p.size) k.size q.size
        lη (le_trans (le_of_eq (both_parts ms m.size)) m.most)
        d2.near m_is e2.near
        (scaled ms p.size e2.size m.size D (E * 8 * D) p.near)
        k_is q.near

    g0 : Times η H hη lη s d.sign d.size
    g0 = times η H hη lη s d.sign d.size d.has d.most

    g : Signed binary32 (g_of η s) (plus d.sign g0.size + plus q.sign q.size) (minus d.sign g0.size + minus q.sign q.size) (E * 4) (D * 8)
    g = let w = sides d.sign q.sign g0.size q.size (D * 8) (g_room g0.size q.size D E (lit≤ tt) g0.most q_most) in
        add_near binary32 3 (lit≤ tt) (mul binary32 η s) (root (k_of η s)) d.sign q.sign g0.size q.size g0.has q.has w.0 w.1

    g_most : g.size ≤ 5 * D + 2000 * E
    g_most = g_le g.size g0.size q.size D E g0.most q_most (size_of_sum g.sign d.sign q.sign g.size g0.size q.size (E * 4) g.near)

    g_is : Within (D * plus g.sign g.size + H * minus d.sign d.size) (D * minus g.sign g.size + H * plus d.sign d.size + D * q.size) (8 * (E * D))
    g_is = j_near g.sign d.sign q.sign g.size g0.size q.size D E H d.size q.none
        g.near g0.near

    at_x : Bent η H hη lη (g_of η s) g.sign g.size v.x w.x a.sx b.sx a.ax b.ax
    at_x = bent η H hη lη (g_of η s) g.sign g.size g.has g_most v.x w.x a.sx b.sx a.ax b.ax ra.at_x rb.at_x (sizes a na.0).0 (sizes b nb.0).0

    at_y : Bent η H hη lη (g_of η s) g.sign g.size v.y w.y a.sy b.sy a.ay b.ay
    at_y = bent η H hη lη (g_of η s) g.sign g.size g.has g_most v.y w.y a.sy b.sy a.ay b.ay ra.at_y rb.at_y (sizes a na.0).1.0 (sizes b nb.0).1.0

    at_z : Bent η H hη lη (g_of η s) g.sign g.size v.z w.z a.sz b.sz a.az b.az
    at_z = bent η H hη lη (g_of η s) g.sign g.size g.has g_most v.z w.z a.sz b.sz a.az b.az ra.at_z rb.at_z (sizes a na.0).1.1 (sizes b nb.0).1.1

    pub refracted : Exact
    refracted = record { sx = at_x.sign; ax = at_x.size; sy = at_y.sign; ay = at_y.size; sz = at_z.sign; az = at_z.size }

    pub refracted_reads : Reads (bent_of v w η) refracted
    unfolding refracted s sub number_mul
    refracted_reads = record { at_x = at_x.has; at_y = at_y.has; at_z = at_z.has }

    abbrev gp : ℕ
    gp = plus g.sign g.size

    abbrev gm : ℕ
    gm = minus g.sign g.size

    squared : Within (D * D * norm refracted + 2 * (H * (gp * above a b + gm * under a b))) (H * H * norm a + (gp * gp + gm * gm) * norm b + 2 * (H * (gp * under a b + gm * above a b)))
        (3 * (16 * (E * D) * (2 * (D * (11 * D)) + 16 * (E * D))))
    unfolding refracted
    squared = transport
        (λ i. Within (D * D * norm refracted + 2 * mixed g.sign H g.size (above a b) (under a b) i) (H * H * norm a + squares_of g.sign g.size i * norm b + 2 * mixed g.sign H g.size (under a b) (above a b) i) (3 * (16 * (E * D) * (2 * (D * (11 * D)) + 16 * (E * D)))))
        (difference D (16 * (E * D)) (11 * D) H g.sign g.size a b refracted at_x.most at_y.most at_z.most at_x.near at_y.near at_z.near)

    dotted : Within (plus d.sign d.size * D + under a b) (minus d.sign d.size * D + above a b) (5 * (E * D))
    dotted = subst (λ (c : ℕ). Within (plus d.sign d.size * D + c) (minus d.sign d.size * D + above a b) (5 * (E * D))) (under_comm b a)
        (subst (λ (c : ℕ). Within (plus d.sign d.size * D + under b a) (minus d.sign d.size * D + c) (5 * (E * D))) (above_comm b a) d.near)

    pub refracted_norm : Norm refracted (D * D) (4800 * (E * D))
    refracted_norm =
        bent_length D E H q.size (plus d.sign d.size) (minus d.sign d.size) gp gm (above a b) (under a b) (norm refracted) (norm a) (norm b)
        (lit≤ tt) lη (le_trans (le_of_eq (both_parts d.sign d.size)) d.most)
        (le_trans (le_of_eq (both_parts g.sign g.size)) g_most) q_most (one_part d.sign d.size) (one_part g.sign g.size)
        (subst (λ (c : ℕ). Within (H * H * (D * D) + D * D * (q.size * q.size)) (D * D * D * D + H * H * c) (70 * (E * D * D * D))) (squares_of d.sign d.size) all_one)
        g_is dotted na nb squared (lit< tt)
