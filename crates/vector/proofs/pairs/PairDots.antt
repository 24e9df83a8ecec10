-- The two directions that a direction's pair gives: nearly orthogonal to it and to each other. Assumes nothing.
use mathlib.Core.Path.{◌≡◌, refl, ap, subst}
use mathlib.Core.List.{[], ◌∷◌}
use mathlib.Core.Bool.{Bool, true, false, not}
use Prim.Native.Nat.{ℕ, ◌+◌, ◌*◌, ◌≤◌}
use native.Mathlib.Nat.{le_trans, le_of_eq, mul-le-mul, le_of_mul-le-mul_right}
use native.Mathlib.Omega.{arith}
use lib.Dec.{T, lit≤, lit<}
use lib.Pow.{pow_pos}
use lib.Ieee.{Float, binary32, unlike, mul, fits}
use Rattle.laws.proofs.values.ValueLaws.{Value}
use Rattle.laws.proofs.solvers.Ring.{var, lit, ◌⊗◌}
use Rattle.laws.proofs.solvers.RingNat.{ring}
use Rattle.laws.proofs.operations.RoundedOperations.{plus, minus, Sized, mul_near}
use Rattle.vector.proofs.pairs.UnitDotCertificates.{normal_unit, size_of, units}
use Rattle.vector.proofs.pairs.PairSigns.{three, back, back', first_of_lem, assoc, last_of, not_through, both_not, dot_first, dot_second, dot_across, scaled, norm_of, swapped}
use Rattle.vector.proofs.pairs.PairRoundings.{PairValues, pair_is}
use Rattle.vector.proofs.values.SignedVectors.{D, E, Exact, Reads, Dot, Norm, both_parts}
use Rattle.vector.specs.declared.vec3.Vec3.{Vec3}
use Rattle.vector.specs.Operators.{mul_number}
use Rattle.vector.specs.Orthogonal.{first_of, second_of}

-- ---- a product with r of at most 5/4
small : (a r d e : ℕ) → 100000 * e ≤ d → a ≤ d + 32 * e → 4 * r ≤ 5 * d → a * r ≤ d * d * 2
small a r d e k h l = le_of_mul-le-mul_right (le_trans (le_of_eq (turn a r)) (le_trans (mul-le-mul (four a d e k h) l) (le_of_eq (turn' d)))) (lit< tt)
  where
    four : (a d e : ℕ) → 100000 * e ≤ d → a ≤ d + 32 * e → 5 * a ≤ 8 * d
    four a d e k h = omega arith

    turn : (a r : ℕ) → a * r * 20 ≡ 5 * a * (4 * r)
    turn a r = ring (a ∷ r ∷ []) (var 0 ⊗ var 1 ⊗ lit 20) (lit 5 ⊗ var 0 ⊗ (lit 4 ⊗ var 1)) refl

    turn' : (d : ℕ) → 8 * d * (5 * d) ≡ d * d * 2 * 20
    turn' d = ring (d ∷ []) (lit 8 ⊗ var 0 ⊗ (lit 5 ⊗ var 0)) (var 0 ⊗ var 0 ⊗ lit 2 ⊗ lit 20) refl

-- ---- the pair of n = (x, y, z), and the directions made of it by the factors r and q, each product rounded once
module _ (v : Vec3) (n : Exact) (fx : T (fits binary32 v.x)) (reads : Reads v n) (long : Norm n (D * D) (64 * (E * D))) where
  pair : PairValues v n.sx n.sy n.sz n.ax n.ay n.az
  pair = pair_is v n.sx n.sy n.sz n.ax n.ay n.az fx reads.at_x reads.at_y reads.at_z long

  pub first : Exact
  first = record { sx = pair.sh; ax = pair.h; sy = not (unlike n.sx n.sy); ay = pair.b; sz = not (unlike n.sz n.sx); az = n.ax }

  pub second : Exact
  second = record { sx = not (unlike (unlike n.sx n.sy) n.sz); ax = pair.b; sy = unlike n.sz pair.sk; ay = pair.k; sz = not n.sy; az = n.ay }

  pub first_reads : Reads (first_of v) first
  unfolding first
  first_reads = record { at_x = pair.first_x_is; at_y = pair.first_y_is; at_z = pair.first_z_is }

  pub second_reads : Reads (second_of v) second
  unfolding second
  second_reads = record { at_x = pair.second_x_is; at_y = pair.second_y_is; at_z = pair.second_z_is }

  pub first_norm : Norm first (D * D) (90 * (E * D))
  unfolding first
  first_norm = norm_of pair.sh pair.h pair.b n.ax (D * D) (90 * (E * D)) pair.facts_of.length1

  pub second_norm : Norm second (D * D) (90 * (E * D))
  unfolding second
  second_norm = swapped pair.k pair.b n.ay (D * D) (90 * (E * D)) (norm_of pair.sk pair.k pair.b n.ay (D * D) (90 * (E * D)) pair.facts_of.length2)

  -- ---- the products with r, at most 5/4
  module _ (r : Float) (R : ℕ) (hr : Value binary32 r false R) (le : 4 * R ≤ 5 * D) where
    wide : (a : ℕ) → a ≤ D → a ≤ D + 32 * E
    wide a h = le_trans h (lit≤ tt)

    times : (u : Float) (s : Bool) (a : ℕ) → Value binary32 u s a → a ≤ D + 32 * E → Sized binary32 (mul binary32 u r) s D (a * R) E (D * 2)
    times u s a h l =
        subst (λ (t : Bool). Sized binary32 (mul binary32 u r) t D (a * R) E (D * 2)) (plain s)
        (mul_near binary32 u r s false a R 1 h hr (small a R D E (lit≤ tt) l le) (lit≤ tt))
      where
        plain : (s : Bool) → unlike s false ≡ s
        plain true = refl
        plain false = refl

    w1x : Sized binary32 (mul binary32 (first_of v).x r) pair.sh D (pair.h * R) E (D * 2)
    w1x = times (first_of v).x pair.sh pair.h pair.first_x_is (wide pair.h pair.h_le)

    w1y : Sized binary32 (mul binary32 (first_of v).y r) (not (unlike n.sx n.sy)) D (pair.b * R) E (D * 2)
    w1y = times (first_of v).y (not (unlike n.sx n.sy)) pair.b pair.first_y_is (wide pair.b pair.b_le)

    w1z : Sized binary32 (mul binary32 (first_of v).z r) (not (unlike n.sz n.sx)) D (n.ax * R) E (D * 2)
    w1z = times (first_of v).z (not (unlike n.sz n.sx)) n.ax pair.first_z_is pair.facts_of.x_le

    w2x : Sized binary32 (mul binary32 (second_of v).x r) (not (unlike (unlike n.sx n.sy) n.sz)) D (pair.b * R) E (D * 2)
    w2x = times (second_of v).x (not (unlike (unlike n.sx n.sy) n.sz)) pair.b pair.second_x_is (wide pair.b pair.b_le)

    w2y : Sized binary32 (mul binary32 (second_of v).y r) (unlike n.sz pair.sk) D (pair.k * R) E (D * 2)
    w2y = times (second_of v).y (unlike n.sz pair.sk) pair.k pair.second_y_is (wide pair.k pair.k_le)

    w2z : Sized binary32 (mul binary32 (second_of v).z r) (not n.sy) D (n.ay * R) E (D * 2)
    w2z = times (second_of v).z (not n.sy) n.ay pair.second_z_is pair.facts_of.y_le

    pub first_direction : Exact
    first_direction = record { sx = pair.sh; ax = w1x.size; sy = not (unlike n.sx n.sy); ay = w1y.size; sz = not (unlike n.sz n.sx); az = w1z.size }

    pub second_direction : Exact
    second_direction = record { sx = not (unlike (unlike n.sx n.sy) n.sz); ax = w2x.size; sy = unlike n.sz pair.sk; ay = w2y.size; sz = not n.sy; az = w2z.size }

    pub first_direction_reads : Reads (mul_number (first_of v) r) first_direction
    unfolding first_direction mul_number
    first_direction_reads = record { at_x = w1x.has; at_y = w1y.has; at_z = w1z.has }

    pub second_direction_reads : Reads (mul_number (second_of v) r) second_direction
    unfolding second_direction mul_number
    second_direction_reads = record { at_x = w2x.has; at_y = w2y.has; at_z = w2z.has }

    -- n and the first direction
    pub first_direction_normal : Dot n first_direction (100 * (E * D))
    unfolding first_direction
    first_direction_normal =
        three (unlike n.sx pair.sh) (unlike n.sx pair.sh) (unlike n.sy (not (unlike n.sx n.sy))) (not n.sx) (unlike n.sz (not (unlike n.sz n.sx))) (not n.sx)
        (n.ax * w1x.size) (n.ay * w1y.size) (n.az * w1z.size) (100 * (E * D)) refl (back n.sx n.sy) (back' n.sx n.sz)
        (dot_first n.sx pair.sh n.ax n.ay n.az w1x.size w1y.size w1z.size (100 * (E * D))
        (normal_unit D E n.ax n.ay n.az pair.b (plus pair.sh pair.h) (minus pair.sh pair.h) R (plus pair.sh w1x.size) (minus pair.sh w1x.size) w1y.size w1z.size
        (lit≤ tt) pair.facts_of.x_le pair.facts_of.y_le pair.facts_of.z_le le pair.facts_of.normal1
        (scaled pair.sh pair.h R w1x.size E D w1x.near) w1y.near w1z.near (pow_pos 149)))

    -- n and the second direction
    pub second_direction_normal : Dot n second_direction (100 * (E * D))
    unfolding second_direction
    second_direction_normal =
        three (unlike n.sx (not (unlike (unlike n.sx n.sy) n.sz))) (not (unlike n.sy n.sz)) (unlike n.sy (unlike n.sz pair.sk)) (unlike (unlike n.sy n.sz) pair.sk) (unlike n.sz (not n.sy)) (not (unlike n.sy n.sz))
        (n.ax * w2x.size) (n.ay * w2y.size) (n.az * w2z.size) (100 * (E * D)) (first_of_lem n.sx n.sy n.sz) (assoc n.sy n.sz pair.sk) (last_of n.sy n.sz)
        (dot_second (unlike n.sy n.sz) pair.sk n.ax n.ay n.az w2y.size w2x.size w2z.size (100 * (E * D))
        (normal_unit D E n.ay n.ax n.az pair.b (plus pair.sk pair.k) (minus pair.sk pair.k) R (plus pair.sk w2y.size) (minus pair.sk w2y.size) w2x.size w2z.size
        (lit≤ tt) pair.facts_of.y_le pair.facts_of.x_le pair.facts_of.z_le le pair.facts_of.normal2
        (scaled pair.sk pair.k R w2y.size E D w2y.near) w2x.near w2z.near (pow_pos 149)))

  -- ---- and the two to each other
  pub directions_across : (r q : Float) (R Q : ℕ) (hr : Value binary32 r false R) (hq : Value binary32 q false Q) (lr : 4 * R ≤ 5 * D) (lq : 4 * Q ≤ 5 * D)
      → Dot (first_direction r R hr lr) (second_direction q Q hq lq) (146 * (E * D))
  unfolding first_direction second_direction
  directions_across r q R Q hr hq lr lq =
      let ax = w1x r R hr lr in
      let ay = w1y r R hr lr in
      let az = w1z r R hr lr in
      let bx = w2x q Q hq lq in
      let by' = w2y q Q hq lq in
      let bz = w2z q Q hq lq in
      three (unlike pair.sh (not (unlike (unlike n.sx n.sy) n.sz))) (unlike pair.sh (not (unlike (unlike n.sx n.sy) n.sz))) (unlike (not (unlike n.sx n.sy)) (unlike n.sz pair.sk)) (unlike (not (unlike (unlike n.sx n.sy) n.sz)) pair.sk) (unlike (not (unlike n.sz n.sx)) (not n.sy)) (unlike (unlike n.sx n.sy) n.sz)
      (ax.size * bx.size) (ay.size * by'.size) (az.size * bz.size) (146 * (E * D)) refl (not_through (unlike n.sx n.sy) n.sz pair.sk) (both_not n.sx n.sy n.sz)
      (dot_across (unlike (unlike n.sx n.sy) n.sz) pair.sh pair.sk ax.size ay.size az.size by'.size bx.size bz.size (146 * (E * D))
      (units D E n.ax n.ay pair.b (plus pair.sh pair.h) (minus pair.sh pair.h) (plus pair.sk pair.k) (minus pair.sk pair.k) R Q
      (plus pair.sh ax.size) (minus pair.sh ax.size) ay.size az.size bx.size (plus pair.sk by'.size) (minus pair.sk by'.size) bz.size
      (lit≤ tt) pair.b_le (le_trans (le_of_eq (both_parts pair.sh pair.h)) pair.h_le) pair.facts_of.x_le lr lq (squared R Q D lr lq)
      (size_of D E pair.b Q bx.size (lit≤ tt) (wide q Q hq lq pair.b pair.b_le) lq bx.near (pow_pos 149))
      (le_trans (le_of_eq (ap (λ (n : ℕ). 4 * n) (both_parts pair.sk by'.size))) (size_of D E pair.k Q by'.size (lit≤ tt) (wide q Q hq lq pair.k pair.k_le) lq by'.near (pow_pos 149)))
      (size_of D E n.ay Q bz.size (lit≤ tt) pair.facts_of.y_le lq bz.near (pow_pos 149))
      pair.facts_of.across
      (scaled pair.sh pair.h R ax.size E D ax.near) ay.near az.near
      bx.near (scaled pair.sk pair.k Q by'.size E D by'.near) bz.near (lit< tt)))
    where
      squared : (r q d : ℕ) → 4 * r ≤ 5 * d → 4 * q ≤ 5 * d → 16 * (r * q) ≤ 25 * (d * d)
      squared r q d h k = le_trans (le_of_eq (ring (r ∷ q ∷ []) (lit 16 ⊗ (var 0 ⊗ var 1)) (lit 4 ⊗ var 0 ⊗ (lit 4 ⊗ var 1)) refl)) (le_trans (mul-le-mul h k) (le_of_eq (ring (d ∷ []) (lit 5 ⊗ var 0 ⊗ (lit 5 ⊗ var 0)) (lit 25 ⊗ (var 0 ⊗ var 0)) refl)))
