-- The pair of a direction n = (x, y, z) of a length near 1: what its six floats are. Assumes nothing.
use mathlib.Core.Path.{refl, subst}
use mathlib.Core.Bool.{Bool, true, false, not}
use Prim.Native.Nat.{ℕ, ◌+◌, ◌*◌, ◌≤◌}
use native.Mathlib.Nat.{le_trans, le_of_eq, lt_of_lt_of_le, mul-le-mul}
use native.Mathlib.Omega.{arith}
use lib.Dec.{T, lit≤}
use lib.Pow.{pow_pos}
use lib.Ieee.{Float, nan, inf, fin, binary32, unlike, add, mul, neg, fits, of_bits}
use lib.Ieee.Fits.{mul-fits}
use Rattle.laws.specs.Within.{Within}
use Rattle.laws.specs.Exact.{negative}
use Rattle.laws.proofs.values.ValueLaws.{Value}
use Rattle.laws.proofs.operations.OperationLaws.{neg_value}
use Rattle.laws.proofs.operations.RoundedOperations.{plus, minus, Sized, Signed, Summed, mul_near, div_near, add_near, add_like}
use Rattle.laws.proofs.operations.ExactProducts.{one_times}
use Rattle.vector.proofs.values.ComponentSizes.{size_le, twice_product, parts_of}
use Rattle.vector.proofs.pairs.PairNumbers.{Roundings, Facts, facts}
use Rattle.vector.proofs.pairs.PairSigns.{sign_h, sign_k, sign_b, sign_b1, sign_x1, sign_twice}
use Rattle.vector.proofs.values.SignedVectors.{D, E, one_is, both_parts, one_part}
use Rattle.scalar.specs.Sign.{signum, copysign, abs}
use Rattle.vector.specs.declared.vec3.Vec3.{Vec3}
use Rattle.vector.specs.Vectors.{one}
use Rattle.vector.specs.Orthogonal.{scale_of, mix_of, first_of, second_of}

-- ---- a sign
signum_is : (z : Float) (s : Bool) (n : ℕ) → Value binary32 z s n → Value binary32 (signum z) s D
unfolding signum copysign abs neg negative of_bits
signum_is nan s n h = absurd h
signum_is (inf t) s n h = absurd h
signum_is (fin true m e) s n h = (h.0, refl)
signum_is (fin false m e) s n h = (h.0, refl)

-- ---- the pair, as whole numbers: h and k may have either sign, and those of the other four are known
pub record PairValues (v : Vec3) (sx sy sz : Bool) (X Y Z : ℕ) : Type 0 where
  pub sh : Bool
  pub h : ℕ
  pub sk : Bool
  pub k : ℕ
  pub b : ℕ
  pub first_x_is : Value binary32 (first_of v).x sh h
  pub first_y_is : Value binary32 (first_of v).y (not (unlike sx sy)) b
  pub first_z_is : Value binary32 (first_of v).z (not (unlike sz sx)) X
  pub second_x_is : Value binary32 (second_of v).x (not (unlike (unlike sx sy) sz)) b
  pub second_y_is : Value binary32 (second_of v).y (unlike sz sk) k
  pub second_z_is : Value binary32 (second_of v).z (not sy) Y
  pub h_le : h ≤ D
  pub k_le : k ≤ D
  pub b_le : b ≤ D
  pub facts_of : Facts D E X Y Z b (plus sh h) (minus sh h) (plus sk k) (minus sk k)

-- ---- k, with z's sign taken out
k_near : (sz ks : Bool) (k ε d e : ℕ) → Within (plus ks k + (minus sz d + minus (not sz) ε)) (minus ks k + (plus sz d + plus (not sz) ε)) e
    → Within (plus (unlike sz ks) k + ε) (d + minus (unlike sz ks) k) e
k_near true true k ε d e h = omega arith
k_near true false k ε d e h = omega arith
k_near false true k ε d e h = omega arith
k_near false false k ε d e h = omega arith

k_low : (sz : Bool) (d ε : ℕ) → ε ≤ d * 2 → plus sz d + plus (not sz) ε ≤ minus sz d + minus (not sz) ε + d * 1
k_low true d ε h = omega arith
k_low false d ε h = omega arith

k_high : (sz : Bool) (d ε : ℕ) → ε ≤ d * 2 → minus sz d + minus (not sz) ε ≤ plus sz d + plus (not sz) ε + d * 1
k_high true d ε h = omega arith
k_high false d ε h = omega arith

-- ---- bounds, in whole numbers
bound_t : (d e z : ℕ) → 100000 * e ≤ d → z ≤ d + 32 * e → d + z ≤ d * 4
bound_t d e z h k = omega arith

bound_xy : (a s q r : ℕ) → 2 * a ≤ s → s ≤ q + 64 * r → 64 * r ≤ q → a ≤ q * 1
bound_xy a s q r h k l = omega arith

bound_xx : (a q r : ℕ) → a ≤ q + 64 * r → 64 * r ≤ q → a ≤ q * 2
bound_xx a q r h k = omega arith

from_one : (d z : ℕ) → d * 1 ≤ d + z
from_one d z = omega arith

times_one : (d t : ℕ) → d ≤ t → d ≤ t * 1
times_one d t h = omega arith

h_low : (d γ : ℕ) → d + 0 ≤ 0 + γ + d * 1
h_low d γ = omega arith

h_high : (d γ : ℕ) → γ ≤ d * 2 → 0 + γ ≤ d + 0 + d * 1
h_high d γ h = omega arith

h_near : (sh : Bool) (h γ d e : ℕ) → Within (plus sh h + (0 + γ)) (minus sh h + (d + 0)) e → Within (plus sh h + γ) (d + minus sh h) e
h_near true h γ d e w = omega arith
h_near false h γ d e w = omega arith

module _ (v : Vec3) (sx sy sz : Bool) (X Y Z : ℕ) (fx : T (fits binary32 v.x)) (hx : Value binary32 v.x sx X) (hy : Value binary32 v.y sy Y) (hz : Value binary32 v.z sz Z)
    (long : Within (X * X + Y * Y + Z * Z) (D * D) (64 * (E * D))) where
  sizes : (X * X ≤ D * D + 64 * (E * D)) × ((Y * Y ≤ D * D + 64 * (E * D)) × ((Z * Z ≤ D * D + 64 * (E * D)) × (X * X + Y * Y ≤ D * D + 64 * (E * D))))
  sizes = parts_of (X * X) (Y * Y) (Z * Z) (D * D + 64 * (E * D)) long.0

  sum_is : Summed binary32 (add binary32 (signum v.z) v.z) sz (D + Z) (E * 2) (D * 4)
  sum_is = add_like binary32 2 (lit≤ tt) (signum v.z) v.z sz D Z (signum_is v.z sz Z hz) hz (bound_t D E Z (lit≤ tt) (size_le D E Z sizes.1.1.0))

  t_ge : D ≤ sum_is.size
  t_ge = sum_is.least 0 (from_one D Z)

  recip_is : Sized binary32 (scale_of v.z) (unlike true sz) sum_is.size (D * D) E D
  recip_is = div_near binary32 (neg one) (add binary32 (signum v.z) v.z) true sz D sum_is.size 0 (lt_of_lt_of_le (pow_pos 149) t_ge) (neg_value binary32 one false D one_is) sum_is.has (times_one D sum_is.size t_ge) (lit≤ tt)

  product_is : Sized binary32 (mul binary32 v.x v.y) (unlike sx sy) D (X * Y) E D
  product_is = mul_near binary32 v.x v.y sx sy X Y 0 hx hy (bound_xy (X * Y) (X * X + Y * Y) (D * D) (E * D) (twice_product X Y) sizes.1.1.1 (lit≤ tt)) (lit≤ tt)

  b_of : Sized binary32 (mix_of v) (unlike (unlike sx sy) (unlike true sz)) D (product_is.size * recip_is.size) E D
  b_of = mul_near binary32 (mul binary32 v.x v.y) (scale_of v.z) (unlike sx sy) (unlike true sz) product_is.size recip_is.size 0 product_is.has recip_is.has (mul-le-mul product_is.most recip_is.most) (lit≤ tt)

  x_square_of : Sized binary32 (mul binary32 (mul binary32 (signum v.z) v.x) v.x) (unlike (unlike sz sx) sx) D (X * X) E (D * 2)
  x_square_of = mul_near binary32 (mul binary32 (signum v.z) v.x) v.x (unlike sz sx) sx X X 1 (one_times binary32 (signum v.z) v.x sz sx X fx hx (signum_is v.z sz Z hz)) hx (bound_xx (X * X) (D * D) (E * D) sizes.0 (lit≤ tt)) (lit≤ tt)

  x_part_of : Sized binary32 (mul binary32 (mul binary32 (mul binary32 (signum v.z) v.x) v.x) (scale_of v.z)) (unlike (unlike (unlike sz sx) sx) (unlike true sz)) D (x_square_of.size * recip_is.size) E (D * 2)
  x_part_of = mul_near binary32 (mul binary32 (mul binary32 (signum v.z) v.x) v.x) (scale_of v.z) (unlike (unlike sz sx) sx) (unlike true sz) x_square_of.size recip_is.size 1 x_square_of.has recip_is.has (mul-le-mul x_square_of.most recip_is.most) (lit≤ tt)

  h_of : Signed binary32 (first_of v).x (D + 0) (0 + x_part_of.size) E D
  h_of = add_near binary32 0 (lit≤ tt) one (mul binary32 (mul binary32 (mul binary32 (signum v.z) v.x) v.x) (scale_of v.z)) false true D x_part_of.size one_is
      (subst (λ (s : Bool). Value binary32 (mul binary32 (mul binary32 (mul binary32 (signum v.z) v.x) v.x) (scale_of v.z)) s x_part_of.size) (sign_h sz sx) x_part_of.has)
      (h_low D x_part_of.size) (h_high D x_part_of.size x_part_of.most)

  y_square_of : Sized binary32 (mul binary32 v.y v.y) (unlike sy sy) D (Y * Y) E (D * 2)
  y_square_of = mul_near binary32 v.y v.y sy sy Y Y 1 hy hy (bound_xx (Y * Y) (D * D) (E * D) sizes.1.0 (lit≤ tt)) (lit≤ tt)

  y_part_of : Sized binary32 (mul binary32 (mul binary32 v.y v.y) (scale_of v.z)) (unlike (unlike sy sy) (unlike true sz)) D (y_square_of.size * recip_is.size) E (D * 2)
  y_part_of = mul_near binary32 (mul binary32 v.y v.y) (scale_of v.z) (unlike sy sy) (unlike true sz) y_square_of.size recip_is.size 1 y_square_of.has recip_is.has (mul-le-mul y_square_of.most recip_is.most) (lit≤ tt)

  k_of : Signed binary32 (second_of v).y (plus sz D + plus (not sz) y_part_of.size) (minus sz D + minus (not sz) y_part_of.size) E D
  k_of = add_near binary32 0 (lit≤ tt) (signum v.z) (mul binary32 (mul binary32 v.y v.y) (scale_of v.z)) sz (not sz) D y_part_of.size (signum_is v.z sz Z hz)
      (subst (λ (s : Bool). Value binary32 (mul binary32 (mul binary32 v.y v.y) (scale_of v.z)) s y_part_of.size) (sign_k sz sy) y_part_of.has)
      (k_low sz D y_part_of.size y_part_of.most) (k_high sz D y_part_of.size y_part_of.most)

  b_has : Value binary32 (mix_of v) (not (unlike (unlike sx sy) sz)) b_of.size
  b_has = subst (λ (s : Bool). Value binary32 (mix_of v) s b_of.size) (sign_b (unlike sx sy) sz) b_of.has

  roundings : Roundings D E X Y Z sum_is.size recip_is.size x_square_of.size x_part_of.size y_square_of.size y_part_of.size product_is.size b_of.size
      (plus h_of.sign h_of.size) (minus h_of.sign h_of.size) (plus (unlike sz k_of.sign) k_of.size) (minus (unlike sz k_of.sign) k_of.size)
  roundings = record {
    small = lit≤ tt;
    some = pow_pos 149;
    long = long;
    turn = sum_is.near;
    recip = recip_is.near;
    recip_le = recip_is.most;
    x_square = x_square_of.near;
    x_part = x_part_of.near;
    h_is = h_near h_of.sign h_of.size x_part_of.size D E h_of.near;
    h_le = le_trans (le_of_eq (both_parts h_of.sign h_of.size)) h_of.most;
    h_one = one_part h_of.sign h_of.size;
    y_square = y_square_of.near;
    y_part = y_part_of.near;
    k_is = k_near sz k_of.sign k_of.size y_part_of.size D E k_of.near;
    k_le = le_trans (le_of_eq (both_parts (unlike sz k_of.sign) k_of.size)) k_of.most;
    k_one = one_part (unlike sz k_of.sign) k_of.size;
    product = product_is.near;
    b_is = b_of.near;
    b_le = b_of.most;
  }

  pub pair_is : PairValues v sx sy sz X Y Z
  pair_is = record {
    sh = h_of.sign;
    h = h_of.size;
    sk = unlike sz k_of.sign;
    k = k_of.size;
    b = b_of.size;
    first_x_is = h_of.has;
    first_y_is = subst (λ (s : Bool). Value binary32 (first_of v).y s b_of.size) (sign_b1 (unlike sx sy) sz)
        (one_times binary32 (signum v.z) (mix_of v) sz (not (unlike (unlike sx sy) sz)) b_of.size (mul-fits binary32 (mul binary32 v.x v.y) (scale_of v.z)) b_has (signum_is v.z sz Z hz));
    first_z_is = subst (λ (s : Bool). Value binary32 (first_of v).z s X) (sign_x1 sz sx) (one_times binary32 (neg (signum v.z)) v.x (not sz) sx X fx hx (neg_value binary32 (signum v.z) sz D (signum_is v.z sz Z hz)));
    second_x_is = b_has;
    second_y_is = subst (λ (s : Bool). Value binary32 (second_of v).y s k_of.size) (sign_twice sz k_of.sign) k_of.has;
    second_z_is = neg_value binary32 v.y sy Y hy;
    h_le = h_of.most;
    k_le = k_of.most;
    b_le = b_of.most;
    facts_of = facts roundings;
  }
