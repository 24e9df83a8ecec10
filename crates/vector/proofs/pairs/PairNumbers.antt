-- From the roundings of the pair's formulas to what holds of the pair, in whole numbers. 1 is d, a rounding's error is e. Assumes nothing.
use mathlib.Core.Path.{subst}
use Prim.Native.Nat.{ℕ, ◌+◌, ◌*◌, ◌≤◌, ◌<◌}
use native.Mathlib.Nat.{le_trans, le_of_eq, mul_comm, add_comm, mul-pos}
use native.Mathlib.Omega.{arith}
use Rattle.laws.specs.Within.{Within}
use Rattle.vector.proofs.values.ComponentSizes.{size_le, twice_product, parts_of}
use Rattle.vector.proofs.pairs.PairProducts.{turned, along, doubled, first, second}
use Rattle.vector.proofs.pairs.PairDotCertificates.{normal_first, first_second, first_length}

-- ---- what the roundings say, of the whole pair
pub record Roundings (d e x y z t α p γ q ε o b hp hm kp km : ℕ) : Type 0 where
  pub small : 100000 * e ≤ d
  pub some : 0 < d
  pub long : Within (x * x + y * y + z * z) (d * d) (64 * (e * d))
  -- the reciprocal α of 1 + z
  pub turn : Within t (d + z) (2 * e)
  pub recip : Within (α * t) (d * d) (e * t)
  pub recip_le : α ≤ d
  -- h = 1 - x² α
  pub x_square : Within (p * d) (x * x) (e * d)
  pub x_part : Within (γ * d) (p * α) (e * d)
  pub h_is : Within (hp + γ) (d + hm) e
  pub h_le : hp + hm ≤ d
  pub h_one : hp * hm ≤ 0
  -- k = 1 - y² α
  pub y_square : Within (q * d) (y * y) (e * d)
  pub y_part : Within (ε * d) (q * α) (e * d)
  pub k_is : Within (kp + ε) (d + km) e
  pub k_le : kp + km ≤ d
  pub k_one : kp * km ≤ 0
  -- b = x y α
  pub product : Within (o * d) (x * y) (e * d)
  pub b_is : Within (b * d) (o * α) (e * d)
  pub b_le : b ≤ d

-- ---- and what follows of the pair (h, -b, -x), (-b, k, -y)
pub record Facts (d e x y z b hp hm kp km : ℕ) : Type 0 where
  pub normal1 : Within (x * hp) (y * b + z * x + x * hm) (76 * (e * d))
  pub normal2 : Within (y * kp) (x * b + z * y + y * km) (76 * (e * d))
  pub across : Within (b * (hp + kp)) (x * y + b * (hm + km)) (88 * (e * d))
  pub length1 : Within (hp * hp + hm * hm + b * b + x * x) (d * d) (90 * (e * d))
  pub length2 : Within (kp * kp + km * km + b * b + y * y) (d * d) (90 * (e * d))
  pub x_le : x ≤ d + 32 * e
  pub y_le : y ≤ d + 32 * e
  pub z_le : z ≤ d + 32 * e

add_pos : (d z : ℕ) → 0 < d → 0 < d + z
add_pos d z h = omega arith

pub facts : {d e x y z t α p γ q ε o b hp hm kp km : ℕ} → Roundings d e x y z t α p γ q ε o b hp hm kp km → Facts d e x y z b hp hm kp km
facts {d} {e} {x} {y} {z} {t} {α} {p} {γ} {q} {ε} {o} {b} {hp} {hm} {kp} {km} r =
    let sizes = parts_of (x * x) (y * y) (z * z) (d * d + 64 * (e * d)) r.long.0 in
    let X : x ≤ d + 32 * e = size_le d e x sizes.0 in
    let Y : y ≤ d + 32 * e = size_le d e y sizes.1.0 in
    let Z : z ≤ d + 32 * e = size_le d e z sizes.1.1.0 in
    let S : x * x + y * y ≤ d * d + 64 * (e * d) = sizes.1.1.1 in
    let long' : Within (y * y + x * x + z * z) (d * d) (64 * (e * d)) = subst (λ (v : ℕ). Within (v + z * z) (d * d) (64 * (e * d))) (add_comm (x * x) (y * y)) r.long in
    let S' : y * y + x * x ≤ d * d + 64 * (e * d) = le_trans (le_of_eq (add_comm (y * y) (x * x))) S in
    let product' : Within (o * d) (y * x) (e * d) = subst (λ (v : ℕ). Within (o * d) v (e * d)) (mul_comm x y) r.product in
    let c0 = turned d e z t α r.small r.turn r.recip Z r.recip_le in
    let c1 = along d e z α (x * x + y * y) r.small c0 r.long (add_pos d z r.some) in
    let c1' = along d e z α (y * y + x * x) r.small c0 long' (add_pos d z r.some) in
    let c2 = doubled d e z α (x * x + y * y) c0 c1 r.recip_le in
    let c2' = doubled d e z α (y * y + x * x) c0 c1' r.recip_le in
    let f1 = first d e α x p γ hp hm r.recip_le r.x_square r.x_part r.h_is in
    let f3 = first d e α y q ε kp km r.recip_le r.y_square r.y_part r.k_is in
    let f2 = second d e α x y o b r.recip_le r.product r.b_is in
    let f2' = second d e α y x o b r.recip_le product' r.b_is in
    let D2 : 0 < d * d = mul-pos r.some r.some in
    let D4 : 0 < d * d * d * d = mul-pos (mul-pos D2 r.some) r.some in
    record {
      normal1 = normal_first d e x y z α b hp hm r.small X Y f1 f2 c1 D2;
      normal2 = normal_first d e y x z α b kp km r.small Y X f3 f2' c1' D2;
      across = first_second d e x y α b hp hm kp km r.small r.recip_le r.b_le (twice_product x y) S f1 f2 f3 c2 D4;
      length1 = first_length d e x y α b hp hm r.small r.recip_le r.b_le r.h_le r.h_one (twice_product x y) S f1 f2 c2 D4;
      length2 = first_length d e y x α b kp km r.small r.recip_le r.b_le r.k_le r.k_one (twice_product y x) S' f3 f2' c2' D4;
      x_le = X;
      y_le = Y;
      z_le = Z;
    }
