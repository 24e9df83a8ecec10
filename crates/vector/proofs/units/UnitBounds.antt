-- The unit bound over plain numbers: no float is named here. D is the size of 1; X, Y, Z are the components of a vector, L is its computed squared
-- length, M the rounded root of L, R the rounded reciprocal of M; and U, W, N are the rounded products of X, Y, Z with R. Assumes nothing.
use mathlib.Core.Path.{◌≡◌, refl, sym, subst}
use mathlib.Core.List.{[], ◌∷◌}
use Prim.Native.Nat.{ℕ, ◌+◌, ◌-◌, ◌*◌, ◌^◌, ◌≤◌, ◌<◌}
use native.Mathlib.Nat.{lt_of_lt_of_le, mul-le-mul, mul-le-mul_left, mul-le-mul_right, mul-pos, le_of_mul-le-mul_right}
use native.Mathlib.Omega.{arith}
use lib.Dec.{lit<}
use Rattle.laws.specs.Within.{Within}
use Rattle.laws.proofs.solvers.Ring.{var, lit, ◌⊕◌, ◌⊗◌}
use Rattle.laws.proofs.solvers.RingNat.{ring}
use Rattle.laws.proofs.solvers.Certificates.{by, done, cert_times}
use Rattle.laws.proofs.numbers.WholeRootLaws.{square_le}
use Rattle.vector.proofs.errors.SquaredLengthBounds.{Q, Rounds, rounds_under, in_x, in_y, in_z}

-- ---- the root and the reciprocal: x is R²S, y is R²LD, z is (RM)², e is D⁴
unit_low : (x y z e : ℕ) → (Q - 7) * y ≤ Q * x → (Q - 2) * z ≤ Q * y → (Q - 1) * (Q - 1) * e ≤ Q * Q * z → (Q - 12) * e ≤ Q * x
unit_low x y z e h k l =
    cert_times (Q * Q * Q) (x ∷ y ∷ z ∷ e ∷ []) (lit (Q - 12) ⊗ var 3) (lit Q ⊗ var 0)
    (by (lit (Q * Q * Q)) (lit (Q - 7) ⊗ var 1) (lit Q ⊗ var 0) h
    (by (lit (Q * Q * (Q - 7))) (lit (Q - 2) ⊗ var 2) (lit Q ⊗ var 1) k
    (by (lit ((Q - 7) * (Q - 2))) (lit ((Q - 1) * (Q - 1)) ⊗ var 3) (lit (Q * Q) ⊗ var 2) l done)))
    (lit< tt) tt

unit_high : (x y z e : ℕ) → Q * x ≤ (Q + 7) * y → Q * y ≤ (Q + 2) * z → Q * Q * z ≤ (Q + 1) * (Q + 1) * e → Q * x ≤ (Q + 12) * e
unit_high x y z e h k l =
    cert_times (Q * Q * Q) (x ∷ y ∷ z ∷ e ∷ []) (lit Q ⊗ var 0) (lit (Q + 12) ⊗ var 3)
    (by (lit (Q * Q * Q)) (lit Q ⊗ var 0) (lit (Q + 7) ⊗ var 1) h
    (by (lit (Q * Q * (Q + 7))) (lit Q ⊗ var 1) (lit (Q + 2) ⊗ var 2) k
    (by (lit ((Q + 7) * (Q + 2))) (lit (Q * Q) ⊗ var 2) (lit ((Q + 1) * (Q + 1)) ⊗ var 3) l done)))
    (lit< tt) tt

module _ (D L M R : ℕ) (root : Within (M * M * Q) (L * D * Q) (2 * (M * M))) (recip : Within (R * M * Q) (D * D * Q) (D * D)) where
  recip_high : Q * Q * (R * M * (R * M)) ≤ (Q + 1) * (Q + 1) * (D * D * (D * D))
  recip_high = let h : R * M * Q ≤ (Q + 1) * (D * D) = omega (arith, recip.0) in omega (arith, mul-le-mul h h)

  recip_low : (Q - 1) * (Q - 1) * (D * D * (D * D)) ≤ Q * Q * (R * M * (R * M))
  recip_low = let h : (Q - 1) * (D * D) ≤ R * M * Q = omega (arith, recip.1) in omega (arith, mul-le-mul h h)

  root_high : Q * (R * R * (L * D)) ≤ (Q + 2) * (R * M * (R * M))
  root_high = omega (arith, mul-le-mul_left (R * R) root.1)

  root_low : (Q - 2) * (R * M * (R * M)) ≤ Q * (R * R * (L * D))
  root_low = omega (arith, mul-le-mul_left (R * R) root.0)

  pub product_low : (S : ℕ) → (Q - 7) * (L * D) ≤ Q * S → (Q - 12) * (D * D * (D * D)) ≤ Q * (R * R * S)
  product_low S h = unit_low (R * R * S) (R * R * (L * D)) (R * M * (R * M)) (D * D * (D * D)) (spread (mul-le-mul_left (R * R) h)) root_low recip_low
    where
      spread : R * R * ((Q - 7) * (L * D)) ≤ R * R * (Q * S) → (Q - 7) * (R * R * (L * D)) ≤ Q * (R * R * S)
      spread h = omega arith

  pub product_high : (S : ℕ) → Q * S ≤ (Q + 7) * (L * D) → Q * (R * R * S) ≤ (Q + 12) * (D * D * (D * D))
  product_high S h = unit_high (R * R * S) (R * R * (L * D)) (R * M * (R * M)) (D * D * (D * D)) (spread (mul-le-mul_left (R * R) h)) root_high recip_high
    where
      spread : R * R * (Q * S) ≤ R * R * ((Q + 7) * (L * D)) → Q * (R * R * S) ≤ (Q + 7) * (R * R * (L * D))
      spread h = omega arith

-- ---- one component: b is X R, w is b / d rounded
pub part_small : (D R X S : ℕ) → X * X ≤ S → Q * (R * R * S) ≤ (Q + 12) * (D * D * (D * D)) → X * R ≤ 2 * (D * D)
part_small D R X S h k = square_le (X * R) (2 * (D * D)) (omega (arith, mul-le-mul_left (R * R) h))

part_high : (b w d : ℕ) → Rounds w b d → b ≤ 2 * (d * d)
    → Q * Q * (d * d * (w * w)) ≤ (Q + 1) * (Q + 1) * (b * b) + 2 * (Q + 1) * Q * (d * d * d) + 2 ^ 46 * (d * d)
part_high b w d h g = omega (arith, mul-le-mul h.0 h.0, mul-le-mul_right d g)

part_low : (b w d : ℕ) → Rounds w b d → w ≤ 3 * d
    → (Q - 1) * (Q - 1) * (b * b) ≤ Q * Q * (d * d * (w * w)) + 3 * Q * Q * (d * d * d) + 2 ^ 46 * (d * d)
part_low b w d h g =
    let n = h.1 in
    let k : (Q - 1) * b ≤ w * d * Q + d * 2 ^ 23 = omega arith in
    omega (arith, mul-le-mul k k, mul-le-mul_right (d * d) g)

-- ---- the three together: x is R²S, v the sum of D²W², e is D⁴, c is D³, q is D²
all_high : (x v c e q : ℕ) → Q * Q * v ≤ (Q + 1) * (Q + 1) * x + 6 * (Q + 1) * Q * c + 3 * 2 ^ 46 * q → Q * x ≤ (Q + 12) * e → 2 ^ 60 * c ≤ e → q ≤ c → Q * v ≤ (Q + 15) * e
all_high x v c e q h k g l =
    cert_times (Q * Q) (x ∷ v ∷ c ∷ e ∷ q ∷ []) (lit Q ⊗ var 1) (lit (Q + 15) ⊗ var 3)
    (by (lit Q) (lit (Q * Q) ⊗ var 1) (lit ((Q + 1) * (Q + 1)) ⊗ var 0 ⊕ lit (6 * (Q + 1) * Q) ⊗ var 2 ⊕ lit (3 * 2 ^ 46) ⊗ var 4) h
    (by (lit ((Q + 1) * (Q + 1))) (lit Q ⊗ var 0) (lit (Q + 12) ⊗ var 3) k
    (by (lit (2 ^ 16)) (lit (2 ^ 60) ⊗ var 2) (var 3) g
    (by (lit (3 * 2 ^ 70)) (var 4) (var 2) l done))))
    (lit< tt) tt

all_low : (x v c e q : ℕ) → (Q - 1) * (Q - 1) * x ≤ Q * Q * v + 9 * Q * Q * c + 3 * 2 ^ 46 * q → (Q - 12) * e ≤ Q * x → 2 ^ 60 * c ≤ e → q ≤ c → (Q - 15) * e ≤ Q * v
all_low x v c e q h k g l =
    cert_times (Q * Q) (x ∷ v ∷ c ∷ e ∷ q ∷ []) (lit (Q - 15) ⊗ var 3) (lit Q ⊗ var 1)
    (by (lit Q) (lit ((Q - 1) * (Q - 1)) ⊗ var 0) (lit (Q * Q) ⊗ var 1 ⊕ lit (9 * Q * Q) ⊗ var 2 ⊕ lit (3 * 2 ^ 46) ⊗ var 4) h
    (by (lit ((Q - 1) * (Q - 1))) (lit (Q - 12) ⊗ var 3) (lit Q ⊗ var 0) k
    (by (lit (2 ^ 16)) (lit (2 ^ 60) ⊗ var 2) (var 3) g
    (by (lit (3 * 2 ^ 70)) (var 4) (var 2) l done))))
    (lit< tt) tt

module _ (D X Y Z R : ℕ) (wide : 2 ^ 60 ≤ D)
    (lo : (Q - 12) * (D * D * (D * D)) ≤ Q * (R * R * (X * X + Y * Y + Z * Z)))
    (hi : Q * (R * R * (X * X + Y * Y + Z * Z)) ≤ (Q + 12) * (D * D * (D * D)))
    (U W N : ℕ) (u_near : Rounds U (X * R) D) (w_near : Rounds W (Y * R) D) (n_near : Rounds N (Z * R) D) where
  D-pos : 0 < D
  D-pos = lt_of_lt_of_le (lit< tt) wide

  x_small : X * R ≤ 2 * (D * D)
  x_small = part_small D R X (X * X + Y * Y + Z * Z) (in_x (X * X) (Y * Y) (Z * Z)) hi

  y_small : Y * R ≤ 2 * (D * D)
  y_small = part_small D R Y (X * X + Y * Y + Z * Z) (in_y (X * X) (Y * Y) (Z * Z)) hi

  z_small : Z * R ≤ 2 * (D * D)
  z_small = part_small D R Z (X * X + Y * Y + Z * Z) (in_z (X * X) (Y * Y) (Z * Z)) hi

  cube_small : 2 ^ 60 * (D * D * D) ≤ D * D * (D * D)
  cube_small = omega (arith, mul-le-mul_right (D * D * D) wide)

  square_small : D * D ≤ D * D * D
  square_small = omega (arith, mul-le-mul_right (D * D) D-pos)

  abbrev scaled : ℕ
  scaled = D * D * (U * U) + D * D * (W * W) + D * D * (N * N)

  parts : R * R * (X * X + Y * Y + Z * Z) ≡ X * R * (X * R) + Y * R * (Y * R) + Z * R * (Z * R)
  parts =
      ring (X ∷ Y ∷ Z ∷ R ∷ []) (var 3 ⊗ var 3 ⊗ (var 0 ⊗ var 0 ⊕ var 1 ⊗ var 1 ⊕ var 2 ⊗ var 2))
      (var 0 ⊗ var 3 ⊗ (var 0 ⊗ var 3) ⊕ var 1 ⊗ var 3 ⊗ (var 1 ⊗ var 3) ⊕ var 2 ⊗ var 3 ⊗ (var 2 ⊗ var 3)) refl

  three : (k l m n a b c x y z e g : ℕ) → k * a ≤ l * x + m * e + n * g → k * b ≤ l * y + m * e + n * g → k * c ≤ l * z + m * e + n * g
      → k * (a + b + c) ≤ l * (x + y + z) + 3 * m * e + 3 * n * g
  three k l m n a b c x y z e g h i j = omega arith

  scaled_high : Q * scaled ≤ (Q + 15) * (D * D * (D * D))
  scaled_high =
      all_high (R * R * (X * X + Y * Y + Z * Z)) scaled (D * D * D) (D * D * (D * D)) (D * D)
      (subst (λ (x : ℕ). Q * Q * scaled ≤ (Q + 1) * (Q + 1) * x + 6 * (Q + 1) * Q * (D * D * D) + 3 * 2 ^ 46 * (D * D)) (sym parts)
      (three (Q * Q) ((Q + 1) * (Q + 1)) (2 * (Q + 1) * Q) (2 ^ 46) (D * D * (U * U)) (D * D * (W * W)) (D * D * (N * N)) (X * R * (X * R)) (Y * R * (Y * R)) (Z * R * (Z * R)) (D * D * D) (D * D)
      (part_high (X * R) U D u_near x_small) (part_high (Y * R) W D w_near y_small) (part_high (Z * R) N D n_near z_small)))
      hi cube_small square_small

  scaled_low : (Q - 15) * (D * D * (D * D)) ≤ Q * scaled
  scaled_low =
      all_low (R * R * (X * X + Y * Y + Z * Z)) scaled (D * D * D) (D * D * (D * D)) (D * D)
      (subst (λ (x : ℕ). (Q - 1) * (Q - 1) * x ≤ Q * Q * scaled + 9 * Q * Q * (D * D * D) + 3 * 2 ^ 46 * (D * D)) (sym parts)
      (three ((Q - 1) * (Q - 1)) (Q * Q) (3 * Q * Q) (2 ^ 46) (X * R * (X * R)) (Y * R * (Y * R)) (Z * R * (Z * R)) (D * D * (U * U)) (D * D * (W * W)) (D * D * (N * N)) (D * D * D) (D * D)
      (part_low (X * R) U D u_near (rounds_under D (X * R) U D-pos u_near x_small))
      (part_low (Y * R) W D w_near (rounds_under D (Y * R) W D-pos w_near y_small))
      (part_low (Z * R) N D n_near (rounds_under D (Z * R) N D-pos n_near z_small))))
      lo cube_small square_small

  -- the exact squared length of U, W, N is within 15 parts in 2 ^ 24 of D²
  pub length_high : Q * (U * U + W * W + N * N) ≤ (Q + 15) * (D * D)
  length_high = le_of_mul-le-mul_right (turn scaled_high) (mul-pos D-pos D-pos)
    where
      turn : Q * scaled ≤ (Q + 15) * (D * D * (D * D)) → Q * (U * U + W * W + N * N) * (D * D) ≤ (Q + 15) * (D * D) * (D * D)
      turn h = omega arith

  pub length_low : (Q - 15) * (D * D) ≤ Q * (U * U + W * W + N * N)
  length_low = le_of_mul-le-mul_right (turn scaled_low) (mul-pos D-pos D-pos)
    where
      turn : (Q - 15) * (D * D * (D * D)) ≤ Q * scaled → (Q - 15) * (D * D) * (D * D) ≤ Q * (U * U + W * W + N * N) * (D * D)
      turn h = omega arith
