-- A vector whose computed squared length is 7/8 to 2 has a largest size of at least 1/2 and below 2, so that scaling leaves its direction as it is. Assumes nothing.
use mathlib.Core.Bool.{Bool, true, false, not}
use Prim.Native.Nat.{ℕ, ◌+◌, ◌-◌, ◌*◌, ◌^◌, ◌≤◌, ◌<◌}
use native.Mathlib.Nat.{le_trans, le_of_lt, lt_of_not-le, not-le_of_lt, add-le-add, mul-le-mul, mul-le-mul_left, mul-le-mul_right}
use native.Mathlib.Omega.{arith}
use lib.Dec.{T, leb, leb→le, nleb→lt, lit≤, lit<}
use lib.Ieee.{binary32}
use lib.Ieee.Scale.{finite}
use Rattle.laws.specs.Exact.{size_in}
use Rattle.scalar.specs.Powers.{larger}
use Rattle.vector.specs.declared.vec3.Vec3.{Vec3}
use Rattle.vector.specs.Products.{length_squared}
use Rattle.vector.specs.ExactVectors.{F32Vec, exact_square}
use Rattle.vector.specs.Scaled.{largest}
use Rattle.vector.specs.NumericLaws.{Unscaled}
use Rattle.vector.proofs.values.SignedVectors.{D}
use Rattle.vector.proofs.errors.SquaredLengthBounds.{Q, squared_low, squared_high}
use Rattle.vector.proofs.errors.SquaredLengthErrors.{components_finite, length_parts}
use Rattle.vector.proofs.kept.KeptDirections.{law_unscaled}

module _ (a : Vec3) (v : F32Vec a) (t : T (finite (length_squared a))) (lo : 7 * 2 ^ 146 ≤ size_in binary32 (length_squared a)) (hi : size_in binary32 (length_squared a) ≤ 2 ^ 150) where
  abbrev X : ℕ
  X = size_in binary32 a.x

  abbrev Y : ℕ
  Y = size_in binary32 a.y

  abbrev Z : ℕ
  Z = size_in binary32 a.z

  abbrev L : ℕ
  L = size_in binary32 (length_squared a)

  enough : 2 ^ 23 * D ≤ L * D
  enough = let h : 2 ^ 23 ≤ L = le_trans (lit≤ tt) lo in mul-le-mul_right D h

  low : (Q - 7) * (L * D) ≤ Q * exact_square a
  low = squared_low D X Y Z L (length_parts a v t) enough

  high : Q * exact_square a ≤ (Q + 7) * (L * D)
  high = squared_high D X Y Z L (length_parts a v t) enough

  -- three components below 1/2 would be too short
  some_half : 2 ^ 148 ≤ largest a
  some_half = go (leb (2 ^ 148) (largest a)) (leb→le (2 ^ 148) (largest a)) (nleb→lt (2 ^ 148) (largest a))
    where
      squares : (m : ℕ) → m ≤ largest a → largest a < 2 ^ 148 → m * m ≤ 2 ^ 296
      squares m h k = let l : m ≤ 2 ^ 148 = le_trans h (le_of_lt k) in mul-le-mul l l

      go : (b : Bool) → (T b → 2 ^ 148 ≤ largest a) → (T (not b) → largest a < 2 ^ 148) → 2 ^ 148 ≤ largest a
      go true h k = h tt
      go false h k =
          let s : exact_square a ≤ 3 * 2 ^ 296 = le_trans (add-le-add (add-le-add (squares X (omega arith) (k tt)) (squares Y (omega arith) (k tt))) (squares Z (omega arith) (k tt))) (lit≤ tt) in
          let l : (Q - 7) * (7 * 2 ^ 146 * D) ≤ Q * (3 * 2 ^ 296) = le_trans (mul-le-mul_left (Q - 7) (mul-le-mul_right D lo)) (le_trans low (mul-le-mul_left Q s)) in
          absurd (not-le_of_lt (lit< {m = Q * (3 * 2 ^ 296)} {n = (Q - 7) * (7 * 2 ^ 146 * D)} tt) l)

  -- and a component of 2 too long
  short : (m : ℕ) → m * m ≤ exact_square a → m < 2 ^ 150
  short m h =
      lt_of_not-le (λ (g : 2 ^ 150 ≤ m).
      let l : Q * 2 ^ 300 ≤ (Q + 7) * (2 ^ 150 * D) = le_trans (mul-le-mul_left Q (le_trans (mul-le-mul g g) h)) (le_trans high (mul-le-mul_left (Q + 7) (mul-le-mul_right D hi))) in
      not-le_of_lt (lit< {m = (Q + 7) * (2 ^ 150 * D)} {n = Q * 2 ^ 300} tt) l)

  under_two : largest a < 2 ^ 150
  under_two = top X Y Z (2 ^ 150) (short X (first (X * X) (Y * Y) (Z * Z))) (short Y (second (X * X) (Y * Y) (Z * Z))) (short Z (third (X * X) (Y * Y) (Z * Z)))
    where
      top : (x y z p : ℕ) → x < p → y < p → z < p → larger x (larger y z) < p
      top x y z p h k l = omega arith

      first : (x y z : ℕ) → x ≤ x + y + z
      first x y z = omega arith

      second : (x y z : ℕ) → y ≤ x + y + z
      second x y z = omega arith

      third : (x y z : ℕ) → z ≤ x + y + z
      third x y z = omega arith

  pub kept : Unscaled a
  kept = law_unscaled a v (components_finite a t) some_half under_two
