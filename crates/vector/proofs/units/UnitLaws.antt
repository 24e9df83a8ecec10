-- What `try_normalize` makes of a vector whose computed squared length is at least 2^-126: its exact squared length is within 15 times 2^-24 of 1. Assumes nothing.
use mathlib.Core.Path.{◌≡◌, sym, subst}
use mathlib.Core.Bool.{Bool, true, false, not}
use Prim.Native.Nat.{ℕ, ◌+◌, ◌-◌, ◌*◌, ◌^◌, ◌≤◌}
use native.Mathlib.Nat.{lt_of_lt_of_le, mul-le-mul_right}
use native.Mathlib.Omega.{arith}
use lib.Dec.{T, ltb→lt, lit≤, lit<}
use lib.Pow.{pow_pos}
use lib.Ieee.{Float, nan, inf, fin, binary32, unlike, fits, mul}
use lib.Ieee.Fits.{mul-fits}
use lib.Ieee.Positive.{positive, positive_of_value}
use lib.Ieee.Scale.{finite}
use Rattle.std.specs.Prelude.{Some}
use Rattle.laws.specs.Exact.{negative, size_in}
use Rattle.laws.specs.Within.{Within}
use Rattle.laws.proofs.numbers.BoolLaws.{not_zero}
use Rattle.laws.proofs.values.ValueLaws.{Value, value_finite}
use Rattle.laws.proofs.values.SizeLaws.{size_of_value, value_of_size, positive_size}
use Rattle.laws.proofs.operations.OperationLaws.{mul_at}
use Rattle.laws.proofs.rounding.ErrorLaws.{rounded, rounded_value, rounded_error}
use Rattle.scalar.specs.Root.{root}
use Rattle.scalar.proofs.roots.RootErrorLaws.{root_near}
use Rattle.vector.specs.declared.vec3.Vec3.{Vec3}
use Rattle.vector.specs.Operators.{mul_number}
use Rattle.vector.specs.Products.{length, length_squared, length_recip}
use Rattle.vector.specs.Normalizing.{try_normalize}
use Rattle.vector.specs.NormalizingMeaning.{zero_infinite_or_nan}
use Rattle.vector.specs.ExactVectors.{F32Vec, FiniteVec, UnitWithin, exact_square}
use Rattle.vector.proofs.values.SignedVectors.{D}
use Rattle.vector.proofs.errors.SquaredLengthLaws.{squared_fits, squared_sign}
use Rattle.vector.proofs.errors.SquaredLengthBounds.{Q, Rounds, in_x, in_y, in_z, squared_low, squared_high}
use Rattle.vector.proofs.errors.SquaredLengthErrors.{squared_value, components_finite, length_parts}
use Rattle.vector.proofs.errors.ReciprocalErrors.{recip_value, recip_near}
use Rattle.vector.proofs.meanings.NormalizingLaws.{none_exactly}
use Rattle.vector.proofs.units.UnitBounds.{product_low, product_high, part_small, length_low, length_high}

-- a vector times the reciprocal of its length
abbrev pub unit_of : Vec3 → Vec3
unit_of a = mul_number a (length_recip a)

pub positive_some : (x : Float) → T (positive x) → T (not (zero_infinite_or_nan x))
positive_some nan p = absurd p
positive_some (inf s) p = absurd p
positive_some (fin true m e) p = absurd p
positive_some (fin false m e) p = subst (λ (b : Bool). T (not b)) (sym (not_zero m (ltb→lt 0 m p))) tt

-- ---- a component of the direction: x times r, where the exact square of the product stays near 1
part_value : (x r : Float) (s : Bool) (X R S : ℕ) → Value binary32 x s X → Value binary32 r false R → X * X ≤ S → Q * (R * R * S) ≤ (Q + 12) * (D * D * (D * D))
    → Value binary32 (mul binary32 x r) (unlike s false) (rounded binary32 (X * R) D)
part_value x r s X R S h k g b = rounded_value binary32 (X * R) D 1 (pow_pos 149) (part_small D R X S g b) (mul binary32 x r) (unlike s false) (lit≤ tt) (mul_at binary32 x r s false X R h k)

narrow : (S F : ℕ) → Q * S ≤ (Q + 15) * (Q * F) → (Q - 15) * (Q * F) ≤ Q * S → Within S (Q * F) (15 * F)
narrow S F h k = omega arith

-- a squared length of 2 ^ 23 smallest values or more: the loss of a square that vanishes is small beside it
module _ (a : Vec3) (v : F32Vec a) (number : T (finite (length_squared a))) (enough : 2 ^ 23 ≤ size_in binary32 (length_squared a)) where
  -- the squared length, and its size
  abbrev l : Float
  l = length_squared a

  abbrev L : ℕ
  L = size_in binary32 l

  large : 2 ^ 23 * D ≤ L * D
  large = mul-le-mul_right D enough

  squared_positive : T (positive l)
  squared_positive = positive_of_value l L D (squared_value a number) (lt_of_lt_of_le (lit< tt) enough)

  -- the reciprocal of the length, and its size
  abbrev r : Float
  r = length_recip a

  abbrev R : ℕ
  R = size_in binary32 r

  abbrev M : ℕ
  M = size_in binary32 (root l)

  r_value : Value binary32 r false R
  unfolding length_recip length length_squared
  r_value = recip_value l (squared_fits a) squared_positive

  r_near : Within (R * M * Q) (D * D * Q) (D * D)
  unfolding length_recip length length_squared
  r_near = recip_near l (squared_fits a) squared_positive

  m_near : Within (M * M * Q) (L * D * Q) (2 * (M * M))
  m_near = root_near l (squared_fits a) number (squared_sign a) (positive_size binary32 l (squared_fits a) squared_positive)

  -- the exact squared length of a, times R²
  abbrev size : Float → ℕ
  size c = size_in binary32 c

  low : (Q - 12) * (D * D * (D * D)) ≤ Q * (R * R * exact_square a)
  low = product_low D L M R m_near r_near (exact_square a) (squared_low D (size a.x) (size a.y) (size a.z) L (length_parts a v number) large)

  high : Q * (R * R * exact_square a) ≤ (Q + 12) * (D * D * (D * D))
  high = product_high D L M R m_near r_near (exact_square a) (squared_high D (size a.x) (size a.y) (size a.z) L (length_parts a v number) large)

  -- the components of the direction
  abbrev part : Float → ℕ
  part c = rounded binary32 (size c * R) D

  component : (c : Float) → T (fits binary32 c) → T (finite c) → size c * size c ≤ exact_square a → Value binary32 (mul binary32 c r) (unlike (negative c) false) (part c)
  component c f t h = part_value c r (negative c) (size c) R (exact_square a) (value_of_size binary32 c f t) r_value h high

  numbers : FiniteVec a
  numbers = components_finite a number

  x_value : Value binary32 (mul binary32 a.x r) (unlike (negative a.x) false) (part a.x)
  x_value = component a.x v.f32_x numbers.finite_x (in_x (size a.x * size a.x) (size a.y * size a.y) (size a.z * size a.z))

  y_value : Value binary32 (mul binary32 a.y r) (unlike (negative a.y) false) (part a.y)
  y_value = component a.y v.f32_y numbers.finite_y (in_y (size a.x * size a.x) (size a.y * size a.y) (size a.z * size a.z))

  z_value : Value binary32 (mul binary32 a.z r) (unlike (negative a.z) false) (part a.z)
  z_value = component a.z v.f32_z numbers.finite_z (in_z (size a.x * size a.x) (size a.y * size a.y) (size a.z * size a.z))

  -- their exact squared length
  near_one : Within (part a.x * part a.x + part a.y * part a.y + part a.z * part a.z) (2 ^ 298) (15 * 2 ^ 274)
  near_one =
      narrow (part a.x * part a.x + part a.y * part a.y + part a.z * part a.z) (2 ^ 274)
      (length_high D (size a.x) (size a.y) (size a.z) R (lit≤ tt) low high (part a.x) (part a.y) (part a.z) (error a.x) (error a.y) (error a.z))
      (length_low D (size a.x) (size a.y) (size a.z) R (lit≤ tt) low high (part a.x) (part a.y) (part a.z) (error a.x) (error a.y) (error a.z))
    where
      error : (c : Float) → Rounds (part c) (size c * R) D
      error c = rounded_error binary32 (size c * R) D (pow_pos 149)

  size_is : (c : Float) → Value binary32 (mul binary32 c r) (unlike (negative c) false) (part c) → size (mul binary32 c r) ≡ part c
  size_is c h = (size_of_value binary32 (mul binary32 c r) (unlike (negative c) false) (part c) h).0

  pub normalized_unit : UnitWithin 15 (unit_of a)
  unfolding mul_number
  normalized_unit = record {
    values = record { f32_x = mul-fits binary32 a.x r; f32_y = mul-fits binary32 a.y r; f32_z = mul-fits binary32 a.z r };
    numbers = record {
      finite_x = value_finite (mul binary32 a.x r) (unlike (negative a.x) false) (part a.x) D x_value;
      finite_y = value_finite (mul binary32 a.y r) (unlike (negative a.y) false) (part a.y) D y_value;
      finite_z = value_finite (mul binary32 a.z r) (unlike (negative a.z) false) (part a.z) D z_value;
    };
    near = rw (size_is a.x x_value, size_is a.y y_value, size_is a.z z_value) near_one;
  }

  pub normalized_is : try_normalize a ≡ Some (unit_of a)
  normalized_is = (none_exactly a).unit (positive_some l squared_positive)
