-- U: a finite vector with a component that is not zero, scaled, has a largest size of at least 1 and below 2, and so a direction, whose exact squared length is within
-- 15 times 2^-24 of 1. Assumes nothing.
use mathlib.Core.Path.{◌≡◌, refl, sym, ap, ◌∙◌, subst}
use mathlib.Core.Bool.{Bool, false, cond}
use mathlib.Core.Logic.{◌⊎◌, inl, inr}
use Prim.Native.Nat.{ℕ, ◌*◌, ◌^◌, ◌≤◌, ◌<◌}
use native.Mathlib.Nat.{le_trans, le_of_eq, lt_of_lt_of_le, lt_of_le_of_lt, mul_comm, mul-le-mul_right, mul-lt-mul_of_pos_right, lt_of_mul-lt-mul_right, le_of_mul-le-mul_right}
use native.Mathlib.Omega.{arith}
use lib.Dec.{T, lit≤}
use lib.Pow.{pow_pos}
use lib.Ieee.{Float, binary32, fits, of_bits, le}
use lib.Ieee.Bits.{is_true}
use lib.Ieee.Scale.{finite}
use Rattle.std.specs.Prelude.{Some, None}
use Rattle.laws.specs.Exact.{negative, size_in}
use Rattle.laws.proofs.values.ValueLaws.{Value, value_finite}
use Rattle.laws.proofs.values.SizeLaws.{size_of_value, unsigned_value}
use Rattle.laws.proofs.rounding.ErrorLaws.{rounded}
use Rattle.laws.proofs.values.FiniteLaws.{between_finite}
use Rattle.laws.proofs.values.ValueOrderLaws.{le_of_sizes, le_sizes}
use Rattle.scalar.specs.Powers.{times_power, larger, log2}
use Rattle.scalar.proofs.scaling.SizeBitsLaws.{larger_by}
use Rattle.scalar.proofs.scaling.PowersMeaningLaws.{product_means, log2_low, log2_high}
use Rattle.vector.specs.declared.vec3.Vec3.{Vec3}
use Rattle.vector.specs.Vectors.{one, each}
use Rattle.vector.specs.Products.{length_squared}
use Rattle.vector.specs.Normalizing.{try_normalize}
use Rattle.vector.specs.DirectionOf.{has_direction, direction_of, direction_unchecked}
use Rattle.vector.specs.ExactVectors.{F32Vec, FiniteVec, UnitWithin}
use Rattle.vector.specs.Scaled.{largest, scaled}
use Rattle.vector.specs.NumericLaws.{LawU}
use Rattle.vector.specs.ScaledMeaning.{thirteen, BroughtToOne, LawScaled}
use Rattle.vector.specs.NeverZero.{LawUnchecked}
use Rattle.vector.proofs.values.SignedVectors.{D, one_is}
use Rattle.vector.proofs.units.UnitLaws.{normalized_is, normalized_unit}
use Rattle.vector.proofs.scaling.ScaledBits.{scaled_is}
use Rattle.vector.proofs.scaling.ScaledComponents.{part_value, part_fits, part_most, part_least, part_exact, part_bound}
use Rattle.vector.proofs.scaling.BoundedSquares.{whole, whole_least, whole_most, whole_value}
use Rattle.vector.proofs.scaling.LargestLaws.{one_of, top_of}
use Rattle.vector.proofs.scaling.ThreeZeros.{direction_numbers, direction_some}
use Rattle.vector.proofs.errors.SquaredLengthLaws.{squared_fits, squared_sign}

thirteen_is : Value binary32 thirteen false (13 * D)
unfolding of_bits
thirteen_is = (refl, refl)

module _ (a : Vec3) (v : F32Vec a) (n : FiniteVec a) (some : 0 < largest a) where
  abbrev X : ℕ
  X = size_in binary32 a.x

  abbrev Y : ℕ
  Y = size_in binary32 a.y

  abbrev Z : ℕ
  Z = size_in binary32 a.z

  -- the largest size, and its binary logarithm
  M : ℕ
  M = largest a

  j : ℕ
  j = log2 (largest a)

  lo : 2 ^ j ≤ M
  unfolding M j
  lo = log2_low (largest a) some

  hi : M < 2 ^ j * 2
  unfolding M j
  hi = log2_high (largest a) some

  x_in : X ≤ M
  unfolding M
  x_in = omega arith

  y_in : Y ≤ M
  unfolding M
  y_in = omega arith

  z_in : Z ≤ M
  unfolding M
  z_in = omega arith

  x_under : X < 2 ^ j * 2
  x_under = lt_of_le_of_lt x_in hi

  y_under : Y < 2 ^ j * 2
  y_under = lt_of_le_of_lt y_in hi

  z_under : Z < 2 ^ j * 2
  z_under = lt_of_le_of_lt z_in hi

  -- the scaled vector, and its sizes
  b : Vec3
  b = each (times_power (log2 (largest a))) a

  abbrev S : ℕ → ℕ
  S i = rounded binary32 (i * D) (2 ^ j)

  b_x : Value binary32 b.x (negative a.x) (S X)
  unfolding b j
  b_x = part_value j a.x v.f32_x n.finite_x x_under

  b_y : Value binary32 b.y (negative a.y) (S Y)
  unfolding b j
  b_y = part_value j a.y v.f32_y n.finite_y y_under

  b_z : Value binary32 b.z (negative a.z) (S Z)
  unfolding b j
  b_z = part_value j a.z v.f32_z n.finite_z z_under

  size_x : size_in binary32 b.x ≡ S X
  size_x = (size_of_value binary32 b.x (negative a.x) (S X) b_x).0

  size_y : size_in binary32 b.y ≡ S Y
  size_y = (size_of_value binary32 b.y (negative a.y) (S Y) b_y).0

  size_z : size_in binary32 b.z ≡ S Z
  size_z = (size_of_value binary32 b.z (negative a.z) (S Z) b_z).0

  -- the largest is exact
  top_exact : (S X * 2 ^ j ≡ M * D) ⊎ ((S Y * 2 ^ j ≡ M * D) ⊎ (S Z * 2 ^ j ≡ M * D))
  unfolding M
  top_exact = elim (one_of X Y Z) [
    | inl e ↦ inl (part_exact j a.x v.f32_x n.finite_x x_under (le_trans lo (le_of_eq (sym e))) ∙ ap (λ (i : ℕ). i * D) e)
    | inr q ↦ elim q [
      | inl e ↦ inr (inl (part_exact j a.y v.f32_y n.finite_y y_under (le_trans lo (le_of_eq (sym e))) ∙ ap (λ (i : ℕ). i * D) e))
      | inr e ↦ inr (inr (part_exact j a.z v.f32_z n.finite_z z_under (le_trans lo (le_of_eq (sym e))) ∙ ap (λ (i : ℕ). i * D) e))
    ]
  ]

  exact : largest b * 2 ^ j ≡ M * D
  exact =
      (λ i. larger (size_x i) (larger (size_y i) (size_z i)) * 2 ^ j)
      ∙ larger_by times mono (S X) (larger (S Y) (S Z))
      ∙ ap (λ (i : ℕ). larger (S X * 2 ^ j) i) (larger_by times mono (S Y) (S Z))
      ∙ top_of (S X * 2 ^ j) (S Y * 2 ^ j) (S Z * 2 ^ j) (M * D)
      (part_bound j a.x v.f32_x n.finite_x x_under M x_in lo) (part_bound j a.y v.f32_y n.finite_y y_under M y_in lo) (part_bound j a.z v.f32_z n.finite_z z_under M z_in lo) top_exact
    where
      times : ℕ → ℕ
      times i = i * 2 ^ j

      mono : (k l : ℕ) → k ≤ l → k * 2 ^ j ≤ l * 2 ^ j
      mono k l h = mul-le-mul_right (2 ^ j) h

  least : D ≤ largest b
  least = le_of_mul-le-mul_right (le_trans (le_of_eq (mul_comm D (2 ^ j))) (le_trans (mul-le-mul_right D lo) (le_of_eq (sym exact)))) (pow_pos j)

  below : largest b < D * 2
  below =
      lt_of_mul-lt-mul_right (2 ^ j)
      (lt_of_le_of_lt (le_of_eq exact) (lt_of_lt_of_le (mul-lt-mul_of_pos_right hi (pow_pos 149)) (le_of_eq (turn (2 ^ j) D))))
    where
      turn : (p d : ℕ) → p * 2 * d ≡ d * 2 * p
      turn p d = omega arith

  -- the squared length
  top_least : (D ≤ S X) ⊎ ((D ≤ S Y) ⊎ (D ≤ S Z))
  unfolding M
  top_least = elim (one_of X Y Z) [
    | inl e ↦ inl (part_least j a.x v.f32_x n.finite_x x_under (le_trans lo (le_of_eq (sym e))))
    | inr q ↦ elim q [
      | inl e ↦ inr (inl (part_least j a.y v.f32_y n.finite_y y_under (le_trans lo (le_of_eq (sym e)))))
      | inr e ↦ inr (inr (part_least j a.z v.f32_z n.finite_z z_under (le_trans lo (le_of_eq (sym e)))))
    ]
  ]

  most_x : S X ≤ 2 ^ 150
  most_x = part_most j a.x v.f32_x n.finite_x x_under

  most_y : S Y ≤ 2 ^ 150
  most_y = part_most j a.y v.f32_y n.finite_y y_under

  most_z : S Z ≤ 2 ^ 150
  most_z = part_most j a.z v.f32_z n.finite_z z_under

  L : ℕ
  L = whole (S X) (S Y) (S Z) most_x most_y most_z

  l_value : Value binary32 (length_squared b) false L
  unfolding L
  l_value = whole_value (S X) (S Y) (S Z) most_x most_y most_z b (negative a.x) (negative a.y) (negative a.z) b_x b_y b_z

  l_least : D ≤ L
  unfolding L
  l_least = whole_least (S X) (S Y) (S Z) most_x most_y most_z top_least

  l_most : L ≤ 13 * D
  unfolding L
  l_most = whole_most (S X) (S Y) (S Z) most_x most_y most_z

  brought : BroughtToOne a b
  unfolding b j M
  brought = record {
    values = record { f32_x = part_fits j a.x v.f32_x n.finite_x x_under; f32_y = part_fits j a.y v.f32_y n.finite_y y_under; f32_z = part_fits j a.z v.f32_z n.finite_z z_under };
    numbers = record {
      finite_x = value_finite b.x (negative a.x) (S X) D b_x;
      finite_y = value_finite b.y (negative a.y) (S Y) D b_y;
      finite_z = value_finite b.z (negative a.z) (S Z) D b_z;
    };
    rounded_x = product_means j a.x v.f32_x n.finite_x;
    rounded_y = product_means j a.y v.f32_y n.finite_y;
    rounded_z = product_means j a.z v.f32_z n.finite_z;
    from = lo;
    to = hi;
    exact = exact;
    least = least;
    below = below;
    squared_least = le_of_sizes one (length_squared b) D L D (pow_pos 149) one_is l_value l_least;
    squared_most = le_of_sizes (length_squared b) thirteen L (13 * D) D (pow_pos 149) l_value thirteen_is l_most;
  }

pub law_scaled : LawScaled
unfolding b
law_scaled a v h =
    let n = direction_numbers a v h in
    subst (λ (u : Vec3). BroughtToOne a u) (sym (scaled_is a n)) (brought a v n (direction_some a v h))

-- ---- the squared length needs no test
one_size : (l : Float) → T (finite l) → negative l ≡ false → T (fits binary32 l) → T (le one l) → 2 ^ 23 ≤ size_in binary32 l
one_size l t s f h = le_trans (lit≤ tt) (le_sizes one l D (size_in binary32 l) D (pow_pos 149) one_is (unsigned_value binary32 l f t s) h)

module _ (a : Vec3) (v : F32Vec a) (h : T (has_direction a)) where
  brings : BroughtToOne a (scaled a)
  brings = law_scaled a v h

  number : T (finite (length_squared (scaled a)))
  number =
      between_finite (length_squared (scaled a)) one thirteen (value_finite one false D D one_is) (value_finite thirteen false (13 * D) D thirteen_is) brings.squared_least brings.squared_most

  enough : 2 ^ 23 ≤ size_in binary32 (length_squared (scaled a))
  enough = one_size (length_squared (scaled a)) number (squared_sign (scaled a)) (squared_fits (scaled a)) brings.squared_least

  -- `try_normalize` answers a vector, the product without its test
  pub unchecked_is : try_normalize (scaled a) ≡ Some (direction_unchecked a)
  unfolding direction_unchecked
  unchecked_is = normalized_is (scaled a) brings.values number enough

  pub unchecked_unit : UnitWithin 15 (direction_unchecked a)
  unfolding direction_unchecked
  unchecked_unit = normalized_unit (scaled a) brings.values number enough

pub law_unchecked : LawUnchecked
law_unchecked a v h = unchecked_is a v h

pub law_u : LawU
unfolding direction_of
law_u a v h =
    record {
      direction = direction_unchecked a;
      is = ap (λ (c : Bool). cond c (try_normalize (scaled a)) None) (is_true (has_direction a) h) ∙ unchecked_is a v h;
      unit = unchecked_unit a v h;
    }
