-- The five roundings of a squared length that is finite, in sizes. Assumes nothing.
use mathlib.Core.Path.{◌≡◌, sym, ap, ◌∙◌, subst}
use mathlib.Core.Bool.{Bool, false}
use Prim.Native.Nat.{ℕ, ◌+◌, ◌*◌}
use lib.Dec.{T}
use lib.Pow.{pow_pos}
use lib.Ieee.{Float, binary32, fits, round, add, mul}
use lib.Ieee.Scale.{finite}
use Rattle.laws.specs.Exact.{negative, size_in}
use Rattle.laws.proofs.values.ValueLaws.{Value}
use Rattle.laws.proofs.values.SizeLaws.{size_of_value, value_of_size, unsigned_value}
use Rattle.laws.proofs.operations.OperationLaws.{mul_at, add_like_at}
use Rattle.laws.proofs.operations.SumSigns.{unlike_self}
use Rattle.laws.proofs.values.FiniteLaws.{first_finite, second_finite, root_finite}
use Rattle.laws.proofs.rounding.ErrorLaws.{rounded, finite_rounded, rounded_error, rounded_whole}
use Rattle.vector.specs.declared.vec3.Vec3.{Vec3}
use Rattle.vector.specs.Products.{dot, length_squared}
use Rattle.vector.specs.ExactVectors.{F32Vec, FiniteVec}
use Rattle.vector.proofs.values.SignedVectors.{D}
use Rattle.vector.proofs.errors.SquaredLengthLaws.{squared_fits, squared_sign}
use Rattle.vector.proofs.errors.SquaredLengthBounds.{RoundsWhole, Squared}

square_at : (x : Float) (s : Bool) (X : ℕ) → Value binary32 x s X → mul binary32 x x ≡ round binary32 false (X * X) (D * D)
square_at x s X h = mul_at binary32 x x s s X X h h ∙ ap (λ (c : Bool). round binary32 c (X * X) (D * D)) (unlike_self s)

-- ---- a finite squared length has finite components
module _ (a : Vec3) (t : T (finite (length_squared a))) where
  abbrev first_two : Float
  first_two = add binary32 (mul binary32 a.x a.x) (mul binary32 a.y a.y)

  sum_finite : T (finite first_two)
  unfolding length_squared dot
  sum_finite = first_finite binary32 first_two (mul binary32 a.z a.z) t

  x_finite : T (finite (mul binary32 a.x a.x))
  x_finite = first_finite binary32 (mul binary32 a.x a.x) (mul binary32 a.y a.y) sum_finite

  y_finite : T (finite (mul binary32 a.y a.y))
  y_finite = second_finite binary32 (mul binary32 a.x a.x) (mul binary32 a.y a.y) sum_finite

  z_finite : T (finite (mul binary32 a.z a.z))
  unfolding length_squared dot
  z_finite = second_finite binary32 first_two (mul binary32 a.z a.z) t

  pub components_finite : FiniteVec a
  components_finite = record { finite_x = root_finite binary32 a.x x_finite; finite_y = root_finite binary32 a.y y_finite; finite_z = root_finite binary32 a.z z_finite }

pub squared_value : (a : Vec3) → T (finite (length_squared a)) → Value binary32 (length_squared a) false (size_in binary32 (length_squared a))
squared_value a t = unsigned_value binary32 (length_squared a) (squared_fits a) t (squared_sign a)

-- ---- and its roundings
square_value : (x : Float) → T (fits binary32 x) → T (finite (mul binary32 x x)) → Value binary32 (mul binary32 x x) false (rounded binary32 (size_in binary32 x * size_in binary32 x) D)
square_value x f t =
    finite_rounded binary32 (mul binary32 x x) false (size_in binary32 x * size_in binary32 x) D
    (square_at x (negative x) (size_in binary32 x) (value_of_size binary32 x f (root_finite binary32 x t))) t

sum_value : (x y : Float) (X Y : ℕ) → Value binary32 x false X → Value binary32 y false Y → T (finite (add binary32 x y)) → Value binary32 (add binary32 x y) false (rounded binary32 (X + Y) 1)
sum_value x y X Y h k t = finite_rounded binary32 (add binary32 x y) false (X + Y) 1 (add_like_at binary32 x y false X Y h k) t

module _ (a : Vec3) (v : F32Vec a) (t : T (finite (length_squared a))) where
  abbrev squared : Float → ℕ
  squared c = rounded binary32 (size_in binary32 c * size_in binary32 c) D

  sum_is : Value binary32 (first_two a t) false (rounded binary32 (squared a.x + squared a.y) 1)
  sum_is =
      sum_value (mul binary32 a.x a.x) (mul binary32 a.y a.y) (squared a.x) (squared a.y)
      (square_value a.x v.f32_x (x_finite a t)) (square_value a.y v.f32_y (y_finite a t)) (sum_finite a t)

  length_is : Value binary32 (length_squared a) false (rounded binary32 (rounded binary32 (squared a.x + squared a.y) 1 + squared a.z) 1)
  unfolding length_squared dot
  length_is =
      sum_value (first_two a t) (mul binary32 a.z a.z) (rounded binary32 (squared a.x + squared a.y) 1) (squared a.z)
      sum_is (square_value a.z v.f32_z (z_finite a t)) t

  pub length_parts : Squared D (size_in binary32 a.x) (size_in binary32 a.y) (size_in binary32 a.z) (size_in binary32 (length_squared a))
  length_parts = record {
    p = squared a.x;
    q = squared a.y;
    r = squared a.z;
    t = rounded binary32 (squared a.x + squared a.y) 1;
    p_near = rounded_error binary32 (size_in binary32 a.x * size_in binary32 a.x) D (pow_pos 149);
    q_near = rounded_error binary32 (size_in binary32 a.y * size_in binary32 a.y) D (pow_pos 149);
    r_near = rounded_error binary32 (size_in binary32 a.z * size_in binary32 a.z) D (pow_pos 149);
    t_near = rounded_whole binary32 (squared a.x + squared a.y);
    l_near =
        subst (λ (n : ℕ). RoundsWhole n (rounded binary32 (squared a.x + squared a.y) 1 + squared a.z))
        (sym (size_of_value binary32 (length_squared a) false (rounded binary32 (rounded binary32 (squared a.x + squared a.y) 1 + squared a.z) 1) length_is).0)
        (rounded_whole binary32 (rounded binary32 (squared a.x + squared a.y) 1 + squared a.z));
  }
