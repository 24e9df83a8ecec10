-- The way back from a computed squared length: a vector whose computed one differs from 1 by at most 2^-19 is a direction. Assumes nothing.
use mathlib.Core.Path.{◌≡◌, refl, sym, subst}
use mathlib.Core.Bool.{false}
use Prim.Native.Nat.{ℕ, ◌+◌, ◌-◌, ◌*◌, ◌^◌, ◌≤◌, ◌<◌, zero-le}
use mathlib.Core.Logic.{inl, inr}
use native.Mathlib.Nat.{mul-le-mul_right, le_of_mul-le-mul_right, eq-zero-or-pos}
use native.Mathlib.Omega.{arith}
use lib.Dec.{T, lit≤, lit<}
use lib.Pow.{pow_pos}
use lib.Ieee.{Float, nan, inf, fin, binary32, of_bits, sub, le}
use lib.Ieee.Positive.{positive_of_value, values_of_le}
use lib.Ieee.Scale.{finite}
use Rattle.laws.specs.Exact.{size_in}
use Rattle.laws.specs.Within.{distance, Within}
use Rattle.laws.proofs.values.ValueLaws.{Value}
use Rattle.laws.proofs.rounding.RoundingError.{looser}
use Rattle.laws.proofs.values.FiniteLaws.{minuend_finite}
use Rattle.laws.proofs.rounding.ErrorLaws.{rounded, finite_rounded, rounded_whole}
use Rattle.laws.proofs.operations.DifferenceLaws.{distance_within, difference_at}
use Rattle.scalar.specs.Sign.{abs}
use Rattle.scalar.proofs.floats.SignLaws.{abs_value}
use Rattle.vector.specs.declared.vec3.Vec3.{Vec3}
use Rattle.vector.specs.Vectors.{one}
use Rattle.vector.specs.Products.{length_squared}
use Rattle.vector.specs.ExactVectors.{F32Vec, UnitWithin, exact_square}
use Rattle.vector.specs.NumericLaws.{ComputedNear, small, DirectionIfTested}
use Rattle.vector.proofs.errors.SquaredLengthBounds.{Q, RoundsWhole, any_low, any_high}
use Rattle.vector.proofs.errors.SquaredLengthErrors.{squared_value, components_finite, length_parts}
use Rattle.vector.proofs.values.SignedVectors.{D, E, one_is}

-- ---- over plain numbers: D = 2 ^ 24 E is the size of 1, L a computed squared length within c E of D, S the exact one
exact_high : (D E c L S : ℕ) → D ≡ Q * E → c ≤ 5000 → 64 ≤ E → Q * S ≤ (Q + 4) * (L * D) + 2 * Q * D → L ≤ D + c * E → S ≤ D * D + (c + 5) * (E * D)
exact_high D E c L S e h g a b =
    let k : (Q + 4) * L + 2 * Q ≤ Q * (D + (c + 5) * E) = over (mul-le-mul_right E h) in
    omega (arith, mul-le-mul_right D k)
  where
    over : c * E ≤ 5000 * E → (Q + 4) * L + 2 * Q ≤ Q * (D + (c + 5) * E)
    over h = omega arith

exact_low : (D E c L S : ℕ) → D ≡ Q * E → c ≤ 5000 → 64 ≤ E → (Q - 4) * (L * D) ≤ Q * S + 2 * Q * D → D ≤ L + c * E → D * D ≤ S + (c + 5) * (E * D)
exact_low D E c L S e h g a b =
    let k : Q * D + 2 * Q ≤ (Q - 4) * L + Q * ((c + 5) * E) = under (mul-le-mul_right E h) in
    omega (arith, mul-le-mul_right D k)
  where
    under : c * E ≤ 5000 * E → Q * D + 2 * Q ≤ (Q - 4) * L + Q * ((c + 5) * E)
    under h = omega arith

-- ---- a computed squared length within c times 2^-24 of 1 is within c + 5 exactly
exact_near : (c : ℕ) → c ≤ 5000 → (a : Vec3) → F32Vec a → ComputedNear c a → UnitWithin (c + 5) a
exact_near c h a v w =
    let X = size_in binary32 a.x in
    let Y = size_in binary32 a.y in
    let Z = size_in binary32 a.z in
    let L = size_in binary32 (length_squared a) in
    record {
      values = v;
      numbers = components_finite a w.0;
      near = (
        exact_high D E c L (exact_square a) refl h (lit≤ tt) (any_high D X Y Z L (length_parts a v w.0)) w.1.0,
        exact_low D E c L (exact_square a) refl h (lit≤ tt) (any_low D X Y Z L (length_parts a v w.0)) w.1.1,
      );
    }

wider : (c d : ℕ) → c * 2 ^ 274 ≤ d * 2 ^ 274 → (a : Vec3) → UnitWithin c a → UnitWithin d a
wider c d h a u = record { values = u.values; numbers = u.numbers; near = looser (exact_square a) (2 ^ 298) (c * 2 ^ 274) (d * 2 ^ 274) h u.near }

-- ---- by a test in f32: 2^-19 is 32 times 2^-24
small_value : Value binary32 small false (32 * E)
unfolding of_bits
small_value = (refl, refl)

bounded_finite : (x : Float) → T (le (abs x) small) → T (finite x)
unfolding le abs of_bits
bounded_finite nan t = t
bounded_finite (inf s) t = t
bounded_finite (fin s m e) t = tt

at_most : (x y : Float) (m n : ℕ) → Value binary32 x false m → Value binary32 y false n → 0 < n → T (le x y) → m ≤ n
at_most x y m n h k p t = elim (eq-zero-or-pos m) [
  | inl z ↦ subst (λ (i : ℕ). i ≤ n) (sym z) zero-le
  | inr q ↦ le_of_mul-le-mul_right (values_of_le x y m D n D (positive_of_value x m D h q) (positive_of_value y n D k p) h k t) (pow_pos 149)
]

-- what rounds to at most 32 e is at most 33 e
before_rounding : (n f e : ℕ) → RoundsWhole f n → f ≤ 32 * e → 64 ≤ e → n ≤ 33 * e
before_rounding n f e h g l = omega arith

pub direction_if_tested : DirectionIfTested
direction_if_tested a v t = wider 38 64 (lit≤ tt) a (exact_near 33 (lit≤ tt) a v (number, near))
  where
    L : ℕ
    L = size_in binary32 (length_squared a)

    difference_finite : T (finite (sub binary32 (length_squared a) one))
    difference_finite = bounded_finite (sub binary32 (length_squared a) one) t

    number : T (finite (length_squared a))
    number = minuend_finite binary32 (length_squared a) one difference_finite

    n : ℕ
    n = rounded binary32 (distance L D) 1

    value : Value binary32 (abs (sub binary32 (length_squared a) one)) false n
    value =
        let d = difference_at binary32 (length_squared a) one L D (squared_value a number) one_is in
        abs_value (sub binary32 (length_squared a) one) d.0 n D (finite_rounded binary32 (sub binary32 (length_squared a) one) d.0 (distance L D) 1 d.1 difference_finite)

    near : Within L D (33 * E)
    near =
        looser L D (distance L D) (33 * E)
        (before_rounding (distance L D) n E (rounded_whole binary32 (distance L D))
        (at_most (abs (sub binary32 (length_squared a) one)) small n (32 * E) value small_value (lit< tt) t) (lit≤ tt))
        (distance_within L D)
