-- Scaling by 2 or by 1 leaves the direction as `try_normalize` gives it of the vector itself. Assumes nothing.
use mathlib.Core.Path.{◌≡◌, sym, ap, ◌∙◌, subst}
use mathlib.Core.Bool.{Bool, true, false, not}
use mathlib.Core.Logic.{◌⊎◌, inl, inr}
use Prim.Native.Nat.{ℕ, suc, ◌+◌, ◌-◌, ◌*◌, ◌^◌, ◌≤◌, ◌<◌}
use native.Mathlib.Nat.{le_trans, le_of_eq, le_of_lt, lt_of_lt_of_le, lt_of_le_of_lt, mul-pos, mul-le-mul_right, le_of_mul-le-mul_right}
use native.Mathlib.Omega.{arith}
use lib.Dec.{T, leb, leb→le, nleb→lt, lit≤, lit<}
use lib.Ieee.{Float, binary32, unlike, size, round, mul}
use lib.Ieee.Positive.{positive_of_value}
use Rattle.std.specs.Prelude.{Some}
use Rattle.laws.specs.Exact.{negative, size_in}
use Rattle.laws.proofs.values.ValueLaws.{Value, size_is}
use Rattle.laws.proofs.values.SizeLaws.{value_of_size}
use Rattle.laws.proofs.operations.OperationLaws.{mul_at}
use Rattle.laws.proofs.rounding.ErrorLaws.{rounded}
use Rattle.scalar.specs.Powers.{times_power, log2}
use Rattle.vector.specs.declared.vec3.Vec3.{Vec3}
use Rattle.vector.specs.Vectors.{vec, each}
use Rattle.vector.specs.Operators.{mul_number}
use Rattle.vector.specs.Products.{length, length_squared, length_recip}
use Rattle.vector.specs.Normalizing.{try_normalize}
use Rattle.vector.specs.ExactVectors.{F32Vec, FiniteVec}
use Rattle.vector.specs.Scaled.{largest, scaled}
use Rattle.vector.specs.ScaledMeaning.{LawUnscaled}
use Rattle.vector.proofs.values.SignedVectors.{D}
use Rattle.vector.proofs.errors.SquaredLengthLaws.{squared_fits}
use Rattle.vector.proofs.meanings.NormalizingLaws.{none_exactly}
use Rattle.vector.proofs.units.UnitLaws.{positive_some}
use Rattle.vector.proofs.scaling.ScaledBits.{scaled_is}
use Rattle.vector.proofs.scaling.NoDirectionLaws.{direction_is_scaled}
use Rattle.vector.proofs.scaling.BoundedSquares.{whole_value, whole_most, whole_least}
use Rattle.vector.proofs.kept.DoubledSquares.{half_under, length_four}
use Rattle.vector.proofs.kept.DoubledRoots.{recip_of, recip_first, recip_second}
use Rattle.vector.proofs.scaling.LargestLaws.{one_of}
use Rattle.vector.proofs.scaling.ScaledComponents.{times_one, times_two}

-- ---- b is twice a
module _ (a b : Vec3) (v : F32Vec a) (n : FiniteVec a) where
  abbrev X : ℕ
  X = size_in binary32 a.x

  abbrev Y : ℕ
  Y = size_in binary32 a.y

  abbrev Z : ℕ
  Z = size_in binary32 a.z

  module _
      (bx : Value binary32 b.x (negative a.x) (X * 2)) (by : Value binary32 b.y (negative a.y) (Y * 2)) (bz : Value binary32 b.z (negative a.z) (Z * 2))
      (hx : X * 2 ≤ 2 ^ 150) (hy : Y * 2 ≤ 2 ^ 150) (hz : Z * 2 ≤ 2 ^ 150) (top : (D ≤ X * 2) ⊎ ((D ≤ Y * 2) ⊎ (D ≤ Z * 2))) where
    -- the squared lengths
    abbrev squared : ℕ → ℕ
    squared m = rounded binary32 (m * m) D

    L : ℕ
    L = rounded binary32 (rounded binary32 (squared X + squared Y) 1 + squared Z) 1

    abbrev L' : ℕ
    L' = rounded binary32 (rounded binary32 (squared (X * 2) + squared (Y * 2)) 1 + squared (Z * 2)) 1

    four : L' ≡ L * 4
    unfolding L
    four = length_four X Y Z hx hy hz top

    l_value : Value binary32 (length_squared a) false L
    unfolding L
    l_value =
        whole_value X Y Z (half_under X hx) (half_under Y hy) (half_under Z hz) a (negative a.x) (negative a.y) (negative a.z)
        (value_of_size binary32 a.x v.f32_x n.finite_x) (value_of_size binary32 a.y v.f32_y n.finite_y) (value_of_size binary32 a.z v.f32_z n.finite_z)

    k_value : Value binary32 (length_squared b) false (L * 4)
    k_value =
        subst (λ (m : ℕ). Value binary32 (length_squared b) false m) four
        (whole_value (X * 2) (Y * 2) (Z * 2) hx hy hz b (negative a.x) (negative a.y) (negative a.z) bx by bz)

    lo : 2 ^ 147 ≤ L
    lo = le_of_mul-le-mul_right (le_trans (whole_least (X * 2) (Y * 2) (Z * 2) hx hy hz top) (le_of_eq four)) (lit< {n = 4} tt)

    hi : L ≤ 2 ^ 153
    unfolding L
    hi = le_trans (whole_most X Y Z (half_under X hx) (half_under Y hy) (half_under Z hz)) (lit≤ tt)

    -- the reciprocals of the lengths
    R : ℕ
    R = recip_of (length_squared a) (length_squared b) L (squared_fits a) (squared_fits b) l_value k_value lo hi

    a_recip : Value binary32 (length_recip a) false (R * 2)
    unfolding R length_recip length length_squared
    a_recip = recip_first (length_squared a) (length_squared b) L (squared_fits a) (squared_fits b) l_value k_value lo hi

    b_recip : Value binary32 (length_recip b) false R
    unfolding R length_recip length length_squared
    b_recip = recip_second (length_squared a) (length_squared b) L (squared_fits a) (squared_fits b) l_value k_value lo hi

    -- the products
    product : (x y : Float) (s : Bool) (m : ℕ) → Value binary32 x s m → Value binary32 y s (m * 2) → mul binary32 y (length_recip b) ≡ mul binary32 x (length_recip a)
    product x y s m h k =
        mul_at binary32 y (length_recip b) s false (m * 2) R k b_recip
        ∙ ap (λ (i : ℕ). round binary32 (unlike s false) i (D * D)) (turn m R)
        ∙ sym (mul_at binary32 x (length_recip a) s false m (R * 2) h a_recip)
      where
        turn : (m r : ℕ) → m * 2 * r ≡ m * (r * 2)
        turn m r = omega arith

    same : mul_number b (length_recip b) ≡ mul_number a (length_recip a)
    unfolding mul_number
    same = λ i. vec
        (product a.x b.x (negative a.x) X (value_of_size binary32 a.x v.f32_x n.finite_x) bx i)
        (product a.y b.y (negative a.y) Y (value_of_size binary32 a.y v.f32_y n.finite_y) by i)
        (product a.z b.z (negative a.z) Z (value_of_size binary32 a.z v.f32_z n.finite_z) bz i)

    some : 0 < L
    some = lt_of_lt_of_le (lit< tt) lo

    twice_kept : try_normalize b ≡ try_normalize a
    twice_kept =
        (none_exactly b).unit (positive_some (length_squared b) (positive_of_value (length_squared b) (L * 4) D k_value (mul-pos some (lit< tt))))
        ∙ ap Some same
        ∙ sym ((none_exactly a).unit (positive_some (length_squared a) (positive_of_value (length_squared a) L D l_value some)))

-- ---- 1 or 2
pub law_unscaled : LawUnscaled
law_unscaled a v n lo hi = sym (direction_is_scaled a v) ∙ go (leb D (largest a)) (leb→le D (largest a)) (nleb→lt D (largest a))
  where
    log2_at : (j : ℕ) → size (largest a) ≡ suc j → log2 (largest a) ≡ j
    log2_at j e = less (size (largest a)) j e
      where
        less : (z j : ℕ) → z ≡ suc j → z - 1 ≡ j
        less z j e = omega arith

    scaled_at : (j : ℕ) → log2 (largest a) ≡ j → scaled a ≡ each (times_power j) a
    scaled_at j e = scaled_is a n ∙ ap (λ (i : ℕ). each (times_power i) a) e

    plain : each (times_power 149) a ≡ a
    plain = λ i. vec (times_one a.x v.f32_x n.finite_x i) (times_one a.y v.f32_y n.finite_y i) (times_one a.z v.f32_z n.finite_z i)

    -- a component is at most the largest size, below 1
    under : (m : ℕ) → m ≤ largest a → largest a < D → m * 2 ≤ 2 ^ 150
    under m h l = mul-le-mul_right 2 (le_trans h (le_of_lt l))

    double : (m : ℕ) → m ≡ largest a → D ≤ m * 2
    double m e = mul-le-mul_right 2 (le_trans lo (le_of_eq (sym e)))

    doubled : largest a < D → try_normalize (each (times_power 148) a) ≡ try_normalize a
    doubled l =
        let hx = under (size_in binary32 a.x) (omega arith) l in
        let hy = under (size_in binary32 a.y) (omega arith) l in
        let hz = under (size_in binary32 a.z) (omega arith) l in
        twice_kept a (each (times_power 148) a) v n
        (times_two a.x v.f32_x n.finite_x (lt_of_le_of_lt hx (lit< tt)))
        (times_two a.y v.f32_y n.finite_y (lt_of_le_of_lt hy (lit< tt)))
        (times_two a.z v.f32_z n.finite_z (lt_of_le_of_lt hz (lit< tt)))
        hx hy hz
        (elim (one_of (size_in binary32 a.x) (size_in binary32 a.y) (size_in binary32 a.z)) [
          | inl e ↦ inl (double (size_in binary32 a.x) e)
          | inr q ↦ elim q [ inl e ↦ inr (inl (double (size_in binary32 a.y) e)) | inr e ↦ inr (inr (double (size_in binary32 a.z) e)) ]
        ])

    go : (t : Bool) → (T t → D ≤ largest a) → (T (not t) → largest a < D) → try_normalize (scaled a) ≡ try_normalize a
    go true h l = ap try_normalize (scaled_at 149 (log2_at 149 (size_is (largest a) 149 (h tt) hi)) ∙ plain)
    go false h l = ap try_normalize (scaled_at 148 (log2_at 148 (size_is (largest a) 148 lo (l tt)))) ∙ doubled (l tt)
