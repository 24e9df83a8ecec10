-- Scaling leaves three zeros, and what is not finite, without a direction: "direction of" is `try_normalize` of the scaled vector in every case. Assumes nothing.
use mathlib.Core.Path.{◌≡◌, refl, sym, ◌∙◌, subst}
use mathlib.Core.Bool.{Bool, true, false, cond}
use Prim.Native.Nat.{ℕ, zero, suc, ◌+◌, ◌*◌, ◌^◌, ◌<◌}
use native.Mathlib.Nat.{lt_irrefl, zero-mul, zero-lt-suc, mul-pos}
use native.Mathlib.Omega.{arith}
use lib.Dec.{T, lit≤, lit<}
use lib.Pow.{pow_pos}
use lib.Ieee.{Float, nan, inf, fin, binary32, down, size, fits}
use lib.Ieee.Exact.{round_exact}
use lib.Ieee.Fits.{up_pos}
use lib.Ieee.Scale.{finite, round_same}
use Rattle.std.specs.Prelude.{None}
use Rattle.laws.specs.Exact.{negative, size_in}
use Rattle.laws.proofs.values.ValueLaws.{Value}
use Rattle.laws.proofs.values.SizeLaws.{value_of_size}
use Rattle.laws.proofs.rounding.ErrorLaws.{rounded}
use Rattle.scalar.specs.Powers.{times_power, log2}
use Rattle.scalar.proofs.scaling.PowerLaws.{power_at}
use Rattle.vector.specs.declared.vec3.Vec3.{Vec3}
use Rattle.vector.specs.Vectors.{each}
use Rattle.vector.specs.Comparisons.{is_finite}
use Rattle.vector.specs.Products.{length_squared}
use Rattle.vector.specs.Normalizing.{try_normalize}
use Rattle.vector.specs.NormalizingMeaning.{zero_infinite_or_nan}
use Rattle.vector.specs.ExactVectors.{F32Vec, FiniteVec}
use Rattle.vector.specs.Scaled.{largest, scaled}
use Rattle.vector.specs.DirectionOf.{has_direction, direction_of}
use Rattle.vector.proofs.values.SignedVectors.{D}
use Rattle.vector.proofs.errors.SquaredLengthErrors.{components_finite}
use Rattle.vector.proofs.meanings.NormalizingLaws.{none_exactly}
use Rattle.vector.proofs.scaling.ScaledBits.{finite_all, all_finite}
use Rattle.vector.proofs.scaling.BoundedSquares.{whole_value}
use Rattle.vector.proofs.scaling.ThreeZeros.{direction_there}

-- ---- what is not finite, and what is zero
infinite_none : (x : Float) → (T (finite x) → ⊥) → T (zero_infinite_or_nan x)
infinite_none nan h = tt
infinite_none (inf s) h = tt
infinite_none (fin s m e) h = absurd (h tt)

pub zero_none : (x : Float) (s : Bool) → Value binary32 x s 0 → T (zero_infinite_or_nan x)
zero_none nan s h = absurd h
zero_none (inf t) s h = absurd h
zero_none (fin t zero e) s h = tt
zero_none (fin t (suc m) e) s h =
    absurd (lt_irrefl 0 (subst (λ (n : ℕ). 0 < n) (h.1 ∙ zero-mul (down e)) (mul-pos (mul-pos (zero-lt-suc m) (up_pos e)) (pow_pos 149))))

-- ---- a zero times a power of two
zero_times : (j : ℕ) (x : Float) → T (fits binary32 x) → T (finite x) → size_in binary32 x ≡ 0 → Value binary32 (times_power j x) (negative x) 0
zero_times j x f t z =
    subst (λ (y : Float). Value binary32 y (negative x) 0)
    (sym (power_at j x (negative x) 0 (subst (λ (n : ℕ). Value binary32 x (negative x) n) z (value_of_size binary32 x f t))
    ∙ round_same binary32 (negative x) 0 (2 ^ j) 0 D (pow_pos j) (pow_pos 149) (zero-mul D ∙ sym (zero-mul (2 ^ j)))))
    (round_exact binary32 (negative x) 0 D 0 0 (pow_pos 149) (lit< tt) (lit< tt) refl)

-- 0 of 0, 0 and 0
no_length : rounded binary32 (rounded binary32 (rounded binary32 (0 * 0) D + rounded binary32 (0 * 0) D) 1 + rounded binary32 (0 * 0) D) 1 ≡ 0
unfolding rounded size
no_length = refl

none_scaled : (a : Vec3) → F32Vec a → (FiniteVec a → largest a ≡ 0) → try_normalize (scaled a) ≡ None
unfolding scaled
none_scaled a v zeros = go (is_finite a) (finite_all a) (all_finite a)
  where
    -- the answer for a vector whose squared length is zero, infinite or NaN
    none : (b : Vec3) → T (zero_infinite_or_nan (length_squared b)) → try_normalize b ≡ None
    none b t = (none_exactly b).none_if t

    still : (n : FiniteVec a) → T (zero_infinite_or_nan (length_squared (each (times_power (log2 (largest a))) a)))
    still n =
        let z = zeros n in
        let j = log2 (largest a) in
        zero_none (length_squared (each (times_power (log2 (largest a))) a)) false
        (subst (λ (m : ℕ). Value binary32 (length_squared (each (times_power (log2 (largest a))) a)) false m) no_length
        (whole_value 0 0 0 (lit≤ tt) (lit≤ tt) (lit≤ tt) (each (times_power (log2 (largest a))) a) (negative a.x) (negative a.y) (negative a.z)
        (zero_times j a.x v.f32_x n.finite_x (omega arith)) (zero_times j a.y v.f32_y n.finite_y (omega arith)) (zero_times j a.z v.f32_z n.finite_z (omega arith))))

    go : (b : Bool) → (T b → FiniteVec a) → (FiniteVec a → T b) → try_normalize (cond b (each (times_power (log2 (largest a))) a) a) ≡ None
    go true f g = none (each (times_power (log2 (largest a))) a) (still (f tt))
    go false f g = none a (infinite_none (length_squared a) (λ (t : T (finite (length_squared a))). g (components_finite a t)))

-- ---- in every case
pub direction_is_scaled : (a : Vec3) → F32Vec a → try_normalize (scaled a) ≡ direction_of a
unfolding direction_of
direction_is_scaled a v = go (has_direction a) (λ t. t) (λ t. t)
  where
    -- none but those that have no direction
    zeros : (T (has_direction a) → ⊥) → FiniteVec a → largest a ≡ 0
    zeros h n = none (largest a) (λ (p : 0 < largest a). h (direction_there a v n p))
      where
        none : (n : ℕ) → (0 < n → ⊥) → n ≡ 0
        none n h = omega arith

    go : (b : Bool) → (T b → T (has_direction a)) → (T (has_direction a) → T b) → try_normalize (scaled a) ≡ cond b (try_normalize (scaled a)) None
    go true f g = refl
    go false f g = none_scaled a v (zeros g)
