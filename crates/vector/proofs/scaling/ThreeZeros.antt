-- Three zeros are the vectors whose largest size is 0; and what it takes to have a direction. Assumes nothing.
use mathlib.Core.Path.{◌≡◌, sym, ◌∙◌, subst, subst₂}
use mathlib.Core.Bool.{Bool, true, false, not, ◌&&◌}
use Prim.Native.Nat.{ℕ, zero, suc, ◌*◌, ◌<◌}
use native.Mathlib.Nat.{lt_irrefl, zero-mul, mul-one, mul-pos, zero-lt-suc}
use native.Mathlib.Omega.{arith}
use lib.Dec.{T, eqb, eqb→eq}
use lib.Pow.{pow_pos}
use lib.Ieee.{Float, nan, inf, fin, binary32, up, down, level, eq, fits, of_bits}
use lib.Ieee.Fits.{up_pos, and_i, and_l, and_r}
use lib.Ieee.Scale.{finite}
use Rattle.laws.specs.Exact.{size_in}
use Rattle.laws.proofs.values.SizeLaws.{zero_size, value_of_size}
use Rattle.vector.specs.declared.vec3.Vec3.{Vec3}
use Rattle.vector.specs.Vectors.{zer}
use Rattle.vector.specs.Comparisons.{is_finite}
use Rattle.vector.specs.ExactVectors.{F32Vec, FiniteVec}
use Rattle.vector.specs.Scaled.{largest}
use Rattle.vector.specs.DirectionOf.{three_zeros, has_direction}
use Rattle.vector.proofs.scaling.ScaledBits.{all_finite, finite_all}

-- ---- a finite number equals zero exactly if its size is 0
level_zeros : (s : Bool) (a b : ℕ) → a ≡ 0 → b ≡ 0 → T (level s a false b)
level_zeros s a b e d = subst₂ (λ (m n : ℕ). T (level s m false n)) (sym e) (sym d) (go s)
  where
    go : (s : Bool) → T (level s 0 false 0)
    go true = tt
    go false = tt

pub zero_of_size : (x : Float) → T (fits binary32 x) → T (finite x) → size_in binary32 x ≡ 0 → T (eq x zer)
unfolding eq of_bits
zero_of_size nan f t e = absurd t
zero_of_size (inf s) f t e = absurd t
zero_of_size (fin s zero d) f t e = level_zeros s (0 * up d * 1) (0 * 1 * down d) (mul-one (0 * up d) ∙ zero-mul (up d)) (zero-mul (down d))
zero_of_size (fin s (suc m) d) f t e =
    absurd
    (lt_irrefl 0
    (subst (λ (n : ℕ). 0 < n) ((value_of_size binary32 (fin s (suc m) d) f t).1 ∙ subst (λ (n : ℕ). n * down d ≡ 0) (sym e) (zero-mul (down d)))
    (mul-pos (mul-pos (zero-lt-suc m) (up_pos d)) (pow_pos 149))))

pub size_of_zero : (x : Float) → T (eq x zer) → size_in binary32 x ≡ 0
unfolding eq of_bits
size_of_zero nan h = absurd h
size_of_zero (inf s) h = absurd h
size_of_zero (fin s zero d) h = zero_size binary32 s d
size_of_zero (fin s (suc m) d) h =
    absurd
    (lt_irrefl 0
    (subst (λ (n : ℕ). 0 < n)
    (eqb→eq (suc m * up d * 1) (0 * 1 * down d) (and_l (eqb (suc m * up d * 1) (0 * 1 * down d)) _ h) ∙ zero-mul (down d))
    (subst (λ (n : ℕ). 0 < n) (sym (mul-one (suc m * up d))) (mul-pos (zero-lt-suc m) (up_pos d)))))

-- ---- three of them
module _ (a : Vec3) where
  abbrev x_zero : Bool
  x_zero = eq a.x zer

  abbrev y_zero : Bool
  y_zero = eq a.y zer

  abbrev z_zero : Bool
  z_zero = eq a.z zer

  pub largest_of_zeros : T (three_zeros a) → largest a ≡ 0
  unfolding three_zeros
  largest_of_zeros h =
      let both = and_l (x_zero && y_zero) z_zero h in
      let i = size_of_zero a.x (and_l x_zero y_zero both) in
      let j = size_of_zero a.y (and_r x_zero y_zero both) in
      let k = size_of_zero a.z (and_r (x_zero && y_zero) z_zero h) in
      omega arith

  pub zeros_of_largest : F32Vec a → FiniteVec a → largest a ≡ 0 → T (three_zeros a)
  unfolding three_zeros
  zeros_of_largest v n e =
      and_i (x_zero && y_zero) z_zero
      (and_i x_zero y_zero (zero_of_size a.x v.f32_x n.finite_x (omega arith)) (zero_of_size a.y v.f32_y n.finite_y (omega arith)))
      (zero_of_size a.z v.f32_z n.finite_z (omega arith))

  -- ---- a direction
  module _ (v : F32Vec a) (h : T (has_direction a)) where
    pub direction_numbers : FiniteVec a
    direction_numbers = finite_all a (and_l (is_finite a) (not (three_zeros a)) h)

    pub direction_some : 0 < largest a
    direction_some = some (largest a) (λ (e : largest a ≡ 0). clash (three_zeros a) (and_r (is_finite a) (not (three_zeros a)) h) (zeros_of_largest v direction_numbers e))
      where
        clash : (b : Bool) → T (not b) → T b → ⊥
        clash true p q = p
        clash false p q = q

        some : (n : ℕ) → (n ≡ 0 → ⊥) → 0 < n
        some n h = omega arith

  pub direction_there : F32Vec a → FiniteVec a → 0 < largest a → T (has_direction a)
  direction_there v n p = and_i (is_finite a) (not (three_zeros a)) (all_finite a n) (go (three_zeros a) largest_of_zeros)
    where
      go : (b : Bool) → (T b → largest a ≡ 0) → T (not b)
      go true f = let e = f tt in absurd (omega arith)
      go false f = tt
