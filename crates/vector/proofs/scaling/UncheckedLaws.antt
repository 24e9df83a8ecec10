-- The direction without a test: by the bits of the largest size it is worked out of every vector of f32 values, since beside a component that is not finite the power
-- does not matter. Assumes nothing.
use mathlib.Core.Path.{◌≡◌, refl, sym, ap, ap₂, ◌∙◌}
use mathlib.Core.Bool.{Bool, true, false, cond, not, ◌||◌, true≢false}
use Prim.Native.Nat.{ℕ, ◌+◌, ◌*◌, ◌^◌, ◌≤◌, ◌<◌}
use native.Mathlib.Nat.{not-le_of_lt, mul-pos, zero-mul, mul-zero}
use native.Mathlib.Omega.{arith}
use lib.Dec.{T, ltb, ltb→lt, nltb→le}
use lib.IntN.{pos}
use lib.Ieee.{Float, nan, inf, fin, binary32, up, down, unlike, fits, of_bits, is_nan, round, add, sum, mul, div}
use lib.Ieee.Bits.{is_false}
use lib.Ieee.Fits.{down_pos}
use lib.Ieee.Scale.{finite, round_same}
use Rattle.laws.specs.Exact.{negative, size_in}
use Rattle.laws.proofs.values.ValueLaws.{Value}
use Rattle.laws.proofs.rounding.RoundNearest.{round_nearest}
use Rattle.scalar.specs.Root.{root}
use Rattle.scalar.specs.Powers.{times_power, log2}
use Rattle.scalar.specs.SizeBits.{size_bits, largest_bits, size_of_bits}
use Rattle.scalar.proofs.scaling.SizeBitsLaws.{finite_largest, under_bits}
use Rattle.vector.specs.declared.vec3.Vec3.{Vec3}
use Rattle.vector.specs.Vectors.{one, vec, each}
use Rattle.vector.specs.Operators.{mul_number}
use Rattle.vector.specs.Products.{dot, length_squared, length, length_recip}
use Rattle.vector.specs.ExactVectors.{F32Vec, FiniteVec}
use Rattle.vector.specs.Scaled.{scaled}
use Rattle.vector.specs.DirectionOf.{direction_unchecked}
use Rattle.vector.proofs.errors.SquaredLengthLaws.{square_sign, sum_sign, squared_sign}
use Rattle.vector.proofs.errors.SquaredLengthErrors.{components_finite}
use Rattle.vector.proofs.scaling.ScaledBits.{scaled_other, scaled_by_bits}
use Rattle.vector.proofs.scaling.ScaledComponents.{part_value}
use Rattle.vector.proofs.units.UnitLaws.{unit_of}

-- ---- a squared length is a NaN exactly where a component is
round_nan : (s : Bool) (n d : ℕ) → 0 < d → is_nan (round binary32 s n d) ≡ false
round_nan s n d h = is_false (is_nan (round binary32 s n d)) (round_nearest binary32 s n d h).number

square_nan : (x : Float) → is_nan (mul binary32 x x) ≡ is_nan x
unfolding mul is_nan
square_nan nan = refl
square_nan (inf s) = refl
square_nan (fin s m e) = round_nan (unlike s s) (m * up e * (m * up e)) (down e * down e) (mul-pos (down_pos e) (down_pos e))

sum_nan : (x y : Float) → negative x ≡ false → negative y ≡ false → is_nan (add binary32 x y) ≡ (is_nan x || is_nan y)
unfolding add sum is_nan negative
sum_nan nan y p q = refl
sum_nan (inf true) y p q = absurd (true≢false p)
sum_nan (inf false) nan p q = refl
sum_nan (inf false) (inf true) p q = absurd (true≢false q)
sum_nan (inf false) (inf false) p q = refl
sum_nan (inf false) (fin t n d) p q = refl
sum_nan (fin true m e) y p q = absurd (true≢false p)
sum_nan (fin false m e) nan p q = refl
sum_nan (fin false m e) (inf t) p q = refl
sum_nan (fin false m e) (fin true n d) p q = absurd (true≢false q)
sum_nan (fin false m e) (fin false n d) p q =
    round_nan false (m * up e * down d + n * up d * down e) (down e * down d) (mul-pos (down_pos e) (down_pos d))

abbrev any_nan : Vec3 → Bool
any_nan a = is_nan a.x || is_nan a.y || is_nan a.z

pub squared_nan : (a : Vec3) → is_nan (length_squared a) ≡ any_nan a
unfolding length_squared dot
squared_nan a =
    let p = mul binary32 a.x a.x in
    let q = mul binary32 a.y a.y in
    let r = mul binary32 a.z a.z in
    let s = square_sign binary32 in
    sum_nan (add binary32 p q) r (sum_sign binary32 p q (s a.x) (s a.y)) (s a.z)
    ∙ ap₂ ◌||◌ (sum_nan p q (s a.x) (s a.y) ∙ ap₂ ◌||◌ (square_nan a.x) (square_nan a.y)) (square_nan a.z)

-- ---- the reciprocal of a length that is not finite: a NaN or zero
abbrev recip_other : Bool → Float
recip_other b = cond b nan (fin false 0 (pos 0))

recip_of : (l : Float) → (T (finite l) → ⊥) → negative l ≡ false → div binary32 one (root l) ≡ recip_other (is_nan l)
unfolding div root is_nan negative of_bits
recip_of nan h p = refl
recip_of (inf true) h p = absurd (true≢false p)
recip_of (inf false) h p = refl
recip_of (fin s m e) h p = absurd (h tt)

recip_other_lem : (a : Vec3) → (FiniteVec a → ⊥) → length_recip a ≡ recip_other (any_nan a)
unfolding length_recip length length_squared
recip_other_lem a h = recip_of (length_squared a) (λ t. h (components_finite a t)) (squared_sign a) ∙ ap recip_other (squared_nan a)

-- ---- numbers that are alike: both NaNs, both infinite or both finite, of one sign
abbrev Alike : Float → Float → Type 0
Alike nan nan = Unit {0}
Alike nan (inf t) = ⊥
Alike nan (fin t n d) = ⊥
Alike (inf s) nan = ⊥
Alike (inf s) (inf t) = s ≡ t
Alike (inf s) (fin t n d) = ⊥
Alike (fin s m e) nan = ⊥
Alike (fin s m e) (inf t) = ⊥
Alike (fin s m e) (fin t n d) = s ≡ t

alike_nan : (x y : Float) → Alike x y → is_nan x ≡ is_nan y
unfolding is_nan
alike_nan nan nan h = refl
alike_nan nan (inf t) h = absurd h
alike_nan nan (fin t n d) h = absurd h
alike_nan (inf s) nan h = absurd h
alike_nan (inf s) (inf t) h = refl
alike_nan (inf s) (fin t n d) h = absurd h
alike_nan (fin s m e) nan h = absurd h
alike_nan (fin s m e) (inf t) h = absurd h
alike_nan (fin s m e) (fin t n d) h = refl

alike_finite : (x y : Float) → Alike x y → T (finite y) → T (finite x)
alike_finite nan nan h t = t
alike_finite nan (inf s) h t = t
alike_finite nan (fin s m e) h t = h
alike_finite (inf s) nan h t = t
alike_finite (inf s) (inf u) h t = t
alike_finite (inf s) (fin u n d) h t = h
alike_finite (fin s m e) y h t = tt

alike_times : (b : Bool) (x y : Float) → Alike x y → mul binary32 x (recip_other b) ≡ mul binary32 y (recip_other b)
unfolding mul
alike_times b nan nan h = refl
alike_times b nan (inf t) h = absurd h
alike_times b nan (fin t n d) h = absurd h
alike_times b (inf s) nan h = absurd h
alike_times b (inf s) (inf t) h = ap (λ (u : Bool). mul binary32 (inf u) (recip_other b)) h
alike_times b (inf s) (fin t n d) h = absurd h
alike_times b (fin s m e) nan h = absurd h
alike_times b (fin s m e) (inf t) h = absurd h
alike_times true (fin s m e) (fin t n d) h = refl
alike_times false (fin s m e) (fin t n d) h =
    ap (λ (u : Bool). mul binary32 (fin u m e) (recip_other false)) h
    ∙ round_same binary32 (unlike t false) (m * up e * (0 * 1)) (down e * 1) (n * up d * (0 * 1)) (down d * 1) (mul-pos (down_pos e) (omega arith)) (mul-pos (down_pos d) (omega arith))
    (nothing (m * up e) (down d * 1) ∙ sym (nothing (n * up d) (down e * 1)))
  where
    nothing : (k l : ℕ) → k * (0 * 1) * l ≡ 0
    nothing k l = ap (λ (i : ℕ). i * l) (mul-zero k) ∙ zero-mul l

-- a component times a power of two that leaves it below 2
power_alike : (j : ℕ) (x : Float) → T (fits binary32 x) → (T (finite x) → size_in binary32 x < 2 ^ j * 2) → Alike x (times_power j x)
unfolding times_power negative
power_alike j nan f h = tt
power_alike j (inf s) f h = refl
power_alike j (fin s m e) f h = go (times_power j (fin s m e)) _ (part_value j (fin s m e) f tt (h tt))
  where
    go : (y : Float) (n : ℕ) → Value binary32 y (negative (fin s m e)) n → Alike (fin s m e) y
    go nan n v = absurd v
    go (inf t) n v = absurd v
    go (fin t k d) n v = sym v.0

-- ---- a vector with a component that is not finite, and one that is alike
other_alike : (a b : Vec3) → (FiniteVec a → ⊥) → Alike a.x b.x → Alike a.y b.y → Alike a.z b.z → unit_of b ≡ unit_of a
unfolding mul_number
other_alike a b other x y z =
    let n = ap₂ ◌||◌ (ap₂ ◌||◌ (alike_nan a.x b.x x) (alike_nan a.y b.y y)) (alike_nan a.z b.z z) in
    let beside = recip_other_lem b (λ (f : FiniteVec b). other (record { finite_x = alike_finite a.x b.x x f.finite_x; finite_y = alike_finite a.y b.y y f.finite_y; finite_z = alike_finite a.z b.z z f.finite_z })) in
    ap (mul_number b) (beside ∙ ap recip_other (sym n))
    ∙ sym (λ i. vec (alike_times (any_nan a) a.x b.x x i) (alike_times (any_nan a) a.y b.y y i) (alike_times (any_nan a) a.z b.z z i))
    ∙ ap (mul_number a) (sym (recip_other_lem a other))

-- ---- the bits of the largest size
module _ (a : Vec3) where
  abbrev bits : ℕ
  bits = largest_bits a.x a.y a.z

  pub x_bits : size_bits a.x ≤ bits
  unfolding largest_bits
  x_bits = omega arith

  pub y_bits : size_bits a.y ≤ bits
  unfolding largest_bits
  y_bits = omega arith

  pub z_bits : size_bits a.z ≤ bits
  unfolding largest_bits
  z_bits = omega arith

module _ (a : Vec3) (v : F32Vec a) where
  pub unchecked_by_bits : unit_of (each (times_power (log2 (size_of_bits (largest_bits a.x a.y a.z)))) a) ≡ direction_unchecked a
  unfolding direction_unchecked
  unchecked_by_bits = go (ltb (bits a) 2139095040) (ltb→lt (bits a) 2139095040) (nltb→le (bits a) 2139095040)
    where
      j : ℕ
      j = log2 (size_of_bits (bits a))

      alike : (x : Float) → T (fits binary32 x) → size_bits x ≤ bits a → Alike x (times_power j x)
      alike x f h = power_alike j x f (λ t. under_bits x f t (bits a) h)

      go : (b : Bool) → (T b → bits a < 2139095040) → (T (not b) → 2139095040 ≤ bits a) → unit_of (each (times_power j) a) ≡ unit_of (scaled a)
      go true less more = ap unit_of (scaled_by_bits a v (less tt))
      go false less more = other_alike a (each (times_power j) a) other (alike a.x v.f32_x (x_bits a)) (alike a.y v.f32_y (y_bits a)) (alike a.z v.f32_z (z_bits a)) ∙ ap unit_of (scaled_other a v (more tt))
        where
          other : FiniteVec a → ⊥
          other n = not-le_of_lt (finite_largest a.x a.y a.z v.f32_x v.f32_y v.f32_z n.finite_x n.finite_y n.finite_z) (more tt)
