-- A vector scaled by the bits of its largest size is the scaled vector. Assumes nothing.
use mathlib.Core.Path.{◌≡◌, refl, sym, ap, ◌∙◌}
use mathlib.Core.Bool.{Bool, true, false, cond, ◌&&◌}
use Prim.Native.Nat.{ℕ, ◌≤◌, ◌<◌}
use native.Mathlib.Nat.{not-le_of_lt}
use lib.Dec.{T}
use lib.Ieee.Bits.{is_true}
use lib.Ieee.Fits.{and_i, and_l, and_r}
use lib.Ieee.Scale.{finite}
use Rattle.scalar.specs.Powers.{times_power, log2}
use Rattle.scalar.specs.SizeBits.{largest_bits, size_of_bits}
use Rattle.scalar.proofs.scaling.SizeBitsLaws.{finite_largest, largest_finite, largest_log2}
use Rattle.vector.specs.declared.vec3.Vec3.{Vec3}
use Rattle.vector.specs.Vectors.{each}
use Rattle.vector.specs.Comparisons.{is_finite}
use Rattle.vector.specs.ExactVectors.{F32Vec, FiniteVec}
use Rattle.vector.specs.Scaled.{largest, scaled}

-- ---- the test for finite components
pub all_finite : (a : Vec3) → FiniteVec a → T (is_finite a)
unfolding is_finite
all_finite a n = and_i (finite a.x && finite a.y) (finite a.z) (and_i (finite a.x) (finite a.y) n.finite_x n.finite_y) n.finite_z

pub finite_all : (a : Vec3) → T (is_finite a) → FiniteVec a
unfolding is_finite
finite_all a t =
    let b = and_l (finite a.x && finite a.y) (finite a.z) t in
    record { finite_x = and_l (finite a.x) (finite a.y) b; finite_y = and_r (finite a.x) (finite a.y) b; finite_z = and_r (finite a.x && finite a.y) (finite a.z) t }

pub scaled_is : (a : Vec3) → FiniteVec a → scaled a ≡ each (times_power (log2 (largest a))) a
unfolding scaled
scaled_is a n = ap (λ (b : Bool). cond b (each (times_power (log2 (largest a))) a) a) (is_true (is_finite a) (all_finite a n))

-- ---- by the bits
module _ (a : Vec3) (v : F32Vec a) where
  abbrev bits : ℕ
  bits = largest_bits a.x a.y a.z

  pub scaled_other : 2139095040 ≤ largest_bits a.x a.y a.z → a ≡ scaled a
  unfolding scaled
  scaled_other h = go (is_finite a) (finite_all a)
    where
      go : (b : Bool) → (T b → FiniteVec a) → a ≡ cond b (each (times_power (log2 (largest a))) a) a
      go true f =
          let n = f tt in
          absurd (not-le_of_lt (finite_largest a.x a.y a.z v.f32_x v.f32_y v.f32_z n.finite_x n.finite_y n.finite_z) h)
      go false f = refl

  pub scaled_by_bits : largest_bits a.x a.y a.z < 2139095040 → each (times_power (log2 (size_of_bits (largest_bits a.x a.y a.z)))) a ≡ scaled a
  scaled_by_bits h =
      let t = largest_finite a.x a.y a.z h in
      ap (λ (j : ℕ). each (times_power j) a) (largest_log2 a.x a.y a.z v.f32_x v.f32_y v.f32_z t.0 t.1 t.2)
      ∙ sym (scaled_is a (record { finite_x = t.0; finite_y = t.1; finite_z = t.2 }))
