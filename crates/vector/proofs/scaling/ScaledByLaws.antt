-- Each component times the power of two that the bits of the largest size tell: one product with it, or two where it is above all f32. Assumes nothing.
use mathlib.Core.Path.{◌≡◌, sym}
use Prim.Native.Nat.{ℕ, ◌+◌, ◌*◌, ◌^◌, ◌≤◌, ◌<◌}
use lib.Dec.{T, lit≤}
use native.Mathlib.Nat.{le_trans}
use lib.Ieee.{Float, binary32, fits}
use lib.Ieee.Scale.{finite}
use Rattle.laws.specs.Exact.{size_in}
use Rattle.scalar.specs.Powers.{times_power, power_of_two, log2}
use Rattle.scalar.specs.SizeBits.{size_bits, largest_bits, size_of_bits}
use Rattle.scalar.proofs.scaling.PowerLaws.{power_factor}
use Rattle.scalar.proofs.scaling.PowerTwiceLaws.{power_twice}
use Rattle.scalar.proofs.scaling.SizeBitsLaws.{log2_range, largest_below, under_bits}
use Rattle.vector.specs.declared.vec3.Vec3.{Vec3}
use Rattle.vector.specs.Vectors.{vec, each}
use Rattle.vector.specs.Operators.{mul_number}
use Rattle.vector.specs.ExactVectors.{F32Vec}
use Rattle.vector.proofs.scaling.UncheckedLaws.{x_bits, y_bits, z_bits}

module _ (v : Vec3) (f : F32Vec v) where
  abbrev j : ℕ
  j = log2 (size_of_bits (largest_bits v.x v.y v.z))

  range : j ≤ 298
  range = le_trans (log2_range (largest_bits v.x v.y v.z) (largest_below v.x v.y v.z)) (lit≤ tt)

  under : (x : Float) → T (fits binary32 x) → size_bits x ≤ largest_bits v.x v.y v.z → T (finite x) → size_in binary32 x < 2 ^ j * 2
  under x g h t = under_bits x g t (largest_bits v.x v.y v.z) h

  -- the power is above all f32: two products
  pub twice : log2 (size_of_bits (largest_bits v.x v.y v.z)) < 22
      → each (times_power (log2 (size_of_bits (largest_bits v.x v.y v.z)))) v
      ≡ mul_number (mul_number v (power_of_two 22)) (power_of_two (127 + log2 (size_of_bits (largest_bits v.x v.y v.z))))
  unfolding mul_number
  twice l = sym (λ i. vec
      (power_twice j l v.x f.f32_x (under v.x f.f32_x (x_bits v)) i)
      (power_twice j l v.y f.f32_y (under v.y f.f32_y (y_bits v)) i)
      (power_twice j l v.z f.f32_z (under v.z f.f32_z (z_bits v)) i))

  -- it is an f32, and one product with it is rounded once
  pub once : 22 ≤ log2 (size_of_bits (largest_bits v.x v.y v.z))
      → each (times_power (log2 (size_of_bits (largest_bits v.x v.y v.z)))) v
      ≡ mul_number v (power_of_two (log2 (size_of_bits (largest_bits v.x v.y v.z))))
  unfolding mul_number
  once l = sym (λ i. vec (power_factor j l range v.x f.f32_x i) (power_factor j l range v.y f.f32_y i) (power_factor j l range v.z f.f32_z i))
