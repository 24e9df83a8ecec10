-- A vector brought to a largest size of at least 1 and below 2 (document 02, f: "multiply its components by the power of two that brings the largest size to at least 1
-- and below 2 .. each exact product is rounded once to f32, also where the power itself is no f32").
use Rattle.std.specs.Prelude.{ℕ, cond}
use Rattle.std.specs.Float.{binary32}
use Rattle.laws.specs.Exact.{size_in}
use Rattle.scalar.specs.Powers.{times_power, log2, larger}
use Rattle.vector.specs.declared.vec3.Vec3.{Vec3}
use Rattle.vector.specs.Vectors.{each}
use Rattle.vector.specs.Comparisons.{is_finite}

-- the largest size of the components, in whole numbers of 2^-149
abbrev pub largest : Vec3 → ℕ
largest a = larger (size_in binary32 a.x) (larger (size_in binary32 a.y) (size_in binary32 a.z))

-- With 2^j ≤ M < 2^(j+1) for the largest size M the power is 2^(149-j). Three zeros stay what they are, and so does a vector with a component that is not finite.
unfoldable pub scaled : Vec3 → Vec3
scaled a = cond (is_finite a) (each (times_power (log2 (largest a))) a) a
