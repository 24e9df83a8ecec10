-- Signs of the elements (document 01, "Masks and vectors": "`abs` of a vector acts on each component"), as src/f32/vec3.rs has them.
use Rattle.std.specs.Prelude.{ℕ}
use Rattle.std.specs.Float.{binary32}
use Rattle.std.specs.Float.Ieee.{of_bits}
use Rattle.laws.specs.Exact.{negative}
use Rattle.scalar.specs.Sign as Sign
use Rattle.vector.specs.declared.vec3.Vec3.{Vec3}
use Rattle.vector.specs.Vectors.{vec, each, both}
use Rattle.vector.specs.Masks.{mask, bitmask}
use Rattle.vector.specs.Comparisons.{each_test}

-- math::abs(self.x) and so on
unfoldable pub abs : Vec3 → Vec3
abs a = each Sign.abs a

-- math::signum(self.x) and so on
unfoldable pub signum : Vec3 → Vec3
signum a = each Sign.signum a

-- math::copysign(self.x, rhs.x) and so on
unfoldable pub copysign : Vec3 → Vec3 → Vec3
copysign a b = both Sign.copysign a b

-- (self.x.is_sign_negative() as u32) | .. << 1 | .. << 2
unfoldable pub is_negative_bitmask : Vec3 → ℕ
is_negative_bitmask a = bitmask (each_test negative a)

-- ---- on bit patterns, where each NaN has its sign

-- the vector of three bit patterns
abbrev pub of_patterns : ℕ → ℕ → ℕ → Vec3
of_patterns x y z = vec (of_bits binary32 x) (of_bits binary32 y) (of_bits binary32 z)

-- the elements x, y, z with the signs of a, b, c
unfoldable pub copysign_bits : ℕ → ℕ → ℕ → ℕ → ℕ → ℕ → Vec3
copysign_bits x y z a b c = of_patterns (Sign.copysign_bits x a) (Sign.copysign_bits y b) (Sign.copysign_bits z c)

-- the sign bits of x, y, z
unfoldable pub is_negative_bitmask_bits : ℕ → ℕ → ℕ → ℕ
is_negative_bitmask_bits x y z = bitmask (mask (Sign.sign_bit x) (Sign.sign_bit y) (Sign.sign_bit z))
