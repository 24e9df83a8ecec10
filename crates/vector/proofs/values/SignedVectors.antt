-- Vectors of exact values, as three signs and three sizes in units of the smallest value: their squared lengths and dot products, and those of the floats
-- that have these values. Assumes nothing.
use mathlib.Core.Path.{◌≡◌, refl, sym, ap₂}
use mathlib.Core.Bool.{Bool, true, false}
use Prim.Native.Nat.{ℕ, ◌+◌, ◌*◌, ◌≤◌}
use native.Mathlib.Nat.{mul_comm, le_of_eq, zero-mul, mul-zero}
use native.Mathlib.Omega.{arith}
use lib.Ieee.{binary32, of_bits, unlike}
use Rattle.laws.specs.Exact.{negative, size_in}
use Rattle.laws.specs.Within.{Within}
use Rattle.laws.proofs.values.SizeLaws.{size_of_value, value_of_size}
use Rattle.laws.proofs.values.ValueLaws.{Value, value_finite}
use Rattle.laws.proofs.operations.SumSigns.{unlike_comm}
use Rattle.laws.proofs.rounding.GridErrorLaws.{unit, half_ulp}
use Rattle.laws.proofs.operations.RoundedOperations.{plus, minus}
use Rattle.vector.proofs.values.ComponentSizes.{size_le, parts_of}
use Rattle.vector.specs.declared.vec3.Vec3.{Vec3}
use Rattle.vector.specs.Vectors.{one}
use Rattle.vector.specs.ExactVectors.{F32Vec, FiniteVec}

-- 1, and half a unit in the last place between 1 and 2: the error of a rounding there
abbrev pub D : ℕ
D = unit binary32

abbrev pub E : ℕ
E = half_ulp binary32

pub record Exact : Type 0 where
  pub sx : Bool
  pub ax : ℕ
  pub sy : Bool
  pub ay : ℕ
  pub sz : Bool
  pub az : ℕ

-- the vector's components have these values
pub record Reads (u : Vec3) (v : Exact) : Type 0 where
  pub at_x : Value binary32 u.x v.sx v.ax
  pub at_y : Value binary32 u.y v.sy v.ay
  pub at_z : Value binary32 u.z v.sz v.az

-- the squared length
abbrev pub norm : Exact → ℕ
norm v = v.ax * v.ax + v.ay * v.ay + v.az * v.az

-- the dot product's positive and its negative terms
abbrev pub above : Exact → Exact → ℕ
above u v = plus (unlike u.sx v.sx) (u.ax * v.ax) + plus (unlike u.sy v.sy) (u.ay * v.ay) + plus (unlike u.sz v.sz) (u.az * v.az)

abbrev pub under : Exact → Exact → ℕ
under u v = minus (unlike u.sx v.sx) (u.ax * v.ax) + minus (unlike u.sy v.sy) (u.ay * v.ay) + minus (unlike u.sz v.sz) (u.az * v.az)

-- the exact dot product is at most c in size
abbrev pub Dot : Exact → Exact → ℕ → Type 0
Dot u v c = Within (above u v) (under u v) c

-- and the exact squared length is c away from s at most
abbrev pub Norm : Exact → ℕ → ℕ → Type 0
Norm v s c = Within (norm v) s c

-- ---- a signed number's two parts
pub both_parts : (s : Bool) (n : ℕ) → plus s n + minus s n ≡ n
both_parts true n = omega arith
both_parts false n = omega arith

pub one_part : (s : Bool) (n : ℕ) → plus s n * minus s n ≤ 0
one_part true n = le_of_eq (zero-mul n)
one_part false n = le_of_eq (mul-zero n)

-- the sum of two of them is at most the sum of their sizes
pub sides : (s t : Bool) (a b n : ℕ) → a + b ≤ n → (plus s a + plus t b ≤ minus s a + minus t b + n) × (minus s a + minus t b ≤ plus s a + plus t b + n)
sides true true a b n h = (omega arith, omega arith)
sides true false a b n h = (omega arith, omega arith)
sides false true a b n h = (omega arith, omega arith)
sides false false a b n h = (omega arith, omega arith)

pub size_of_sum : (r s t : Bool) (c a b e : ℕ) → Within (plus r c + (minus s a + minus t b)) (minus r c + (plus s a + plus t b)) e → c ≤ a + b + e
size_of_sum true true true c a b e h = omega arith
size_of_sum true true false c a b e h = omega arith
size_of_sum true false true c a b e h = omega arith
size_of_sum true false false c a b e h = omega arith
size_of_sum false true true c a b e h = omega arith
size_of_sum false true false c a b e h = omega arith
size_of_sum false false true c a b e h = omega arith
size_of_sum false false false c a b e h = omega arith

pub plain_sign : (s : Bool) → unlike false s ≡ s
plain_sign true = refl
plain_sign false = refl

-- where the squared length is at most 1 and 64 errors, each component is at most 1 and 32 errors
pub sizes : (v : Exact) → norm v ≤ D * D + 64 * (E * D) → (v.ax ≤ D + 32 * E) × ((v.ay ≤ D + 32 * E) × (v.az ≤ D + 32 * E))
sizes v h =
    let squares = parts_of (v.ax * v.ax) (v.ay * v.ay) (v.az * v.az) (D * D + 64 * (E * D)) h in
    (size_le D E v.ax squares.0, (size_le D E v.ay squares.1.0, size_le D E v.az squares.1.1.0))

-- ---- 1
pub one_is : Value binary32 one false D
unfolding of_bits
one_is = (refl, refl)

-- ---- the dot product of b and a is that of a and b
pub above_comm : (a b : Exact) → above a b ≡ above b a
above_comm a b =
    ap₂ ◌+◌ (ap₂ ◌+◌ (ap₂ plus (unlike_comm a.sx b.sx) (mul_comm a.ax b.ax)) (ap₂ plus (unlike_comm a.sy b.sy) (mul_comm a.ay b.ay))) (ap₂ plus (unlike_comm a.sz b.sz) (mul_comm a.az b.az))

pub under_comm : (a b : Exact) → under a b ≡ under b a
under_comm a b =
    ap₂ ◌+◌ (ap₂ ◌+◌ (ap₂ minus (unlike_comm a.sx b.sx) (mul_comm a.ax b.ax)) (ap₂ minus (unlike_comm a.sy b.sy) (mul_comm a.ay b.ay))) (ap₂ minus (unlike_comm a.sz b.sz) (mul_comm a.az b.az))

-- ---- the values of a vector's components
abbrev pub exact_of : Vec3 → Exact
exact_of u = record {
  sx = negative u.x;
  ax = size_in binary32 u.x;
  sy = negative u.y;
  ay = size_in binary32 u.y;
  sz = negative u.z;
  az = size_in binary32 u.z;
}

pub exact_of_lem : (u : Vec3) (v : Exact) → Reads u v → v ≡ exact_of u
exact_of_lem u v r =
    let p = size_of_value binary32 u.x v.sx v.ax r.at_x in
    let q = size_of_value binary32 u.y v.sy v.ay r.at_y in
    let t = size_of_value binary32 u.z v.sz v.az r.at_z in
    λ i. record { sx = sym p.1 i; ax = sym p.0 i; sy = sym q.1 i; ay = sym q.0 i; sz = sym t.1 i; az = sym t.0 i }

pub reads_of : (u : Vec3) → F32Vec u → FiniteVec u → Reads u (exact_of u)
reads_of u f t = record {
  at_x = value_of_size binary32 u.x f.f32_x t.finite_x;
  at_y = value_of_size binary32 u.y f.f32_y t.finite_y;
  at_z = value_of_size binary32 u.z f.f32_z t.finite_z;
}

pub reads_finite : (u : Vec3) (v : Exact) → Reads u v → FiniteVec u
reads_finite u v r = record {
  finite_x = value_finite u.x v.sx v.ax D r.at_x;
  finite_y = value_finite u.y v.sy v.ay D r.at_y;
  finite_z = value_finite u.z v.sz v.az D r.at_z;
}
