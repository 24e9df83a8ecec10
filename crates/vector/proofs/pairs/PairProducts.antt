-- The pair of directions orthogonal to n = (x, y, z): its reciprocal and its products, in whole numbers. 1 is d, a rounding's error is e, X, Y and Z are sizes.
-- A signed number h is hp - hm.
-- Each law follows from its hypotheses times one another's bounds. Assumes nothing.
use Prim.Native.Nat.{ℕ, ◌+◌, ◌*◌, ◌≤◌, ◌<◌}
use native.Mathlib.Nat.{mul-le-mul_left, le_of_mul-le-mul_right}
use native.Mathlib.Omega.{arith}
use Rattle.laws.specs.Within.{Within}

-- α is the reciprocal of 1 + z within 5 errors: t is 1 + z rounded (ht), and α is 1 / t rounded (ha)
pub turned : (d e z t α : ℕ) → 100000 * e ≤ d → Within t (d + z) (2 * e) → Within (α * t) (d * d) (e * t) → z ≤ d + 32 * e → α ≤ d
    → Within (α * (d + z)) (d * d) (5 * (e * d))
turned d e z t α k ht ha hz hα = (
  omega (arith, mul-le-mul_left e k, mul-le-mul_left e ht.0, mul-le-mul_left α ht.1, mul-le-mul_left e hz, mul-le-mul_left e hα),
  omega (arith, mul-le-mul_left e k, mul-le-mul_left e ht.0, mul-le-mul_left α ht.0, mul-le-mul_left e hz, mul-le-mul_left e hα),
)

-- α σ is 1 - z within 70 errors, σ being x² + y²: α (1 + z) is near 1 (c0) and σ + z² is near 1 (n); the factor 1 + z is cancelled
pub along : (d e z α σ : ℕ) → 100000 * e ≤ d → Within (α * (d + z)) (d * d) (5 * (e * d)) → Within (σ + z * z) (d * d) (64 * (e * d)) → 0 < d + z
    → Within (α * σ + d * d * z) (d * d * d) (70 * (e * d * d))
along d e z α σ k c0 n some = (
  let g : (α * σ + d * d * z) * (d + z) ≤ (d * d * d + 70 * (e * d * d)) * (d + z) = omega (arith, mul-le-mul_left (d * d * e) k, mul-le-mul_left σ c0.0, mul-le-mul_left (d * d) n.0, mul-le-mul_left (d * e) n.0) in le_of_mul-le-mul_right g some,
  let g : d * d * d * (d + z) ≤ (α * σ + d * d * z + 70 * (e * d * d)) * (d + z) = omega (arith, mul-le-mul_left (d * d * e) k, mul-le-mul_left σ c0.1, mul-le-mul_left (d * e) n.0, mul-le-mul_left (d * d) n.1) in le_of_mul-le-mul_right g some,
)

-- 1 + α² σ is 2 α within 75 errors: α times the last law (c1), and α (1 + z) near 1 (c0)
pub doubled : (d e z α σ : ℕ) → Within (α * (d + z)) (d * d) (5 * (e * d)) → Within (α * σ + d * d * z) (d * d * d) (70 * (e * d * d)) → α ≤ d
    → Within (d * d * d * d + α * α * σ) (2 * (α * (d * d * d))) (75 * (e * d * d * d))
doubled d e z α σ c0 c1 hα = (
  omega (arith, mul-le-mul_left (d * d) c0.1, mul-le-mul_left α c1.0, mul-le-mul_left (d * d * e) hα),
  omega (arith, mul-le-mul_left (d * d) c0.0, mul-le-mul_left α c1.1, mul-le-mul_left (d * d * e) hα),
)

-- h is 1 - α x² within 3 errors: p = x² (hp1), γ = p α (hγ) and h = 1 - γ (hh) are each rounded once
pub first : (d e α x p γ hp hm : ℕ) → α ≤ d → Within (p * d) (x * x) (e * d) → Within (γ * d) (p * α) (e * d) → Within (hp + γ) (d + hm) e
    → Within (d * d * hp + α * (x * x)) (d * d * d + d * d * hm) (3 * (e * d * d))
first d e α x p γ hp hm hα hp1 hγ hh = (
  omega (arith, mul-le-mul_left (e * d) hα, mul-le-mul_left α hp1.1, mul-le-mul_left d hγ.1, mul-le-mul_left (d * d) hh.0),
  omega (arith, mul-le-mul_left (e * d) hα, mul-le-mul_left α hp1.0, mul-le-mul_left d hγ.0, mul-le-mul_left (d * d) hh.1),
)

-- b is α x y within 2 errors: p = x y (hp1) and b = p α (hb) are each rounded once
pub second : (d e α x y p b : ℕ) → α ≤ d → Within (p * d) (x * y) (e * d) → Within (b * d) (p * α) (e * d)
    → Within (d * d * b) (α * (x * y)) (2 * (e * d * d))
second d e α x y p b hα hp1 hb = (
  omega (arith, mul-le-mul_left (e * d) hα, mul-le-mul_left α hp1.0, mul-le-mul_left d hb.0),
  omega (arith, mul-le-mul_left (e * d) hα, mul-le-mul_left α hp1.1, mul-le-mul_left d hb.1),
)
