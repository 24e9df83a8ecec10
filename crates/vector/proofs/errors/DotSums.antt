-- The roundings of a dot product, in whole numbers: q1, q2, q3 are the exact products' sizes, p1, p2, p3 the rounded ones, t and s the two sums.
-- 1 is d, a rounding's error is e; a signed number a is ap - am. Assumes nothing.
use Prim.Native.Nat.{ℕ, ◌+◌, ◌*◌, ◌≤◌, ◌<◌}
use native.Mathlib.Nat.{mul-le-mul_right, le_of_mul-le-mul_right}
use native.Mathlib.Omega.{arith}
use Rattle.laws.specs.Within.{Within}

-- the first sum is at most 2
pub two_sum : (d e q1 q2 q3 g p1 p2 : ℕ) → g + 5 * (e * d) ≤ d * d → q1 + q2 + q3 ≤ d * d + g → Within (p1 * d) q1 (e * d) → Within (p2 * d) q2 (e * d) → 0 < d
    → p1 + p2 ≤ d * 2
two_sum d e q1 q2 q3 g p1 p2 hg hq n1 n2 some = let k : (p1 + p2) * d ≤ d * 2 * d = omega arith in le_of_mul-le-mul_right k some

-- and so is the second
pub three_sum : (d e q1 q2 q3 g p1 p2 p3 t : ℕ) → g + 5 * (e * d) ≤ d * d → q1 + q2 + q3 ≤ d * d + g → Within (p1 * d) q1 (e * d) → Within (p2 * d) q2 (e * d) → Within (p3 * d) q3 (e * d) → t ≤ p1 + p2 + e → 0 < d
    → t + p3 ≤ d * 2
three_sum d e q1 q2 q3 g p1 p2 p3 t hg hq n1 n2 n3 ht some = let k : (t + p3) * d ≤ d * 2 * d = omega (arith, mul-le-mul_right d ht) in le_of_mul-le-mul_right k some

-- the size of the whole, where the exact products' sizes add up to at most 1 + g
pub sum_size : (d e q1 q2 q3 g p1 p2 p3 t s : ℕ) → q1 + q2 + q3 ≤ d * d + g → Within (p1 * d) q1 (e * d) → Within (p2 * d) q2 (e * d) → Within (p3 * d) q3 (e * d) → t ≤ p1 + p2 + e → s ≤ t + p3 + e
    → s * d ≤ d * d + g + 5 * (e * d)
sum_size d e q1 q2 q3 g p1 p2 p3 t s hq n1 n2 n3 ht hs = omega (arith, mul-le-mul_right d ht, mul-le-mul_right d hs)

-- s is the sum of the exact products a1, a2, a3 within five errors, one of each rounding
pub dot_sum : (d e sp sm tp tm p1p p1m p2p p2m p3p p3m a1p a1m a2p a2m a3p a3m : ℕ) → Within (sp + (tm + p3m)) (sm + (tp + p3p)) e → Within (tp + (p1m + p2m)) (tm + (p1p + p2p)) e → Within (p1p * d + a1m) (p1m * d + a1p) (e * d) → Within (p2p * d + a2m) (p2m * d + a2p) (e * d) → Within (p3p * d + a3m) (p3m * d + a3p) (e * d)
    → Within (sp * d + (a1m + a2m + a3m)) (sm * d + (a1p + a2p + a3p)) (5 * (e * d))
dot_sum d e sp sm tp tm p1p p1m p2p p2m p3p p3m a1p a1m a2p a2m a3p a3m hs ht h1 h2 h3 =
    (omega (arith, mul-le-mul_right d hs.0, mul-le-mul_right d ht.0), omega (arith, mul-le-mul_right d hs.1, mul-le-mul_right d ht.1))
