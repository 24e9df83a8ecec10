-- How far the rounded root goes: its square, in sizes, is within 2 parts in 2 ^ 24 of the number under the root. Assumes nothing.
use mathlib.Core.Path.{◌≡◌}
use mathlib.Core.Bool.{false}
use Prim.Native.Nat.{ℕ, ◌+◌, ◌*◌, ◌^◌, ◌≤◌, ◌<◌}
use native.Mathlib.Nat.{mul-le-mul_right}
use native.Mathlib.Omega.{arith}
use lib.Dec.{T}
use lib.Ieee.{Float, binary32, fits}
use lib.Ieee.Scale.{finite}
use Rattle.laws.specs.Exact.{negative, size_in}
use Rattle.laws.specs.Within.{Within}
use Rattle.laws.proofs.values.SizeLaws.{size_of_value}
use Rattle.scalar.specs.Root.{root}
use Rattle.scalar.specs.RootParts.{NearRoot}
use Rattle.scalar.specs.RootMeaning.{radicand}
use Rattle.scalar.proofs.roots.RootMeaningLaws.{Rooted, rooted_at}

-- r is at least 2 ^ 23 and nearest to the root of m, so r² is m within r, and r is at most 2 r² / 2 ^ 24
square_near : (m r : ℕ) → NearRoot m r → Within (r * r * 16777216) (m * 16777216) (2 * (r * r))
square_near m r h =
    let least : 16777216 * r ≤ 2 * r * r = mul-le-mul_right r (twice h.least) in
    let above = h.above in
    let below = h.below in
    omega arith
  where
    twice : 2 ^ 23 ≤ r → 16777216 ≤ 2 * r
    twice h = omega arith

-- the same times u²
scaled : (m r u : ℕ) → Within (r * r * 16777216) (m * 16777216) (2 * (r * r)) → Within (r * u * (r * u) * 16777216) (m * (u * u) * 16777216) (2 * (r * u * (r * u)))
scaled m r u h = omega (arith, mul-le-mul_right (u * u) h.0, mul-le-mul_right (u * u) h.1)

-- an f32 above zero
pub root_near : (x : Float) → T (fits binary32 x) → T (finite x) → negative x ≡ false → 0 < size_in binary32 x
    → Within (size_in binary32 (root x) * size_in binary32 (root x) * 2 ^ 24) (radicand x * 2 ^ 24) (2 * (size_in binary32 (root x) * size_in binary32 (root x)))
root_near x F N P S = rw (size, R.square) (scaled R.m (R.p + 1) (2 ^ R.h) (square_near R.m (R.p + 1) R.near))
  where
    R : Rooted x
    R = rooted_at x F N P S

    size : size_in binary32 (root x) ≡ (R.p + 1) * 2 ^ R.h
    size = (size_of_value binary32 (root x) false ((R.p + 1) * 2 ^ R.h) R.value).0
