-- Rounded operations keep the order of the floats from zero up, in any format, where results overflow or vanish too: rounding (the kit's `round_mono`), the
-- product of a number with itself, and the sum. Assumes nothing.
use mathlib.Core.Bool.{false}
use Prim.Native.Nat.{ℕ, ◌+◌, ◌*◌, ◌≤◌, ◌<◌}
use native.Mathlib.Nat.{le_trans, le_of_eq, mul-pos, mul-le-mul, mul-le-mul_right, mul-mul-mul_comm}
use native.Mathlib.Omega.{arith}
use lib.IntN.{ℤ}
use lib.Ieee.{Float, inf, fin, Format, up, down, round, sum, add, mul}
use lib.Ieee.Fits.{down_pos}
use lib.Ieee.Order.{round_mono}
use Rattle.laws.proofs.values.AscendingLaws.{Ascends, fractions, below_infinity, infinities, ascends, to_infinity}
use Rattle.laws.proofs.rounding.RoundNearest.{round_nearest}

-- ---- a / p ≤ b / q, squared; and added to c / r ≤ d / s
squares : (a b p q : ℕ) → a * q ≤ b * p → a * a * (q * q) ≤ b * b * (p * p)
squares a b p q h = le_trans (le_of_eq (mul-mul-mul_comm a a q q)) (le_trans (mul-le-mul h h) (le_of_eq (mul-mul-mul_comm b p b p)))

sums : (a b c d p q r s : ℕ) → a * q ≤ b * p → c * s ≤ d * r → (a * r + c * p) * (q * s) ≤ (b * s + d * q) * (p * r)
sums a b c d p q r s h k = omega (arith, mul-le-mul_right (r * s) h, mul-le-mul_right (p * q) k)

both_pos : (e d : ℤ) → 0 < down e * down d
both_pos e d = mul-pos (down_pos e) (down_pos d)

module _ (f : Format) where
  -- ---- rounding
  pub round_ascends : (a b c d : ℕ) → 0 < b → 0 < d → a * d ≤ c * b → Ascends (round f false a b) (round f false c d)
  round_ascends a b c d B D h = ascends (round f false a b) (round f false c d) (round_nearest f false a b B).sign (round_nearest f false c d D).sign (round_mono f a b c d B D h)

  round_last : (a b : ℕ) → 0 < b → Ascends (round f false a b) (inf false)
  round_last a b B = let r = round_nearest f false a b B in to_infinity (round f false a b) r.sign r.number

  -- ---- the product of a number with itself
  pub square_ascends : {x y : Float} → Ascends x y → Ascends (mul f x x) (mul f y y)
  unfolding mul
  square_ascends (fractions m e n d h) =
      round_ascends (m * up e * (m * up e)) (down e * down e) (n * up d * (n * up d)) (down d * down d) (both_pos e e) (both_pos d d) (squares (m * up e) (n * up d) (down e) (down d) h)
  square_ascends (below_infinity m e) = round_last (m * up e * (m * up e)) (down e * down e) (both_pos e e)
  square_ascends infinities = infinities

  -- ---- the sum
  sum_last : (m : ℕ) (e : ℤ) (n : ℕ) (d : ℤ) → Ascends (add f (fin false m e) (fin false n d)) (inf false)
  unfolding add sum
  sum_last m e n d = round_last (m * up e * down d + n * up d * down e) (down e * down d) (both_pos e d)

  pub sum_ascends : {x x' y y' : Float} → Ascends x x' → Ascends y y' → Ascends (add f x y) (add f x' y')
  unfolding add sum
  sum_ascends (fractions m e n d h) (fractions k g l i j) =
      round_ascends (m * up e * down g + k * up g * down e) (down e * down g) (n * up d * down i + l * up i * down d) (down d * down i) (both_pos e g) (both_pos d i)
      (sums (m * up e) (n * up d) (k * up g) (l * up i) (down e) (down d) (down g) (down i) h j)
  sum_ascends (fractions m e n d h) (below_infinity k g) = sum_last m e k g
  sum_ascends (fractions m e n d h) infinities = infinities
  sum_ascends (below_infinity m e) (fractions k g l i j) = sum_last m e k g
  sum_ascends (below_infinity m e) (below_infinity k g) = sum_last m e k g
  sum_ascends (below_infinity m e) infinities = infinities
  sum_ascends infinities (fractions k g l i j) = infinities
  sum_ascends infinities (below_infinity k g) = infinities
  sum_ascends infinities infinities = infinities
