-- Each meaning of this crate determines its answer: a finite f32 is told by its sign and size. Assumes nothing.
use mathlib.Core.Path.{◌≡◌, refl, sym, ap, ◌∙◌}
use mathlib.Core.Bool.{Bool, true, false}
use mathlib.Core.Logic.{inl, inr}
use Prim.Native.Nat.{ℕ, ◌+◌, ◌*◌, ◌%◌, ◌^◌, ◌≤◌, ◌<◌}
use native.Mathlib.Nat.{le_refl, le_antisymm, lt_of_mul-lt-mul_right, add-mul}
use native.Mathlib.Omega.{arith}
use lib.Arith.{digits_mod}
use lib.Pow.{pow_pos}
use lib.Ieee.{Float, binary32}
use lib.Ieee.Nearest.{closest}
use Rattle.laws.specs.Within.{distance, Within}
use Rattle.laws.specs.Exact.{negative, size_in}
use Rattle.laws.specs.Determines.{Determines}
use Rattle.laws.proofs.numbers.CompareLaws.{equal_or_not}
use Rattle.laws.proofs.rounding.ClosestLaws.{closest_near, near_of_best, even_unique}
use Rattle.laws.proofs.numbers.SignedLaws.{zero_or_signed}
use Rattle.laws.proofs.values.SizeLaws.{size_unique}
use Rattle.laws.proofs.values.ValueOrderLaws.{same_bool}
use Rattle.laws.proofs.rounding.RoundDetermined.{rounding_determined}
use Rattle.scalar.specs.RootMeaning.{NearestRoot}
use Rattle.scalar.specs.ExactRootMeaning.{Exactness}
use Rattle.scalar.specs.FusedMeaning.{RoundedOnce, exact_sum}
use Rattle.scalar.specs.IntegralMeaning.{Whole, Truncated, Floored, RoundedEven}
use Rattle.scalar.specs.RemainderMeaning.{Remainder}
use Rattle.scalar.specs.Determined.{Determined}
use Rattle.scalar.proofs.roots.RootOrderLaws.{nearest_order}

-- ---- the root: neither of two is below the other
root_determines : (x : Float) → Determines (NearestRoot x)
root_determines x r t m l =
    size_unique binary32 r t m.value l.value m.number l.number (m.sign ∙ sym l.sign)
    (le_antisymm (nearest_order x x r t m l (le_refl (size_in binary32 x))) (nearest_order x x t r l m (le_refl (size_in binary32 x))))

-- ---- its mark: were one of two set, so would the other be
exactness_determines : (x : Float) → Determines (Exactness x)
exactness_determines x b c m l = same_bool b c (λ t. let s = m.some t in l.marked s.0 s.1) (λ t. let s = l.some t in m.marked s.0 s.1)

-- ---- the fused multiply-add: the exact sum is zero, or has a sign and a size that are rounded
fused_determines : (a b c : Float) → Determines (RoundedOnce a b c)
fused_determines a b c r t m l =
    elim (zero_or_signed (exact_sum a b c)) [
      | inl e ↦ m.none e ∙ sym (l.none e)
      | inr (s, n, h, e) ↦ rounding_determined binary32 s n (2 ^ 298) (pow_pos 298) r t (m.some s n h e) (l.some s n h e)
    ]

-- ---- whole results: by the whole number
whole_same : (x r t : Float) (w v : ℕ) → Whole x r w → Whole x t v → w ≡ v → r ≡ t
whole_same x r t w v m l e =
    size_unique binary32 r t m.value l.value m.number l.number (m.sign ∙ sym l.sign) (m.size ∙ ap (λ (n : ℕ). n * 2 ^ 149) e ∙ sym l.size)

-- less than a step above is not above
no_step : (u w v : ℕ) → w * u < v * u + u → w ≤ v
no_step u w v h = less (lt_of_mul-lt-mul_right u (omega (arith, add-mul v 1 u)))
  where
    less : w < v + 1 → w ≤ v
    less h = omega arith

-- the multiple of u at or below n, and the one at or above it
below_same : (n u w v : ℕ) → (w * u ≤ n) × (n < (w + 1) * u) → (v * u ≤ n) × (n < (v + 1) * u) → w ≡ v
below_same n u w v h k = le_antisymm (no_step u w v (omega (arith, add-mul v 1 u))) (no_step u v w (omega (arith, add-mul w 1 u)))

above_same : (n u w v : ℕ) → (n ≤ w * u) × (w * u < n + u) → (n ≤ v * u) × (v * u < n + u) → w ≡ v
above_same n u w v h k = le_antisymm (no_step u w v (omega arith)) (no_step u v w (omega arith))

trunc_determines : (x : Float) → Determines (Truncated x)
trunc_determines x r t m l = whole_same x r t m.w l.w m.whole l.whole (below_same (size_in binary32 x) (2 ^ 149) m.w l.w (m.below, m.above) (l.below, l.above))

floor_determines : (x : Float) → Determines (Floored x)
floor_determines x r t m l = whole_same x r t m.w l.w m.whole l.whole (go (negative x) refl)
  where
    go : (s : Bool) → negative x ≡ s → m.w ≡ l.w
    go false e = below_same (size_in binary32 x) (2 ^ 149) m.w l.w (m.positive e) (l.positive e)
    go true e = above_same (size_in binary32 x) (2 ^ 149) m.w l.w (m.minus e) (l.minus e)

round_determines : (x : Float) → Determines (RoundedEven x)
round_determines x r t m l = whole_same x r t m.w l.w m.whole l.whole (elim (equal_or_not m.w l.w) [ inl e ↦ e | inr d ↦ both_even d ])
  where
    n : ℕ
    n = size_in binary32 x

    near : (w : ℕ) → ((v : ℕ) → distance (w * 2 ^ 149) n ≤ distance (v * 2 ^ 149) n) → Within (w * 2 ^ 149 * 2) (n * 2) (2 ^ 149)
    near w h = near_of_best n (2 ^ 149) (closest n (2 ^ 149)) w (closest_near n (2 ^ 149) (pow_pos 149)) (h (closest n (2 ^ 149)))

    level : distance (m.w * 2 ^ 149) n ≡ distance (l.w * 2 ^ 149) n
    level = le_antisymm (m.nearest l.w) (l.nearest m.w)

    both_even : (m.w ≡ l.w → ⊥) → m.w ≡ l.w
    both_even d =
        even_unique n (2 ^ 149) m.w l.w (pow_pos 149) (near m.w m.nearest) (near l.w l.nearest) (m.even l.w d level) (l.even m.w (λ e. d (sym e)) (sym level))

-- ---- the remainder: there is one number below the divisor
rem_determines : (a b : Float) → Determines (Remainder a b)
rem_determines a b r t m l = size_unique binary32 r t m.value l.value m.number l.number (m.sign ∙ sym l.sign) (is r m ∙ sym (is t l))
  where
    is : (r : Float) (m : Remainder a b r) → size_in binary32 r ≡ size_in binary32 a % size_in binary32 b
    is r m = sym (ap (λ (n : ℕ). n % size_in binary32 b) m.exact ∙ digits_mod m.quotient m.smaller)

pub determined : Determined
determined = record {
  root = root_determines;
  exactness = exactness_determines;
  mul_add = fused_determines;
  trunc = trunc_determines;
  floor = floor_determines;
  round = round_determines;
  rem = rem_determines;
  times_power = λ j x. rounding_determined binary32 (negative x) (size_in binary32 x) _ (pow_pos _);
}
