-- The whole results are what specs/IntegralMeaning says. Assumes nothing.
use mathlib.Core.Path.{◌≡◌, sym, ap, ◌∙◌, subst}
use mathlib.Core.Bool.{Bool, true, false, not, cond}
use Prim.Native.Nat.{ℕ, ◌+◌, ◌-◌, ◌*◌, ◌/◌, ◌%◌, ◌^◌, ◌≤◌, ◌<◌, compare}
use native.Mathlib.Nat.{le_trans, le_of_eq, lt_of_lt_of_le, lt_of_le_of_lt, le_refl, le-add_right, mul_assoc, mul-one, mul-lt-mul_of_pos_right, div-mul-le_self, lt-div-mul-add, div-lt_iff_lt-mul, div-add-mod', mod-lt, add-mul}
use native.Mathlib.Numerals.{add-one}
use native.Mathlib.Omega.{arith}
use lib.Dec.{T, leb, eqb, eqb→eq, leb→le, nleb→lt}
use lib.Pow.{pow_pos, pow-add, pow_mono}
use lib.Ieee.{Float, binary32, odd, round, fits}
use lib.Ieee.Back.{round_whole}
use lib.Ieee.Exact.{HasValue}
use lib.Ieee.Fits.{nearest-le}
use lib.Ieee.Nearest.{closest}
use lib.Ieee.Scale.{finite}
use Rattle.laws.specs.Exact.{negative, size_in}
use Rattle.laws.proofs.numbers.BoolLaws.{pos_of_not_zero}
use Rattle.laws.proofs.rounding.ClosestLaws.{closest_best, closest_tie}
use Rattle.laws.proofs.values.SizeLaws.{size_of_value, value_of_size}
use Rattle.laws.proofs.values.ValueLaws.{value_finite, value_same}
use Rattle.scalar.specs.Integral.{integral, toward_zero, toward_negative, ties_to_even, trunc, floor, round_even}
use Rattle.scalar.specs.IntegralMeaning.{Whole, Truncated, Floored, RoundedEven}
use Rattle.scalar.specs.Parts.{Split}
use Rattle.scalar.proofs.floats.BitsLaws.{PartsOf, parts_of}
use Rattle.scalar.proofs.floats.PartsLaws.{value_of_parts}
use Rattle.scalar.proofs.floats.FitsLaws.{integral_fits}
use Rattle.scalar.proofs.whole_numbers.IntegralLaws.{Rule, integral_at, whole_stays}
use Rattle.scalar.proofs.whole_numbers.IntegralRules.{toward_zero_rule, toward_negative_rule, ties_to_even_rule}

-- a rule goes at most one above the quotient
abbrev Near : (Bool → ℕ → ℕ → ℕ) → Type 0
Near by = (s : Bool) (a b : ℕ) → by s a b ≤ a / b + 1

module _ (by : Bool → ℕ → ℕ → ℕ) (rule : Rule by) (near : Near by) (x : Float) (fx : T (fits binary32 x)) (tx : T (finite x)) where
  n : ℕ
  n = size_in binary32 x

  has : HasValue x (negative x) n (2 ^ 149)
  unfolding n
  has = value_of_size binary32 x fx tx

  -- the whole number that is taken
  w : ℕ
  w = by (negative x) n (2 ^ 149)

  small : (q k : ℕ) → Split q k → n ≡ q * 2 ^ k → k < 149 → w ≤ 16777216
  unfolding w
  small q k S e h = le_trans (near (negative x) n (2 ^ 149)) (most (n / 2 ^ 149) ((div-lt_iff_lt-mul (pow_pos 149)).1 below))
    where
      most : (m : ℕ) → m < 8388608 → m + 1 ≤ 16777216
      most m h = omega arith

      upto : (k : ℕ) → k < 149 → 24 + k ≤ 172
      upto k h = omega arith

      below : n < 8388608 * 2 ^ 149
      below = lt_of_le_of_lt (le_of_eq e) (lt_of_lt_of_le (mul-lt-mul_of_pos_right S.bits (pow_pos k)) (le_trans (le_of_eq (sym (pow-add 2 24 k))) (pow_mono (upto k h))))

  -- x has no bit below 1: it stays, and so does its size
  whole_value : (s : Bool) (q k : ℕ) → x ≡ odd 24 s q k 149 → Split q k → n ≡ q * 2 ^ k → 149 ≤ k → HasValue (integral by x) (negative x) (w * 2 ^ 149) (2 ^ 149)
  unfolding w
  whole_value s q k e S z h =
      subst (λ (y : Float). HasValue y (negative x) (by (negative x) n (2 ^ 149) * 2 ^ 149) (2 ^ 149)) (whole_stays by rule x s q k e fx S h)
      (subst (λ (m : ℕ). HasValue x (negative x) m (2 ^ 149)) stays has)
    where
      back : (k : ℕ) → 149 ≤ k → k - 149 + 149 ≡ k
      back k h = omega arith

      joined : n ≡ q * 2 ^ (k - 149) * 2 ^ 149
      joined = z ∙ sym (mul_assoc q (2 ^ (k - 149)) (2 ^ 149) ∙ ap (λ (m : ℕ). q * m) (sym (pow-add 2 (k - 149) 149) ∙ ap (λ (m : ℕ). 2 ^ m) (back k h)))

      stays : n ≡ by (negative x) n (2 ^ 149) * 2 ^ 149
      stays = joined ∙ ap (λ (m : ℕ). m * 2 ^ 149) (sym (ap (λ (m : ℕ). by (negative x) m (2 ^ 149)) joined ∙ rule.keeps (negative x) (q * 2 ^ (k - 149)) (2 ^ 149) (pow_pos 149)))

  -- it has some: the whole number is small
  small_value : w ≤ 16777216 → HasValue (integral by x) (negative x) (w * 2 ^ 149) (2 ^ 149)
  small_value h =
      subst (λ (y : Float). HasValue y (negative x) (w * 2 ^ 149) (2 ^ 149)) (sym at)
      (value_same (round binary32 (negative x) w 1) (negative x) w 1 (w * 2 ^ 149) (2 ^ 149) (pow_pos 0) (sym (mul-one (w * 2 ^ 149))) (round_whole binary32 (negative x) w h))
    where
      at : integral by x ≡ round binary32 (negative x) w 1
      at = unfold w in integral_at by rule.respects x (negative x) n (2 ^ 149) (pow_pos 149) has

  integral_whole : Whole x (integral by x) (by (negative x) (size_in binary32 x) (2 ^ 149))
  unfolding w n
  integral_whole =
      let v = size_of_value binary32 (integral by x) (negative x) (w * 2 ^ 149) value in
      record { value = integral_fits by x; number = value_finite (integral by x) (negative x) (w * 2 ^ 149) (2 ^ 149) value; sign = v.1; size = v.0 }
    where
      p : PartsOf x
      p = parts_of x fx tx

      size : size_in binary32 x ≡ p.q * 2 ^ p.k
      size = (size_of_value binary32 x p.s (p.q * 2 ^ p.k) (value_of_parts x p.s p.q p.k p.is)).0

      go : (b : Bool) → (T b → 149 ≤ p.k) → (T (not b) → p.k < 149) → HasValue (integral by x) (negative x) (w * 2 ^ 149) (2 ^ 149)
      go true f g = whole_value p.s p.q p.k p.is p.split size (f tt)
      go false f g = small_value (small p.q p.k p.split size (g tt))

      value : HasValue (integral by x) (negative x) (w * 2 ^ 149) (2 ^ 149)
      value = go (leb 149 p.k) (leb→le 149 p.k) (nleb→lt 149 p.k)

-- ---- toward zero

-- the multiple of u at or below a
downward : (a u : ℕ) → 0 < u → (a / u * u ≤ a) × (a < (a / u + 1) * u)
downward a u U = (div-mul-le_self a u, subst (λ (m : ℕ). a < m) (sym (next (a / u) u)) (lt-div-mul-add U))
  where
    next : (w u : ℕ) → (w + 1) * u ≡ w * u + u
    next w u = omega (arith, add-mul w 1 u)

pub trunc_means : (x : Float) → T (fits binary32 x) → T (finite x) → Truncated x (trunc x)
trunc_means x fx tx =
    let d = downward (size_in binary32 x) (2 ^ 149) (pow_pos 149) in
    record { w = size_in binary32 x / 2 ^ 149; whole = integral_whole toward_zero toward_zero_rule (λ s a b. le-add_right (a / b) 1) x fx tx; below = d.0; above = d.1 }

-- ---- toward negative
toward_negative_near : (s : Bool) (a b : ℕ) → toward_negative s a b ≤ a / b + 1
toward_negative_near false a b = le-add_right (a / b) 1
toward_negative_near true a b = go (eqb (a % b) 0)
  where
    go : (t : Bool) → a / b + cond t 0 1 ≤ a / b + 1
    go true = omega arith
    go false = le_refl (a / b + 1)

-- the next multiple of u at or above a
upward : (a u : ℕ) → 0 < u → (a ≤ toward_negative true a u * u) × (toward_negative true a u * u < a + u)
upward a u U = go (a / u) (a % u) (eqb (a % u) 0) (eqb→eq (a % u) 0) (pos_of_not_zero (a % u)) (div-add-mod' a u) (mod-lt a U)
  where
    go : (w r : ℕ) (t : Bool) → (T t → r ≡ 0) → (T (not t) → 0 < r) → w * u + r ≡ a → r < u → (a ≤ (w + cond t 0 1) * u) × ((w + cond t 0 1) * u < a + u)
    go w r true f g e l = let z = f tt in let s = add-mul w 0 u in (omega arith, omega arith)
    go w r false f g e l = let z = g tt in let s = add-mul w 1 u in (omega arith, omega arith)

pub floor_means : (x : Float) → T (fits binary32 x) → T (finite x) → Floored x (floor x)
floor_means x fx tx =
    record {
      w = toward_negative (negative x) n (2 ^ 149);
      whole = integral_whole toward_negative toward_negative_rule toward_negative_near x fx tx;
      positive = λ h. subst (λ (s : Bool). (toward_negative s n (2 ^ 149) * 2 ^ 149 ≤ n) × (n < (toward_negative s n (2 ^ 149) + 1) * 2 ^ 149)) (sym h) (downward n (2 ^ 149) (pow_pos 149));
      minus = λ h. subst (λ (s : Bool). (n ≤ toward_negative s n (2 ^ 149) * 2 ^ 149) × (toward_negative s n (2 ^ 149) * 2 ^ 149 < n + 2 ^ 149)) (sym h) (upward n (2 ^ 149) (pow_pos 149));
    }
  where
    n : ℕ
    n = size_in binary32 x

-- ---- ties to even
ties_to_even_near : (s : Bool) (a b : ℕ) → ties_to_even s a b ≤ a / b + 1
ties_to_even_near s a b = le_trans (nearest-le (a / b) (compare (a % b * 2) b)) (le_of_eq (sym (add-one (a / b))))

pub round_means : (x : Float) → T (fits binary32 x) → T (finite x) → RoundedEven x (round_even x)
round_means x fx tx =
    let n = size_in binary32 x in
    record {
      w = closest n (2 ^ 149);
      whole = integral_whole ties_to_even ties_to_even_rule ties_to_even_near x fx tx;
      nearest = λ v. closest_best n (2 ^ 149) v (pow_pos 149);
      even = λ v d e. closest_tie n (2 ^ 149) v (pow_pos 149) d e;
    }
