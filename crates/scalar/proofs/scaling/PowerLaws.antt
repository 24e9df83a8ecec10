-- A number times a power of two: by the one rounding of its significand, and by the product with the power where that is an f32. Assumes nothing.
use mathlib.Core.Path.{◌≡◌, refl, sym, ap, ◌∙◌, subst}
use mathlib.Core.Bool.{Bool, true, false, cond}
use mathlib.Core.Logic.{inl, inr}
use Prim.Native.Nat.{ℕ, zero, suc, ◌+◌, ◌-◌, ◌*◌, ◌%◌, ◌^◌, ◌≤◌, ◌<◌}
use native.Mathlib.Nat.{le_trans, le_of_eq, le_of_lt, lt_of_lt_of_le, lt_of_le_of_lt, mul-le-mul_right, mul-lt-mul_of_pos_right, mul_assoc, mul-one, one-mul, mul-pos, mod-eq_of_lt}
use native.Mathlib.Omega.{arith}
use lib.Dec.{T, lit≤, lit<}
use lib.Pow.{pow_pos, pow-add, pow-lt, pow_mono}
use lib.Ieee.{Float, nan, inf, fin, binary32, up, down, unlike, odd, units, round, mul, fits, of_bits}
use lib.Ieee.Bits.{of_bits-fits}
use lib.Ieee.Exact.{units_val, round_exact}
use lib.Ieee.Fits.{down_pos, round-fits}
use lib.Ieee.Positive.{positive, positive_of_value}
use lib.Ieee.Scale.{round_same}
use Rattle.laws.specs.Exact.{negative, size_in}
use Rattle.laws.proofs.numbers.BoolLaws.{not_zero}
use Rattle.laws.proofs.values.ValueLaws.{Value, value_same, value_unique}
use Rattle.laws.proofs.values.SizeLaws.{value_of_size}
use Rattle.laws.proofs.operations.OperationLaws.{mul_at}
use Rattle.laws.proofs.rounding.ErrorLaws.{rounded_none, rounded_value}
use Rattle.scalar.specs.Parts.{Split, Packs}
use Rattle.scalar.specs.Powers.{times_power, power_of_two}
use Rattle.scalar.proofs.floats.PartsLaws.{Other, other, value_of_parts, parts_under}
use Rattle.scalar.proofs.floats.PackLaws.{pack_is}
use Rattle.scalar.proofs.products.RoundPackLaws.{round_zero}

-- ±N smallest values times 2 ^ (149 - j) are ±N / 2 ^ j
pub power_at : (j : ℕ) (x : Float) (s : Bool) (N : ℕ) → Value binary32 x s N → times_power j x ≡ round binary32 s N (2 ^ j)
unfolding times_power
power_at j nan s N h = absurd h
power_at j (inf t) s N h = absurd h
power_at j (fin t m e) s N h =
    ap (λ (b : Bool). round binary32 b (m * up e * 2 ^ 149) (down e * 2 ^ j)) h.0
    ∙ round_same binary32 s (m * up e * 2 ^ 149) (down e * 2 ^ j) N (2 ^ j) (mul-pos (down_pos e) (pow_pos j)) (pow_pos j)
    (ap (λ (n : ℕ). n * 2 ^ j) h.1 ∙ mul_assoc N (down e) (2 ^ j))

-- the same with both counted in smallest values
pub power_sized : (j : ℕ) (x : Float) (s : Bool) (N : ℕ) → Value binary32 x s N → times_power j x ≡ round binary32 s (N * 2 ^ 149) (2 ^ j * 2 ^ 149)
power_sized j x s N h =
    power_at j x s N h
    ∙ round_same binary32 s N (2 ^ j) (N * 2 ^ 149) (2 ^ j * 2 ^ 149) (pow_pos j) (mul-pos (pow_pos j) (pow_pos 149)) (turn N (2 ^ j) (2 ^ 149))
  where
    turn : (n p d : ℕ) → n * (p * d) ≡ n * d * p
    turn n p d = omega arith

-- ---- what is not finite stays
pub power_other : (j : ℕ) (x : Float) → Other x → x ≡ times_power j x
unfolding times_power
power_other j x (inl e) = e ∙ sym (ap (times_power j) e)
power_other j x (inr p) = p.1 ∙ sym (ap (times_power j) p.1)

-- ---- by the one rounding
module _ (j : ℕ) (x : Float) (s : Bool) (q k : ℕ) (e : x ≡ odd 24 s q k 149) where
  parts : times_power j x ≡ round binary32 s (q * 2 ^ k) (2 ^ j)
  parts = power_at j x s (q * 2 ^ k) (value_of_parts x s q k e)

  pub power_rounded : j ≤ 426 → round binary32 s (q * 2 ^ (k + 426 - j)) (2 ^ 426) ≡ times_power j x
  power_rounded h =
      round_same binary32 s (q * 2 ^ (k + 426 - j)) (2 ^ 426) (q * 2 ^ k) (2 ^ j) (pow_pos 426) (pow_pos j)
      (mul_assoc q (2 ^ (k + 426 - j)) (2 ^ j)
      ∙ ap (λ (n : ℕ). q * n) (sym (pow-add 2 (k + 426 - j) j) ∙ ap (λ (n : ℕ). 2 ^ n) (whole k j h) ∙ pow-add 2 k 426)
      ∙ sym (mul_assoc q (2 ^ k) (2 ^ 426)))
      ∙ sym parts
    where
      whole : (k j : ℕ) → j ≤ 426 → k + 426 - j + j ≡ k + 426
      whole k j h = omega arith

  -- below half the smallest value
  pub power_none : Split q k → 426 < j → units binary32 s 0 0 ≡ times_power j x
  power_none p h =
      round_zero s 0 0 refl
      ∙ value_unique binary32 (round binary32 s 0 (2 ^ 426)) (times_power j x) s 0 (round-fits binary32 s 0 (2 ^ 426)) fit nothing
      (subst (λ (n : ℕ). Value binary32 (times_power j x) s n) (rounded_none binary32 (q * 2 ^ k * 2 ^ 149) (2 ^ j) (pow_pos j) small)
      (rounded_value binary32 (q * 2 ^ k * 2 ^ 149) (2 ^ j) 0 (pow_pos j) less (times_power j x) s (lit≤ tt) (power_sized j x s (q * 2 ^ k) (value_of_parts x s q k e))))
    where
      fit : T (fits binary32 (times_power j x))
      fit = subst (λ (y : Float). T (fits binary32 y)) (sym parts) (round-fits binary32 s (q * 2 ^ k) (2 ^ j))

      nothing : Value binary32 (round binary32 s 0 (2 ^ 426)) s 0
      nothing = value_same (round binary32 s 0 (2 ^ 426)) s 0 (2 ^ 426) 0 (2 ^ 149) (pow_pos 426) refl (round_exact binary32 s 0 (2 ^ 426) 0 0 (pow_pos 426) (lit< tt) (lit< tt) refl)

      size : q * 2 ^ k < 2 ^ 277
      size = parts_under q k p.bits p.range

      small : q * 2 ^ k * 2 ^ 149 * 2 < 2 ^ j
      small = lt_of_lt_of_le (mul-lt-mul_of_pos_right (mul-lt-mul_of_pos_right size (pow_pos 149)) (lit< tt)) (le_trans (lit≤ tt) (pow_mono h))

      less : q * 2 ^ k * 2 ^ 149 ≤ 2 ^ j * 2 ^ 149 * 2 ^ 0
      less = le_trans (mul-le-mul_right (2 ^ 149) (le_trans (le_of_lt size) (pow_mono {i = 277} (le_of_lt (lt_of_le_of_lt (lit≤ tt) h))))) (le_of_eq (sym (mul-one (2 ^ j * 2 ^ 149))))

-- ---- by the product with a number y of 2 ^ (298 - j) smallest values, which is 2 ^ (149 - j)
plain : (s : Bool) → unlike s false ≡ s
plain true = refl
plain false = refl

module _ (j : ℕ) (y : Float) (hi : j ≤ 298) (is : Value binary32 y false (2 ^ (298 - j))) where
  infinite : (y : Float) → T (positive y) → (s : Bool) → mul binary32 (inf s) y ≡ inf s
  unfolding mul
  infinite nan p s = absurd p
  infinite (inf t) p s = absurd p
  infinite (fin true n d) p s = absurd p
  infinite (fin false zero d) p s = absurd p
  infinite (fin false (suc n) d) p s = ap (λ (b : Bool). cond b nan (inf (unlike s false))) (not_zero (suc n) (omega arith)) ∙ ap inf (plain s)

  product : (x : Float) (s : Bool) (N : ℕ) → Value binary32 x s N → mul binary32 x y ≡ times_power j x
  product x s N h =
      mul_at binary32 x y s false N (2 ^ (298 - j)) h is
      ∙ ap (λ (b : Bool). round binary32 b (N * 2 ^ (298 - j)) (2 ^ 149 * 2 ^ 149)) (plain s)
      ∙ round_same binary32 s (N * 2 ^ (298 - j)) (2 ^ 149 * 2 ^ 149) N (2 ^ j) (lit< tt) (pow_pos j)
      (mul_assoc N (2 ^ (298 - j)) (2 ^ j) ∙ ap (λ (n : ℕ). N * n) (sym (pow-add 2 (298 - j) j) ∙ ap (λ (n : ℕ). 2 ^ n) (whole j hi)))
      ∙ sym (power_at j x s N h)
    where
      whole : (j : ℕ) → j ≤ 298 → 298 - j + j ≡ 298
      whole j h = omega arith

  by_product : (x : Float) → T (fits binary32 x) → mul binary32 x y ≡ times_power j x
  unfolding times_power mul
  by_product nan f = refl
  by_product (inf s) f = infinite y (positive_of_value y (2 ^ (298 - j)) (2 ^ 149) is (pow_pos (298 - j))) s
  by_product (fin s m e) f = product (fin s m e) (negative (fin s m e)) (size_in binary32 (fin s m e)) (value_of_size binary32 (fin s m e) f tt)

-- ---- the power itself: 1 times it
pub power_of_one : (j : ℕ) (one : Float) → Value binary32 one false (2 ^ 149) → times_power j one ≡ power_of_two j
unfolding power_of_two
power_of_one j one v = power_at j one false (2 ^ 149) v

-- 1 is 2 ^ 149 smallest values
one_is : Value binary32 (of_bits binary32 0x3f800000) false (2 ^ 149)
unfolding of_bits
one_is = (refl, refl)

pub power_of_one_bits : (j : ℕ) → times_power j (of_bits binary32 0x3f800000) ≡ power_of_two j
power_of_one_bits j = power_of_one j (of_bits binary32 0x3f800000) one_is

-- an f32 of 2 ^ (298 - j) smallest values
module _ (j : ℕ) (lo : 22 ≤ j) (hi : j ≤ 298) where
  under : 2 ^ (298 - j) < 2 ^ 277
  under = pow-lt (less j lo)
    where
      less : (j : ℕ) → 22 ≤ j → 298 - j < 277
      less j h = omega arith

  same : 2 ^ 149 * 2 ^ 149 ≡ 2 ^ (298 - j) * 2 ^ j
  same = sym (pow-add 2 149 149) ∙ ap (λ (n : ℕ). 2 ^ n) (sums j hi) ∙ pow-add 2 (298 - j) j
    where
      sums : (j : ℕ) → j ≤ 298 → 149 + 149 ≡ 298 - j + j
      sums j h = omega arith

  exact_power : Value binary32 (power_of_two j) false (2 ^ (298 - j))
  unfolding power_of_two
  exact_power =
      value_same (round binary32 false (2 ^ 149) (2 ^ j)) false (2 ^ 149) (2 ^ j) (2 ^ (298 - j)) (2 ^ 149) (pow_pos j) same
      (round_exact binary32 false (2 ^ 149) (2 ^ j) 1 (298 - j) (pow_pos j) (lit< tt) (lt_of_le_of_lt (le_of_eq (one-mul (2 ^ (298 - j)))) under)
      (same ∙ ap (λ (n : ℕ). n * 2 ^ j) (sym (one-mul (2 ^ (298 - j))))))

  -- a product with it is rounded once
  pub power_factor : (x : Float) → T (fits binary32 x) → mul binary32 x (power_of_two j) ≡ times_power j x
  power_factor = by_product j (power_of_two j) hi exact_power

-- packed: q times 2 ^ k smallest values
module _ (j q k : ℕ) (lo : 22 ≤ j) (hi : j ≤ 298) (p : Packs q k) (is : q * 2 ^ k ≡ 2 ^ (298 - j)) where
  packed_value : Value binary32 (units binary32 false q k) false (2 ^ (298 - j))
  packed_value =
      subst (λ (n : ℕ). Value binary32 (units binary32 false q k) false n) is (units_val binary32 false q k (lt_of_le_of_lt (le_of_eq is) (under j lo hi)))

  packed_fits : T (fits binary32 (units binary32 false q k))
  packed_fits = subst (λ (y : Float). T (fits binary32 y)) (pack_is false q k p) (of_bits-fits binary32 (0 + k * 8388608 + q))

  power_packed : units binary32 false q k ≡ power_of_two j
  unfolding power_of_two
  power_packed =
      value_unique binary32 (units binary32 false q k) (round binary32 false (2 ^ 149) (2 ^ j)) false (2 ^ (298 - j)) packed_fits (round-fits binary32 false (2 ^ 149) (2 ^ j)) packed_value
      (exact_power j lo hi)

-- a normal one
pub power_normal : (j : ℕ) → 22 ≤ j → j ≤ 275 → units binary32 false 8388608 (275 - j) ≡ power_of_two j
power_normal j lo hi =
    power_packed j 8388608 (275 - j) lo (omega arith) (record { most = lit≤ tt; range = omega arith; least = λ h. absurd (omega (arith, h)) })
    (sym (pow-add 2 23 (275 - j)) ∙ ap (λ (n : ℕ). 2 ^ n) (sums j hi))
  where
    sums : (j : ℕ) → j ≤ 275 → 23 + (275 - j) ≡ 298 - j
    sums j h = omega arith

-- a subnormal one: 1 shifted left by at most 22 places
module _ (j : ℕ) (lo : 275 < j) where
  few : 2 ^ (298 - j) ≤ 2 ^ 22
  few = pow_mono (places j lo)
    where
      places : (j : ℕ) → 275 < j → 298 - j ≤ 22
      places j l = omega arith

  shifted : 1 * 2 ^ (298 - j) % 4294967296 ≡ 2 ^ (298 - j)
  shifted = ap (λ (n : ℕ). n % 4294967296) (one-mul (2 ^ (298 - j))) ∙ mod-eq_of_lt (lt_of_le_of_lt few (lit< tt))

  pub subnormal_packs : Packs (1 * 2 ^ (298 - j) % 4294967296) 0
  subnormal_packs = record { most = le_trans (le_of_eq shifted) (le_trans few (lit≤ tt)); range = lit≤ tt; least = λ h. refl }

  pub power_subnormal : j ≤ 298 → units binary32 false (1 * 2 ^ (298 - j) % 4294967296) 0 ≡ power_of_two j
  power_subnormal hi = power_packed j (1 * 2 ^ (298 - j) % 4294967296) 0 (omega arith) hi subnormal_packs (mul-one (1 * 2 ^ (298 - j) % 4294967296) ∙ shifted)

-- what `times_power` of src/powers.rt uses
pub ruleset products = (other, power_other, power_none, power_rounded)

-- and `power_of_two`
pub ruleset powers = (power_of_one_bits, power_normal, subnormal_packs, power_subnormal)
