-- The three roundings to a whole number: toward zero, toward negative, ties to even. Assumes nothing.
use mathlib.Core.Path.{◌≡◌, sym, ap, ap₂, ◌∙◌}
use mathlib.Core.Bool.{Bool, true, false, cond}
use Prim.Native.Nat.{ℕ, zero, suc, ◌+◌, ◌*◌, ◌/◌, ◌%◌, ◌<◌}
use native.Mathlib.Nat.{zero-mul, add-zero, add-mul, mul-pos, mul_right_comm, mul-div_cancel, mul-mod_left, div-add-mod'}
use native.Mathlib.Omega.{arith}
use lib.Dec.{eqb, eqb-suc-zero}
use lib.Ieee.Nearest.{div_same, closest_same}
use Rattle.laws.proofs.numbers.BoolLaws.{not_zero}
use Rattle.laws.proofs.rounding.ClosestLaws.{closest_is}
use Rattle.scalar.specs.Integral.{toward_zero, toward_negative, ties_to_even}
use Rattle.scalar.proofs.whole_numbers.IntegralLaws.{Rule}

-- ---- toward zero
pub toward_zero_rule : Rule toward_zero
toward_zero_rule = record {
  respects = λ s a b c d B D h. div_same a b c d B D h;
  keeps = λ s w c C. mul-div_cancel w C;
}

-- ---- toward negative
rests : (a b c d : ℕ) → 0 < b → 0 < d → a * d ≡ c * b → a % b * d ≡ c % d * b
rests a b c d B D h =
    let w = div_same a b c d B D h in
    let x : a / b * b * d + a % b * d ≡ a * d = sym (add-mul (a / b * b) (a % b) d) ∙ ap (λ (z : ℕ). z * d) (div-add-mod' a b) in
    let y : c / d * d * b + c % d * b ≡ c * b = sym (add-mul (c / d * d) (c % d) b) ∙ ap (λ (z : ℕ). z * b) (div-add-mod' c d) in
    let s : a / b * b * d ≡ c / d * d * b = mul_right_comm (a / b) b d ∙ ap (λ (z : ℕ). z * d * b) w in
    omega arith

none_or_some : (x c : ℕ) → 0 < c → eqb (x * c) 0 ≡ eqb x 0
none_or_some zero c h = ap (λ (n : ℕ). eqb n 0) (zero-mul c)
none_or_some (suc x) c h = not_zero (suc x * c) (mul-pos (positive x) h) ∙ sym (eqb-suc-zero x)
  where
    positive : (x : ℕ) → 0 < suc x
    positive x = omega arith

toward_negative_respects : (s : Bool) (a b c d : ℕ) → 0 < b → 0 < d → a * d ≡ c * b → toward_negative s a b ≡ toward_negative s c d
toward_negative_respects false a b c d B D h = div_same a b c d B D h
toward_negative_respects true a b c d B D h =
    ap₂ (λ (x : ℕ) (t : Bool). x + cond t 0 1) (div_same a b c d B D h)
    (sym (none_or_some (a % b) d D) ∙ ap (λ (n : ℕ). eqb n 0) (rests a b c d B D h) ∙ none_or_some (c % d) b B)

toward_negative_keeps : (s : Bool) (w c : ℕ) → 0 < c → toward_negative s (w * c) c ≡ w
toward_negative_keeps false w c C = mul-div_cancel w C
toward_negative_keeps true w c C = ap₂ (λ (x y : ℕ). x + cond (eqb y 0) 0 1) (mul-div_cancel w C) (mul-mod_left w c) ∙ add-zero w

pub toward_negative_rule : Rule toward_negative
toward_negative_rule = record { respects = toward_negative_respects; keeps = toward_negative_keeps }

-- ---- ties to even
pub ties_to_even_rule : Rule ties_to_even
ties_to_even_rule = record {
  respects = λ s a b c d B D h. closest_same a b c d B D h;
  keeps = λ s w c C. closest_is (w * c) c w C (omega arith) (omega arith);
}
