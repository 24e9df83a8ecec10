-- A product with ±2 ^ g is exact, in any format, where it does not overflow. Assumes nothing.
use mathlib.Core.Path.{◌≡◌, refl, sym, ap, ◌∙◌, subst}
use mathlib.Core.Bool.{Bool}
use mathlib.Core.List.{[], ◌∷◌}
use Prim.Native.Nat.{ℕ, ◌+◌, ◌*◌, ◌^◌, ◌<◌}
use native.Mathlib.Nat.{mul-one, mul_assoc, mul-pos}
use lib.Dec.{T}
use lib.Pow.{pow_pos, pow-add}
use lib.Ieee.{Float, Format, low, unlike, round, mul, fits}
use lib.Ieee.Exact.{round_exact}
use lib.Ieee.Scale.{overflow, finite}
use Rattle.laws.specs.Exact.{negative}
use Rattle.laws.proofs.solvers.Ring.{var, ◌⊗◌}
use Rattle.laws.proofs.solvers.RingNat.{ring}
use Rattle.laws.proofs.values.ValueLaws.{Value, value_finite, value_same}
use Rattle.laws.proofs.values.SizeLaws.{Significand, significand, size_of_value, size_below}
use Rattle.laws.proofs.rounding.GridErrorLaws.{unit}
use Rattle.laws.proofs.operations.OperationLaws.{mul_at}

module _ (f : Format) (u x : Float) (t s : Bool) (n : ℕ) (F : T (fits f x)) (k : Value f x s n) where
  number : T (finite x)
  number = value_finite x s n (unit f) k

  w : Significand f x
  w = significand f x F number

  significand_is : n ≡ w.bits * 2 ^ w.exponent
  significand_is = sym (size_of_value f x s n k).0 ∙ (size_of_value f x (negative x) (w.bits * 2 ^ w.exponent) w.value).0

  pub power_times : (g : ℕ) → Value f u t (unit f * 2 ^ g) → n * 2 ^ g < overflow f → Value f (mul f u x) (unlike t s) (n * 2 ^ g)
  power_times g h under =
      let l = unit f in
      let L : 0 < l * l = mul-pos (pow_pos (low f)) (pow_pos (low f)) in
      let e : n * 2 ^ g ≡ w.bits * 2 ^ (w.exponent + g) = ap (λ (y : ℕ). y * 2 ^ g) significand_is ∙ mul_assoc w.bits (2 ^ w.exponent) (2 ^ g) ∙ ap (λ (y : ℕ). w.bits * y) (sym (pow-add 2 w.exponent g)) in
      subst (λ (v : Float). Value f v (unlike t s) (n * 2 ^ g)) (sym (mul_at f u x t s (l * 2 ^ g) n h k))
      (value_same (round f (unlike t s) (l * 2 ^ g * n) (l * l)) (unlike t s) (l * 2 ^ g * n) (l * l) (n * 2 ^ g) l L (turn n l (2 ^ g))
      (round_exact f (unlike t s) (l * 2 ^ g * n) (l * l) w.bits (w.exponent + g) L w.few (subst (λ (y : ℕ). y < overflow f) e under)
      (turn n l (2 ^ g) ∙ ap (λ (y : ℕ). y * (l * l)) e)))
    where
      turn : (n l p : ℕ) → l * p * n * l ≡ n * p * (l * l)
      turn n l p = ring (n ∷ l ∷ p ∷ []) (var 1 ⊗ var 2 ⊗ var 0 ⊗ var 1) (var 0 ⊗ var 2 ⊗ (var 1 ⊗ var 1)) refl

  -- ±1
  pub one_times : Value f u t (unit f) → Value f (mul f u x) (unlike t s) n
  one_times h =
      subst (λ (m : ℕ). Value f (mul f u x) (unlike t s) m) (mul-one n)
      (power_times 0 (subst (λ (m : ℕ). Value f u t m) (sym (mul-one (unit f))) h)
      (subst (λ (m : ℕ). m < overflow f) ((size_of_value f x s n k).0 ∙ sym (mul-one n)) (size_below f x F number)))
