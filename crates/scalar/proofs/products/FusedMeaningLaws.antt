-- The fused multiply-add is what specs/FusedMeaning says. Assumes nothing.
use mathlib.Core.Path.{◌≡◌, refl, sym, ap, ap₂, ◌∙◌, subst}
use mathlib.Core.Bool.{Bool, true, false, ◌&&◌}
use mathlib.Core.List.{[], ◌∷◌}
use Prim.Native.Nat.{ℕ, ◌*◌, ◌^◌}
use lib.Dec.{T}
use lib.IntN.{pos, ◌+ℤ◌}
use lib.Pow.{pow_pos}
use lib.Ieee.{Float, fin, binary32, unlike, round, sum, fits}
use lib.Ieee.Scale.{finite}
use Rattle.laws.specs.Exact.{negative, size_in, signed}
use Rattle.laws.specs.RoundsTo.{RoundsTo}
use Rattle.laws.proofs.solvers.Ring.{var, lit, ◌⊗◌}
use Rattle.laws.proofs.solvers.RingNat.{ring}
use Rattle.laws.proofs.rounding.RoundNearest.{round_nearest}
use Rattle.laws.proofs.numbers.SignedLaws.{signed_mul}
use Rattle.laws.proofs.values.SizeLaws.{value_of_size}
use Rattle.laws.proofs.operations.SumLaws.{sum_some, sum_none}
use Rattle.scalar.specs.Fused.{mul_add}
use Rattle.scalar.specs.FusedMeaning.{exact_sum, RoundedOnce}
use Rattle.laws.proofs.operations.SumSame.{sum_same}
use Rattle.scalar.proofs.products.FusedSum.{fused_at}

module _ (a b c : Float) (fa : T (fits binary32 a)) (ta : T (finite a)) (fb : T (fits binary32 b)) (tb : T (finite b)) (fc : T (fits binary32 c)) (tc : T (finite c)) where
  p : ℕ
  p = size_in binary32 a

  q : ℕ
  q = size_in binary32 b

  r : ℕ
  r = size_in binary32 c

  s : Bool
  s = unlike (negative a) (negative b)

  -- the definition, in whole numbers of 2 ^ -298
  as_sum : mul_add a b c ≡ sum binary32 s (p * q) (negative c) (r * 2 ^ 149) (2 ^ 298)
  unfolding p q r s
  as_sum =
      fused_at a b c (negative a) (negative b) (negative c) p q r (value_of_size binary32 a fa ta) (value_of_size binary32 b fb tb) (value_of_size binary32 c fc tc)
      ∙ sum_same binary32 (p * q * 2 ^ 128) (r * 2 ^ 277) (2 ^ 426) (p * q) (r * 2 ^ 149) (2 ^ 298) (pow_pos 426) (pow_pos 298)
      (ring (p * q ∷ []) (var 0 ⊗ lit (2 ^ 128) ⊗ lit (2 ^ 298)) (var 0 ⊗ lit (2 ^ 426)) refl)
      (ring (r ∷ []) (var 0 ⊗ lit (2 ^ 277) ⊗ lit (2 ^ 298)) (var 0 ⊗ lit (2 ^ 149) ⊗ lit (2 ^ 426)) refl) s (negative c)

  exact_is : exact_sum a b c ≡ signed s (p * q) +ℤ signed (negative c) (r * 2 ^ 149)
  unfolding p q r s
  exact_is = ap₂ ◌+ℤ◌ (signed_mul (negative a) (negative b) p q) (signed_mul (negative c) false r (2 ^ 149) ∙ ap (λ (t : Bool). signed t (r * 2 ^ 149)) (same (negative c)))
    where
      same : (t : Bool) → unlike t false ≡ t
      same true = refl
      same false = refl

  pub fused_means : RoundedOnce a b c (mul_add a b c)
  unfolding s
  fused_means = record {
    some = λ u n h e. subst (RoundsTo binary32 u n (2 ^ 298)) (sym (as_sum ∙ sum_some binary32 (2 ^ 298) s (negative c) (p * q) (r * 2 ^ 149) u n h (e ∙ exact_is))) (round_nearest binary32 u n (2 ^ 298) (pow_pos 298));
    none = λ e. as_sum ∙ sum_none binary32 (2 ^ 298) s (negative c) (p * q) (r * 2 ^ 149) (sym exact_is ∙ e) ∙ zero_round (s && negative c);
  }
    where
      zero_round : (t : Bool) → round binary32 t 0 (2 ^ 298) ≡ fin t 0 (pos 0)
      zero_round t = unfold round in refl
