-- `try_normalize` says none exactly if the squared length is zero, infinite or NaN. Assumes nothing.
use mathlib.Core.Path.{◌≡◌, refl, sym, ap, ◌∙◌}
use mathlib.Core.Bool.{Bool, true, false, not, cond}
use lib.Dec.{T}
use lib.Ieee.Bits.{is_true, is_false}
use Rattle.std.specs.Prelude.{Option, Some, None}
use Rattle.vector.specs.declared.vec3.Vec3.{Vec3}
use Rattle.vector.specs.Vectors.{ZERO}
use Rattle.vector.specs.Answers.{given, refused}
use Rattle.vector.specs.Operators.{mul_number}
use Rattle.vector.specs.Products.{length, length_squared, length_recip}
use Rattle.vector.specs.Normalizing.{usable, answer_of, try_normalize}
use Rattle.vector.specs.NormalizingMeaning.{zero_infinite_or_nan, unit_or_none, NoneExactly}
use Rattle.vector.proofs.errors.SquaredLengthLaws.{squared_fits, squared_sign}
use Rattle.vector.proofs.errors.ReciprocalLaws.{usable_exactly}

-- ---- none exactly if the squared length is zero, infinite or NaN
recip_usable : (a : Vec3) → usable (length_recip a) ≡ not (zero_infinite_or_nan (length_squared a))
unfolding length_recip length length_squared
recip_usable a = usable_exactly (length_squared a) (squared_fits a) (squared_sign a)

module _ (a : Vec3) where
  abbrev unless : Bool → Option Vec3
  unless none = cond (not none) (Some (mul_number a (length_recip a))) None

  answer_is : try_normalize a ≡ unless (zero_infinite_or_nan (length_squared a))
  unfolding try_normalize
  answer_is = ap (λ (b : Bool). cond b (Some (mul_number a (length_recip a))) None) (recip_usable a)

  only : (none : Bool) → unless none ≡ None → T none
  only true e = tt
  only false e = cc

  -- the same in the paper's number and values
  pub shown : unit_or_none a ≡ answer_of (try_normalize a)
  unfolding unit_or_none
  shown = sym (ap answer_of answer_is ∙ go (zero_infinite_or_nan (length_squared a)))
    where
      go : (none : Bool) → answer_of (unless none) ≡ cond none (refused 7 ZERO) (given (mul_number a (length_recip a)))
      go true = refl
      go false = refl

  pub none_exactly : NoneExactly a
  none_exactly = record {
    none_if = λ t. answer_is ∙ ap unless (is_true (zero_infinite_or_nan (length_squared a)) t);
    only_if = λ e. only (zero_infinite_or_nan (length_squared a)) (sym answer_is ∙ e);
    unit = λ t. answer_is ∙ ap unless (is_false (zero_infinite_or_nan (length_squared a)) t);
  }
