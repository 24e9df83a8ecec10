-- What `try_normalize` says (document 01, "Masks and vectors": "none exactly if `length_squared` is zero, infinite or NaN").
use Rattle.std.specs.Prelude.{◌≡◌, Bool, true, not, cond, T, eqb, Float, Some, None}
use Rattle.std.specs.Float.{nan, inf, fin}
use Rattle.vector.specs.declared.vec3.Vec3.{Vec3}
use Rattle.vector.specs.Vectors.{ZERO}
use Rattle.vector.specs.Answers.{Answer, given, refused}
use Rattle.vector.specs.Operators.{mul_number}
use Rattle.vector.specs.Products.{length_squared, length_recip}
use Rattle.vector.specs.Normalizing.{try_normalize}

-- zero of either sign, infinite or NaN
abbrev pub zero_infinite_or_nan : Float → Bool
zero_infinite_or_nan nan = true
zero_infinite_or_nan (inf s) = true
zero_infinite_or_nan (fin s m e) = eqb m 0

-- the answer in the paper's number and values: "a unit vector or the word that there is none: none exactly if .."
unfoldable pub unit_or_none : Vec3 → Answer Vec3
unit_or_none a = cond (zero_infinite_or_nan (length_squared a)) (refused 7 ZERO) (given (mul_number a (length_recip a)))

-- of every vector a: there is no threshold
pub record NoneExactly (a : Vec3) : Type 0 where
  pub none_if : T (zero_infinite_or_nan (length_squared a)) → try_normalize a ≡ None
  pub only_if : try_normalize a ≡ None → T (zero_infinite_or_nan (length_squared a))
  -- and else it is a times the reciprocal of its length
  pub unit : T (not (zero_infinite_or_nan (length_squared a))) → try_normalize a ≡ Some (mul_number a (length_recip a))
