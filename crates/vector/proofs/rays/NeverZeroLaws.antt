-- specs/NeverZero: what laws M, R and P say of reflected and refracted vectors and of pairs is that they are never zero and always finite, so that they have directions
-- without a test. Assumes nothing.
use mathlib.Core.Path.{◌≡◌}
use mathlib.Core.Bool.{Bool, true, false, cond, not}
use lib.Dec.{T}
use lib.Ieee.Fits.{and_r}
use Rattle.std.specs.Prelude.{Some, None}
use Rattle.vector.specs.declared.vec3.Vec3.{Vec3}
use Rattle.vector.specs.Comparisons.{is_finite}
use Rattle.vector.specs.Normalizing.{try_normalize}
use Rattle.vector.specs.Scaled.{scaled}
use Rattle.vector.specs.DirectionOf.{three_zeros, has_direction, direction_of}
use Rattle.vector.specs.Orthogonal.{any_orthonormal_pair}
use Rattle.vector.specs.NumericLaws.{Refused7Never}
use Rattle.vector.specs.NeverZero.{NeverZero, RaysNeverZero}
use Rattle.vector.proofs.scaling.ScaledLaws.{unchecked_is, unchecked_unit}
use Rattle.vector.proofs.rays.ReflectLaws.{law_m}
use Rattle.vector.proofs.rays.RefractLaws.{law_r, k_from_test}
use Rattle.vector.proofs.pairs.PairLaws.{first_never, second_never}

-- what has a direction is neither three zeros nor infinite
has_direction_lem : (v d : Vec3) → direction_of v ≡ Some d → T (has_direction v)
unfolding direction_of
has_direction_lem v d e = go (has_direction v) e
  where
    go : (b : Bool) → cond b (try_normalize (scaled v)) None ≡ Some d → T b
    go true e = tt
    go false e = cc

never_zero : (v : Vec3) → Refused7Never v → NeverZero v
never_zero v r =
    let has = has_direction_lem v r.direction.direction r.direction.is in
    record {
      not_zero = and_r (is_finite v) (not (three_zeros v)) has;
      numbers = r.numbers;
      squared_length = r.squared_length;
      answers = unchecked_is v r.values has;
      unit = unchecked_unit v r.values has;
    }

pub rays_never_zero : RaysNeverZero
unfolding any_orthonormal_pair
rays_never_zero =
    record {
      reflected = λ a b da db. never_zero _ (law_m a b da db);
      refracted = λ a b u da db fit low high test. never_zero _ (law_r a b u da db fit low high (k_from_test a b u da db fit low high test));
      first = λ n d. never_zero _ (first_never n d);
      second = λ n d. never_zero _ (second_never n d);
    }
