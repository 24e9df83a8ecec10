-- No meaning of this crate leaves a choice: for any arguments, two answers with the same meaning are the same.
use Rattle.std.specs.Prelude.{ℕ, Float}
use Rattle.laws.specs.Determines.{Determines}
use Rattle.scalar.specs.RootMeaning.{NearestRoot}
use Rattle.scalar.specs.ExactRootMeaning.{Exactness}
use Rattle.scalar.specs.FusedMeaning.{RoundedOnce}
use Rattle.scalar.specs.IntegralMeaning.{Truncated, Floored, RoundedEven}
use Rattle.scalar.specs.RemainderMeaning.{Remainder}
use Rattle.scalar.specs.PowersMeaning.{PowerProduct}

pub record Determined : Type 0 where
  pub root : (x : Float) → Determines (NearestRoot x)
  pub exactness : (x : Float) → Determines (Exactness x)
  pub mul_add : (a b c : Float) → Determines (RoundedOnce a b c)
  pub trunc : (x : Float) → Determines (Truncated x)
  pub floor : (x : Float) → Determines (Floored x)
  pub round : (x : Float) → Determines (RoundedEven x)
  pub rem : (a b : Float) → Determines (Remainder a b)
  pub times_power : (j : ℕ) (x : Float) → Determines (PowerProduct j x)
