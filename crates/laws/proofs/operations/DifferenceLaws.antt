-- The difference of two values that are not negative is how far apart their sizes are, rounded once. Assumes nothing.
use mathlib.Core.Path.{◌≡◌, refl, ap, ◌∙◌, subst}
use mathlib.Core.Bool.{Bool, true, false}
use Prim.Native.Nat.{ℕ, ◌-◌, ◌^◌, ◌≤◌, ◌<◌, compare, Ordering}
use native.Mathlib.Omega.{arith}
use lib.Ieee.{Float, Format, low, unlike, round, sum, sub}
use Rattle.laws.specs.Within.{distance, Within}
use Rattle.laws.proofs.numbers.CompareLaws.{Cmp, cmp}
use Rattle.laws.proofs.operations.SumSigns.{sum_unlike, sum_below, sum_cancel}
use Rattle.laws.proofs.operations.OperationLaws.{sub_at}
use Rattle.laws.proofs.values.ValueLaws.{Value}

-- what a distance says, and the least that does
pub distance_within : (a b : ℕ) → Within a b (distance a b)
distance_within a b = omega arith

pub distance_least : (a b c : ℕ) → Within a b c → distance a b ≤ c
distance_least a b c h = omega arith

module _ (f : Format) where
  sum_distance : (s t : Bool) (a b c : ℕ) → unlike s t ≡ true → (u : Bool) × (sum f s a t b c ≡ round f u (distance a b) c)
  sum_distance s t a b c e = go (compare a b) (cmp a b)
    where
      taken : (u : Bool) (n : ℕ) → n ≡ distance a b → sum f s a t b c ≡ round f u n c → (u : Bool) × (sum f s a t b c ≡ round f u (distance a b) c)
      taken u n d h = (u, h ∙ ap (λ (m : ℕ). round f u m c) d)

      less : (a b : ℕ) → a < b → b - a ≡ distance a b
      less a b h = omega arith

      more : (a b : ℕ) → b < a → a - b ≡ distance a b
      more a b h = omega arith

      none : (a b : ℕ) → a ≡ b → 0 ≡ distance a b
      none a b h = omega arith

      go : (o : Ordering) → Cmp o a b → (u : Bool) × (sum f s a t b c ≡ round f u (distance a b) c)
      go Ordering.lt h = taken t (b - a) (less a b h) (sum_below f s t a b c e h)
      go Ordering.gt h = taken s (a - b) (more a b h) (sum_unlike f s t a b c e h)
      go Ordering.eq h = taken false 0 (none a b h) (subst (λ (n : ℕ). sum f s a t n c ≡ round f false 0 c) h (sum_cancel f s t a c e))

  pub difference_at : (x y : Float) (X Y : ℕ) → Value f x false X → Value f y false Y → (u : Bool) × (sub f x y ≡ round f u (distance X Y) (2 ^ low f))
  difference_at x y X Y h k = let d = sum_distance false true X Y (2 ^ low f) refl in (d.0, sub_at f x y false false X Y h k ∙ d.1)
