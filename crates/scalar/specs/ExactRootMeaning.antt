-- What the mark of a root means, however the root is found: some f32 squared is the argument, without rounding.
use Rattle.std.specs.Prelude.{◌≡◌, Bool, ◌^◌, T, pos, ◌*ℤ◌, Float}
use Rattle.std.specs.Float.{binary32}
use Rattle.std.specs.Float.Ieee.{fits}
use Rattle.std.specs.Float.Ieee.Scale.{finite}
use Rattle.laws.specs.Exact.{exact}
use Rattle.scalar.specs.Root.{root}
use Rattle.scalar.specs.ExactRoot.{exact_root}

-- r times r is x, of exact values, as whole numbers of 2^-298: no x below zero is such a square, and either zero is that of a zero
pub record Squared (r x : Float) : Type 0 where
  pub value : T (fits binary32 r)
  pub root_number : T (finite r)
  pub number : T (finite x)
  pub square : exact binary32 r *ℤ exact binary32 r ≡ exact binary32 x *ℤ pos (2 ^ 149)

-- b is set exactly if x is the square of some f32
pub record Exactness (x : Float) (b : Bool) : Type 0 where
  pub some : T b → (r : Float) × Squared r x
  pub marked : (r : Float) → Squared r x → T b

-- so is the mark, and where it is set x is the square of the rounded root: "its answer squared equals its argument exactly"
pub record ExactRootMeaning (x : Float) : Type 0 where
  pub mark : Exactness x (exact_root x)
  pub answer : T (exact_root x) → Squared (root x) x
