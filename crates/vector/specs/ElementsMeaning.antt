-- What `clamp` and the positions mean, said by the comparisons of f32. They are false where a NaN is compared.
use Rattle.std.specs.Prelude.{Bool, not, ℕ, ◌≤◌, ◌<◌, T, Float}
use Rattle.std.specs.Float.Ieee.{le}
use Rattle.vector.specs.declared.vec3.Vec3.{Vec3}
use Rattle.vector.specs.Indexed.{component}
use Rattle.vector.specs.Elements.{min_position, max_position}

-- a <= b in each component: what `clamp` asserts of its bounds
pub record AtMost (a b : Vec3) : Type 0 where
  pub x : T (le a.x b.x)
  pub y : T (le a.y b.y)
  pub z : T (le a.z b.z)

-- r lies between lo and hi
pub record Clamped (lo hi r : Vec3) : Type 0 where
  pub above : AtMost lo r
  pub below : AtMost r hi

-- the positions are 0, 1 or 2, of every vector: one with a NaN too
pub record Positions (a : Vec3) : Type 0 where
  pub least : min_position a ≤ 2
  pub greatest : max_position a ≤ 2

-- the component at an index 0 to 2
abbrev pub at : Vec3 → ℕ → Float
at a i = (component a i).value

-- i is the first index of the least component, where `before` is <, and of the greatest, where it is >:
-- it is an index, no component comes before that one, and it comes before each one with a lower index
pub record First (before : Float → Float → Bool) (a : Vec3) (i : ℕ) : Type 0 where
  pub within : i ≤ 2
  pub none : (j : ℕ) → j ≤ 2 → T (not (before (at a j) (at a i)))
  pub lower : (j : ℕ) → j < i → T (before (at a i) (at a j))
