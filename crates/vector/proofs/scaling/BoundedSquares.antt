-- The squared length of components of at most 2 is at most 13, and with one of at least 1 it is at least 1. Assumes nothing.
use mathlib.Core.Path.{ap, ◌∙◌}
use mathlib.Core.Bool.{Bool, false}
use mathlib.Core.Logic.{◌⊎◌, inl, inr}
use Prim.Native.Nat.{ℕ, ◌+◌, ◌*◌, ◌^◌, ◌≤◌}
use native.Mathlib.Nat.{le_trans, add-le-add, le-add_left, le-add_right, mul-le-mul, mul-le-mul_right, le_of_mul-le-mul_right}
use lib.Dec.{lit≤, lit<}
use lib.Pow.{pow_pos}
use lib.Ieee.{Float, binary32, round, add, mul}
use Rattle.laws.proofs.values.ValueLaws.{Value}
use Rattle.laws.proofs.operations.SumSigns.{unlike_self}
use Rattle.laws.proofs.operations.OperationLaws.{mul_at, add_like_at}
use Rattle.laws.proofs.rounding.ErrorLaws.{rounded, rounded_whole, rounded_least, rounded_most, rounded_value}
use Rattle.vector.specs.declared.vec3.Vec3.{Vec3}
use Rattle.vector.specs.Products.{dot, length_squared}
use Rattle.vector.proofs.values.SignedVectors.{D}

-- ---- a rounded square
module _ (w : ℕ) (h : w ≤ 2 ^ 150) where
  pub square_under : w * w ≤ D * D * 4
  square_under = le_trans (mul-le-mul h h) (lit≤ tt)

  -- the rounded square
  pub square_most : rounded binary32 (w * w) D ≤ 2 ^ 151
  square_most = rounded_most binary32 (w * w) D 2 (pow_pos 149) square_under

  pub square_least : D ≤ w → D ≤ rounded binary32 (w * w) D
  square_least l = rounded_least binary32 (w * w) D 0 (pow_pos 149) (le_trans (lit≤ tt) (mul-le-mul l l))

  pub square_value : (x : Float) (s : Bool) → Value binary32 x s w → Value binary32 (mul binary32 x x) false (rounded binary32 (w * w) D)
  square_value x s v =
      rounded_value binary32 (w * w) D 2 (pow_pos 149) square_under (mul binary32 x x) false (lit≤ tt)
      (mul_at binary32 x x s s w w v v ∙ ap (λ (c : Bool). round binary32 c (w * w) (D * D)) (unlike_self s))

-- a sum of at most 2 ^ g
module _ (g p q : ℕ) (h : p + q ≤ 1 * D * 2 ^ g) where
  pub sum_most : rounded binary32 (p + q) 1 ≤ 2 ^ (149 + g)
  sum_most = rounded_most binary32 (p + q) 1 g (lit< tt) h

  pub sum_value : (x y : Float) → g ≤ 127 → Value binary32 x false p → Value binary32 y false q → Value binary32 (add binary32 x y) false (rounded binary32 (p + q) 1)
  sum_value x y l v w = rounded_value binary32 (p + q) 1 g (lit< tt) h (add binary32 x y) false l (add_like_at binary32 x y false p q v w)

pub sum_least : (p q : ℕ) → D ≤ p + q → D ≤ rounded binary32 (p + q) 1
sum_least p q h = rounded_least binary32 (p + q) 1 0 (lit< tt) (le_trans (lit≤ tt) h)

module _ (u v w : ℕ) (hu : u ≤ 2 ^ 150) (hv : v ≤ 2 ^ 150) (hw : w ≤ 2 ^ 150) where
  abbrev squared : ℕ → ℕ
  squared n = rounded binary32 (n * n) D

  abbrev first_two : ℕ
  first_two = rounded binary32 (squared u + squared v) 1

  abbrev pub whole : ℕ
  whole = rounded binary32 (first_two + squared w) 1

  two_under : squared u + squared v ≤ 1 * D * 2 ^ 3
  two_under = le_trans (add-le-add (square_most u hu) (square_most v hv)) (lit≤ tt)

  all_under : first_two + squared w ≤ 1 * D * 2 ^ 4
  all_under = le_trans (add-le-add (sum_most 3 (squared u) (squared v) two_under) (square_most w hw)) (lit≤ tt)

  -- the sum before it is rounded is at most 12
  pub whole_most : whole ≤ 13 * D
  whole_most =
      le_of_mul-le-mul_right
      (le_trans (rounded_whole binary32 (first_two + squared w)).0
      (le_trans (add-le-add (mul-le-mul_right (2 ^ 24) twelve) twelve) (lit≤ tt)))
      (pow_pos 24)
    where
      twelve : first_two + squared w ≤ 12 * D
      twelve = le_trans (add-le-add (sum_most 3 (squared u) (squared v) two_under) (square_most w hw)) (lit≤ tt)

  pub whole_least : (D ≤ u) ⊎ ((D ≤ v) ⊎ (D ≤ w)) → D ≤ whole
  whole_least (inl l) = sum_least first_two (squared w) (le_trans (sum_least (squared u) (squared v) (le_trans (square_least u hu l) (le-add_right (squared u) (squared v)))) (le-add_right first_two (squared w)))
  whole_least (inr (inl l)) = sum_least first_two (squared w) (le_trans (sum_least (squared u) (squared v) (le_trans (square_least v hv l) (le-add_left (squared v) (squared u)))) (le-add_right first_two (squared w)))
  whole_least (inr (inr l)) = sum_least first_two (squared w) (le_trans (square_least w hw l) (le-add_left (squared w) first_two))

  pub whole_value : (a : Vec3) (r s t : Bool) → Value binary32 a.x r u → Value binary32 a.y s v → Value binary32 a.z t w → Value binary32 (length_squared a) false whole
  unfolding length_squared dot
  whole_value a r s t hx hy hz =
      sum_value 4 first_two (squared w) all_under (add binary32 (mul binary32 a.x a.x) (mul binary32 a.y a.y)) (mul binary32 a.z a.z) (lit≤ tt)
      (sum_value 3 (squared u) (squared v) two_under (mul binary32 a.x a.x) (mul binary32 a.y a.y) (lit≤ tt) (square_value u hu a.x r hx) (square_value v hv a.y s hy))
      (square_value w hw a.z t hz)
