-- The directions that commands write without a test: 22 to 24, which always have one (vector's specs/NeverZero), and 34, whose normal is the direction in row b.
-- Assumes nothing.
use Prim.Native.Nat.{ℕ, ◌≤◌}
use native.Mathlib.Omega.{arith}
use mathlib.Core.Path.{refl}
use Rattle.vector.specs.Optics.{reflect, refract}
use Rattle.vector.specs.Orthogonal.{any_orthonormal_pair}
use Rattle.vector.specs.ExactVectors.{Direction}
use Rattle.vector.specs.NeverZero.{NeverZero}
use Rattle.vector.proofs.rays.NeverZeroLaws.{rays_never_zero}
use Rattle.commands.specs.Codes.{last}
use Rattle.commands.specs.Fields.{Sources}
use Rattle.commands.specs.Results.{Result, Empties, Point, Aim, Directed, DirectedPair, Plane, Number, Root, Whole, Shows, Undoes}
use Rattle.commands.specs.Commands.{Entry, table, entry_at}
use Rattle.commands.proofs.DirectionOfLaws.{unit_direction}
use Rattle.commands.proofs.table.EachLaws.{Each, each_at, ◌and◌}
use Rattle.commands.proofs.claim.SourceLaws.{Held, direction_there}

-- ---- the vectors of a 22, 23 or 24 that is done
module _ (s : Sources) where
  pub reflected_never : Held 22 (entry_at 22) s → NeverZero (reflect s.a.numbers s.b.numbers)
  unfolding table entry_at
  reflected_never h = rays_never_zero.reflected _ _ (direction_there s.a h.row_a h.fit_a) (direction_there s.b h.row_b h.fit_b)

  pub refracted_never : Held 23 (entry_at 23) s → NeverZero (refract s.a.numbers s.b.numbers s.u)
  unfolding table entry_at
  refracted_never h =
      rays_never_zero.refracted _ _ _ (direction_there s.a h.row_a h.fit_a) (direction_there s.b h.row_b h.fit_b) h.value_u (h.ratio refl).0 (h.ratio refl).1 (h.refracts refl)

  pub first_never : Held 24 (entry_at 24) s → NeverZero (any_orthonormal_pair s.a.numbers).first
  unfolding table entry_at
  first_never h = rays_never_zero.first _ (direction_there s.a h.row_a h.fit_a)

  pub second_never : Held 24 (entry_at 24) s → NeverZero (any_orthonormal_pair s.a.numbers).second
  unfolding table entry_at
  second_never h = rays_never_zero.second _ (direction_there s.a h.row_a h.fit_a)

-- ---- the directions in a result
abbrev pub DirectionsIn : Result → Type 0
DirectionsIn Empties = Unit {0}
DirectionsIn (Point v) = Unit {0}
DirectionsIn (Aim v) = Unit {0}
DirectionsIn (Directed v) = Direction v
DirectionsIn (DirectedPair v w) = Direction v × Direction w
DirectionsIn (Plane n o) = Direction n
DirectionsIn (Number x) = Unit {0}
DirectionsIn (Root r) = Unit {0}
DirectionsIn (Whole k) = Unit {0}
DirectionsIn (Shows i r) = Unit {0}
DirectionsIn Undoes = Unit {0}

abbrev Directs : ℕ → Entry → Type 0
Directs n e = (s : Sources) → Held n e s → DirectionsIn (e.result s)

-- ---- the whole table
rows_direct : Each Directs table
unfolding table entry_at
rows_direct =
    none and none and none and none and none and none and none and none and none and none
    and none and none and none and none and none and none and none and none and none and none
    and none and none
    and (λ s h. unit_direction _ (reflected_never s h).unit)
    and (λ s h. unit_direction _ (refracted_never s h).unit)
    and (λ s h. (unit_direction _ (first_never s h).unit, unit_direction _ (second_never s h).unit))
    and none and none and none and none and none and none and none and none and none
    and (λ s h. direction_there s.b h.row_b h.fit_b)
    and none and none and none
    and tt
  where
    none : {n : ℕ} {e : Entry} → (s : Sources) → Held n e s → Unit {0}
    none s h = tt

pub directions_in : (n : ℕ) (s : Sources) → n ≤ last → Held n (entry_at n) s → DirectionsIn ((entry_at n).result s)
unfolding table entry_at
directions_in n s l h = each_at Directs table _ rows_direct n (omega arith) s h
