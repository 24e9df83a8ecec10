-- `commands::refusal::bad_row` meets its contract. Assumes nothing.
use Prim.Native.Nat.{ℕ}
use mathlib.Core.Path.{◌≡◌, refl}
use mathlib.Core.Bool.{Bool, true, false, cond, not, beq, false≢true}
use lib.Dec.{eqb}
use Rattle.commands.specs.Codes.{plane_kind}
use Rattle.commands.specs.Fields.{Kinds, Unused, Vectors, Points, Directions, Planes, Filled, is_used, allows}
use Rattle.commands.specs.Commands.{Entry, table, entry_at}
use Rattle.commands.proofs.CommandSetLaws.{tested}
use Rattle.commands.proofs.refusal.bad_row.Goals as goal

-- a row that is used has to be a plane
abbrev is_planes : Kinds → Bool
is_planes Unused = false
is_planes Vectors = false
is_planes Points = false
is_planes Directions = false
is_planes Planes = true
is_planes Filled = false

planes_only : (n : ℕ) → beq (is_used (entry_at n).uses.row) (is_planes (entry_at n).uses.row) ≡ true
unfolding entry_at table
planes_only n = tested (λ (e : Entry). beq (is_used e.uses.row) (is_planes e.uses.row)) (λ (k : ℕ). true) tt (λ k h. refl) n

plane_asked : (k : Kinds) (kind : ℕ) → beq (is_used k) (is_planes k) ≡ true → not (allows k kind) ≡ cond (is_used k) (not (eqb kind plane_kind)) false
unfolding allows
plane_asked Unused kind h = refl
plane_asked Vectors kind h = absurd (false≢true h)
plane_asked Points kind h = absurd (false≢true h)
plane_asked Directions kind h = absurd (false≢true h)
plane_asked Planes kind h = refl
plane_asked Filled kind h = absurd (false≢true h)

pub returns-then-of : goal.returns-then-of
returns-then-of c = simp (plane_asked (entry_at c.args.n).uses.row c.args.kind (planes_only c.args.n), ← c.of.ensures.row, ← c.from.ensures, c.if-of.true)

pub returns-else-of : goal.returns-else-of
returns-else-of c = simp (plane_asked (entry_at c.args.n).uses.row c.args.kind (planes_only c.args.n), ← c.of.ensures.row, c.if-of.false)
