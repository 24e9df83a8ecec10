-- A command that is done gives its Rust function arguments that its glam_assert condition allows (law S of crate vector), row by row of the table. Assumes nothing.
use Prim.Native.Nat.{ℕ}
use native.Mathlib.Omega.{arith}
use mathlib.Core.Path.{◌≡◌, refl}
use mathlib.Core.Bool.{Bool, true, false, not, ◌||◌}
use lib.Dec.{T, eqb}
use lib.Ieee.Scale.{finite}
use borrow.Author.Tests.{eqb-true, not-false}
use denote.Floats.{passes}
use Rattle.laws.proofs.numbers.BoolLaws.{cond_by}
use Rattle.vector.specs.declared.vec3.Vec3.{Vec3}
use Rattle.vector.specs.Projections.{other_len_sq_rcp}
use Rattle.vector.specs.ExactVectors.{Direction}
use Rattle.vector.specs.Asserts.{asserts_project_onto, asserts_reject_from, asserts_project_onto_normalized, asserts_reject_from_normalized}
use Rattle.vector.proofs.units.AssertedLaws.{law_s}
use Rattle.commands.specs.declared.command.Command.{Command}
use Rattle.commands.specs.Codes.{point_kind, direction_kind}
use Rattle.commands.specs.Rows.{ModelRow}
use Rattle.commands.specs.Fields.{Vectors, allows, Uses, Read, Sources, sources_of, uses_tab}
use Rattle.commands.specs.Results.{Result, is_direction}
use Rattle.commands.specs.Commands.{Entry, entry, asserting, by_kind, table, entry_at}
use Rattle.commands.specs.Refusals.{no_factor}
use Rattle.commands.proofs.ConditionLaws.{Done, denied, met, known_number}
use Rattle.commands.proofs.table.EachLaws.{Each, each_at, ◌and◌}
use Rattle.commands.proofs.claim.SourceLaws.{Held, SoundRead, held, direction_there, point_there}

abbrev Asserted : ℕ → Entry → Type 0
Asserted n e = (s : Sources) → Held n e s → T (e.asserts s)

-- a function that asserts nothing
free : {n : ℕ} {uses : Uses} {result : Sources → Result} → Asserted n (entry uses result)
free s h = tt

-- 11 and 12: b is a direction, or a point of which refusal 7 has tested 1/(b·b)
reciprocal : (r : ModelRow) → allows Vectors r.kind ≡ true → no_factor r ≡ false → is_direction r.kind ≡ false → T (finite (other_len_sq_rcp r.numbers))
unfolding no_factor
reciprocal r fit tested other =
    let known = finite (other_len_sq_rcp r.numbers) in
    passes known (not-false known (met (eqb r.kind point_kind) (not known) (point_there r.kind fit other) tested))

projects :
    {n : ℕ} {result : Sources → Result} (f g : Vec3 → Vec3 → Bool) → (eqb n 11 || eqb n 12) ≡ true → ((a b : Vec3) → Direction b → T (f a b))
    → ((a b : Vec3) → T (finite (other_len_sq_rcp b)) → T (g a b))
    → Asserted n (asserting (uses_tab Vectors Vectors) result (by_kind f g))
projects f g e p q s h =
    let kind = s.b.kind in
    cond_by T (is_direction kind) _ _ (λ k. p _ _ (h.row_b.unit (eqb-true kind direction_kind k))) (λ k. q _ _ (reciprocal s.b h.fit_b (h.factor e) k))

-- ---- the whole table
rows_asserted : Each Asserted table
unfolding table
rows_asserted =
    free and free and free and free and free and free and free and free and free and free
    and (λ s h. law_s.clamp_length _ _ _ (h.ordered refl).0 (h.ordered refl).1)
    and projects asserts_project_onto_normalized asserts_project_onto refl law_s.project_onto_normalized law_s.project_onto
    and projects asserts_reject_from_normalized asserts_reject_from refl law_s.reject_from_normalized law_s.reject_from
    and free and free and free and free and free and free and free and free and free
    and (λ s h. law_s.reflected _ _ (direction_there s.b h.row_b h.fit_b))
    and (λ s h. law_s.refracted _ _ (direction_there s.a h.row_a h.fit_a) (direction_there s.b h.row_b h.fit_b))
    and (λ s h. law_s.any_orthonormal_pair _ (direction_there s.a h.row_a h.fit_a))
    and free and free and free
    and (λ s h. law_s.angle_between _ _ h.row_a.numbers_finite h.row_b.numbers_finite (denied _ (h.lengths refl).0) (denied _ (h.lengths refl).1))
    and free and free and free and free and free
    and free and free and free and free
    and tt

pub asserted : (c : Command) (r : Read) (m : Bool) → SoundRead r → Done c m (sources_of c r) → T ((entry_at c.number).asserts (sources_of c r))
unfolding table entry_at
asserted c r m sound d =
    let l = known_number c.number d.known in
    each_at Asserted table _ rows_asserted c.number (omega arith) (sources_of c r) (held c r m sound d)
