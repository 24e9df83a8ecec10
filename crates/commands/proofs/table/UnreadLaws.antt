-- A source row above 63 does not matter: a command that uses it is refused by 2 or 3, and one that does not use it never reads it. Assumes nothing.
use Prim.Native.Nat.{ℕ, ◌≤◌, ◌<◌}
use mathlib.Core.Path.{◌≡◌, refl, sym, subst, ◌∙◌}
use mathlib.Core.Bool.{Bool, true, false, ◌||◌, true≢false, false≢true}
use lib.Dec.{eqb}
use borrow.Author.Tests.{eqb-true, lt-ltb}
use Rattle.laws.proofs.numbers.BoolLaws.{or_true}
use Rattle.commands.specs.declared.command.Command.{Command}
use Rattle.commands.specs.Codes.{last}
use Rattle.commands.specs.Rows.{ModelRow}
use Rattle.commands.specs.Fields.{Kinds, Unused, Vectors, Points, Directions, Planes, Filled, is_used, allows, Uses, Read, Sources, sources_of}
use Rattle.commands.specs.Results.{Result}
use Rattle.commands.specs.Commands.{table, entry_at}
use Rattle.commands.specs.Refusals.{first, early, late, refusals, refusal_of, unknown, no_row, bad_source, no_refraction, no_direction, no_meeting}
use Rattle.commands.specs.Effects.{unless_refused, command_effect}
use Rattle.commands.proofs.ConditionLaws.{known_number}
use Rattle.commands.proofs.table.EntryLaws.{Unread, with_a, with_b, with_row}
use Rattle.commands.proofs.table.TableLaws.{entry_lawful}

-- ---- the three sources of a command: rows a and b, and the one whose number is field u
pub data Source : Type 0 where
  A : Source
  B : Source
  U : Source

abbrev pub number_in : Source → Command → ℕ
number_in A c = c.a
number_in B c = c.b
number_in U c = c.u

abbrev kinds_in : Source → Uses → Kinds
kinds_in A uses = uses.a
kinds_in B uses = uses.b
kinds_in U uses = uses.row

abbrev pub row_in : Source → Read → ModelRow
row_in A r = r.a
row_in B r = r.b
row_in U r = r.row

-- another row in its place
abbrev pub instead : Source → Read → ModelRow → Read
instead A r x = record { a = x; b = r.b; row = r.row }
instead B r x = record { a = r.a; b = x; row = r.row }
instead U r x = record { a = r.a; b = r.b; row = x }

abbrev uses_source : Source → ℕ → Bool
uses_source i n = is_used (kinds_in i (entry_at n).uses)

-- ---- a command that 2 or 3 refuses
refused_early : (c : Command) (r s : Read) (m : Bool) → (unknown c.number || no_row c) ≡ true → command_effect c r m ≡ command_effect c s m
unfolding command_effect refusal_of refusals early first unless_refused
refused_early c r s m h = go (unknown c.number) (no_row c) refl refl h
  where
    go : (p q : Bool) → unknown c.number ≡ p → no_row c ≡ q → (p || q) ≡ true → command_effect c r m ≡ command_effect c s m
    go true q e f h = rw e refl
    go false true e f h = rw (e, f) refl
    go false false e f h = absurd (false≢true h)

-- 3: a row above 63 that is used
used_outside : (i : Source) (c : Command) → 63 < number_in i c → uses_source i c.number ≡ true → no_row c ≡ true
unfolding no_row
used_outside A c l u = simp (u, lt-ltb 63 c.a l, or_true)
used_outside B c l u = simp (u, lt-ltb 63 c.b l, or_true)
used_outside U c l u = simp (u, lt-ltb 63 c.u l, or_true)

-- ---- a source that is not used
is_unused : (k : Kinds) → is_used k ≡ false → k ≡ Unused
is_unused Unused e = refl
is_unused Vectors e = absurd (true≢false e)
is_unused Points e = absurd (true≢false e)
is_unused Directions e = absurd (true≢false e)
is_unused Planes e = absurd (true≢false e)
is_unused Filled e = absurd (true≢false e)

-- a command is none of those that use a source which it does not use
other : (i : Source) (k n : ℕ) → uses_source i k ≡ true → uses_source i n ≡ false → eqb n k ≡ false
other i k n u v = go (eqb n k) refl
  where
    go : (b : Bool) → eqb n k ≡ b → eqb n k ≡ false
    go true e = absurd (true≢false (sym (subst (λ (m : ℕ). uses_source i m ≡ true) (sym (eqb-true n k e)) u) ∙ v))
    go false e = e

same_result : (b : Bool) (with : Sources → ModelRow → Sources) (result : Sources → Result) → b ≡ false → Unread b with result → (s : Sources) (r : ModelRow) → result s ≡ result (with s r)
same_result true with result e h s r = absurd (true≢false e)
same_result false with result e h s r = h s r

-- the refusals that read a row in some commands alone, 8 in 23, 7 in 11, 12 and 28 and 12 in 36: these use it
unused :
    (i : Source) (c : Command) (r : Read) (x : ModelRow) (m : Bool) → c.number ≤ last → uses_source i c.number ≡ false
    → command_effect c r m ≡ command_effect c (instead i r x) m
unfolding command_effect refusal_of refusals early late bad_source no_refraction no_direction no_meeting allows table entry_at
unused A c r x m l u =
    let n = c.number in
    let same = same_result (uses_source A n) with_a (entry_at n).result u (entry_lawful n l).unread_a (sources_of c r) x in
    let not : (k : ℕ) → uses_source A k ≡ true → eqb n k ≡ false = λ k h. other A k n h u in
    rw (same, is_unused (entry_at n).uses.a u, not 23 refl, not 28 refl) refl
unused B c r x m l u =
    let n = c.number in
    let same = same_result (uses_source B n) with_b (entry_at n).result u (entry_lawful n l).unread_b (sources_of c r) x in
    let not : (k : ℕ) → uses_source B k ≡ true → eqb n k ≡ false = λ k h. other B k n h u in
    rw (same, is_unused (entry_at n).uses.b u, not 11 refl, not 12 refl, not 23 refl, not 28 refl, not 36 refl) refl
unused U c r x m l u =
    let n = c.number in
    let same = same_result (uses_source U n) with_row (entry_at n).result u (entry_lawful n l).unread_row (sources_of c r) x in
    rw (same, is_unused (entry_at n).uses.row u, other U 36 n refl u) refl

-- ---- above 63: refused by 2, refused by 3, or not used
pub unread : (i : Source) (c : Command) (r : Read) (x : ModelRow) (m : Bool) → 63 < number_in i c → command_effect c r m ≡ command_effect c (instead i r x) m
unread i c r x m l = go (unknown c.number) refl (uses_source i c.number) refl
  where
    go : (p : Bool) → unknown c.number ≡ p → (q : Bool) → uses_source i c.number ≡ q → command_effect c r m ≡ command_effect c (instead i r x) m
    go true e q f = refused_early c r (instead i r x) m (rw e refl)
    go false e true f = refused_early c r (instead i r x) m (rw (e, used_outside i c l f) refl)
    go false e false f = unused i c r x m (known_number c.number e) f
