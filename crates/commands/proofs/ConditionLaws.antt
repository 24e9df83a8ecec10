-- Conditions joined by && and ||, and the list of refusals of which none holds. Assumes nothing.
use Prim.Native.Nat.{ℕ, suc, ◌≤◌, ◌<◌}
use mathlib.Core.Path.{◌≡◌, refl}
use mathlib.Core.Bool.{Bool, true, false, not, ◌&&◌, ◌||◌, true≢false, false≢true}
use mathlib.Core.List.{List, ◌∷◌}
use native.Mathlib.Omega.{arith}
use lib.Dec.{T, ltb, eqb}
use borrow.Author.Tests.{ltb-false, eqb-false, eq-eqb}
use lib.Ieee.{binary32, of_bits}
use Rattle.commands.specs.declared.command.Command.{Command}
use Rattle.laws.proofs.numbers.BoolLaws.{and_false}
use Rattle.commands.specs.Codes.{last, undo, row_count}
use Rattle.commands.specs.Fields.{is_used, Sources}
use Rattle.commands.specs.Commands.{entry_at}
use Rattle.commands.specs.Refusals.{Refusal, refuses, first, early, late, refusals, refusal_of, unknown, no_row, nothing_remembered, bad_source, bad_value, no_refraction, no_direction, no_meeting, not_finite}

-- a test that failed, as a type
pub denied : (b : Bool) → b ≡ false → T (not b)
denied true e = absurd (true≢false e)
denied false e = tt

-- conditions joined from the left
pub none_of_two : (p q : Bool) → (p || q) ≡ false → (p ≡ false) × (q ≡ false)
none_of_two true q e = absurd (true≢false e)
none_of_two false q e = (refl, e)

pub record NoneOfFour (p q r s : Bool) : Type 0 where
  pub first_not : p ≡ false
  pub second_not : q ≡ false
  pub third_not : r ≡ false
  pub fourth_not : s ≡ false

pub none_of_four : (p q r s : Bool) → (p || q || r || s) ≡ false → NoneOfFour p q r s
none_of_four p q r s e =
    let last = none_of_two (p || q || r) s e in
    let third = none_of_two (p || q) r last.0 in
    let front = none_of_two p q third.0 in
    record { first_not = front.0; second_not = front.1; third_not = third.1; fourth_not = last.1 }

pub record NoneOfFive (p q r s t : Bool) : Type 0 where
  pub front : NoneOfFour p q r s
  pub fifth_not : t ≡ false

pub none_of_five : (p q r s t : Bool) → (p || q || r || s || t) ≡ false → NoneOfFive p q r s t
none_of_five p q r s t e = let last = none_of_two (p || q || r || s) t e in record { front = none_of_four p q r s last.0; fifth_not = last.1 }

-- a condition with a premise that is met
pub met : (p q : Bool) → p ≡ true → (p && q) ≡ false → q ≡ false
met true q t e = e
met false q t e = absurd (false≢true t)

-- the first of a list of refusals that gives 0 does not hold, and the rest give 0
pub none_first : (k : ℕ) (b : Bool) (rest : List Refusal) → first (refuses (suc k) b ∷ rest) ≡ 0 → (b ≡ false) × (first rest ≡ 0)
unfolding first
none_first k true rest e = absurd (omega (arith, e))
none_first k false rest e = (refl, e)

-- a command that is done: no condition holds
pub record Done (c : Command) (m : Bool) (s : Sources) : Type 0 where
  pub known : unknown c.number ≡ false
  pub rows_there : no_row c ≡ false
  pub remembered : nothing_remembered c.number m ≡ false
  pub sources_fit : bad_source c.number s.a.kind s.b.kind s.row.kind ≡ false
  pub values_fit : bad_value c.number (of_bits binary32 c.u) (of_bits binary32 c.v) (of_bits binary32 c.w) ≡ false
  pub refracts : no_refraction c.number s ≡ false
  pub directed : no_direction c.number s ≡ false
  pub meets : no_meeting c.number s ≡ false
  pub finite_result : not_finite ((entry_at c.number).result s) ≡ false

pub done : (c : Command) (m : Bool) (s : Sources) → refusal_of c m s ≡ 0 → Done c m s
unfolding refusal_of refusals early late
done c m s e =
    let r2 = none_first 1 _ _ e in
    let r3 = none_first 2 _ _ r2.1 in
    let r11 = none_first 10 _ _ r3.1 in
    let r4 = none_first 3 _ _ r11.1 in
    let r5 = none_first 4 _ _ r4.1 in
    let r8 = none_first 7 _ _ r5.1 in
    let r7 = none_first 6 _ _ r8.1 in
    let r12 = none_first 11 _ _ r7.1 in
    let r6 = none_first 5 _ _ r12.1 in
    record { known = r2.0; rows_there = r3.0; remembered = r11.0; sources_fit = r4.0; values_fit = r5.0; refracts = r8.0; directed = r7.0; meets = r12.0; finite_result = r6.0 }

-- ---- 11
pub some_remembered : (n : ℕ) → nothing_remembered n true ≡ false
unfolding nothing_remembered
some_remembered n = and_false (eqb n undo)

-- ---- 2 and 3
pub known_number : (n : ℕ) → unknown n ≡ false → n ≤ last
unfolding unknown
known_number n e = ltb-false last n e

-- row t where it is used, and row t + 1 in 24
pub record RowsThere (c : Command) : Type 0 where
  pub target : (entry_at c.number).uses.t ≡ true → c.t < row_count
  pub next : c.number ≡ 24 → c.t ≡ 63 → ⊥

pub rows_there : (c : Command) → no_row c ≡ false → RowsThere c
unfolding no_row
rows_there c h =
    let uses = (entry_at c.number).uses in
    let none =
    none_of_five (uses.t && ltb 63 c.t) (is_used uses.a && ltb 63 c.a) (is_used uses.b && ltb 63 c.b) (is_used uses.row && ltb 63 c.u)
    (eqb c.number 24 && eqb c.t 63) h in
    record {
      target = λ u. let l = ltb-false 63 c.t (met uses.t (ltb 63 c.t) u none.front.first_not) in omega arith;
      next = λ e. eqb-false c.t 63 (met (eqb c.number 24) (eqb c.t 63) (eq-eqb c.number 24 e) none.fifth_not);
    }
