-- Where 6 is not listed the result is finite, since the numbers that it is made of are: row by row of the table of commands. Assumes nothing.
use Prim.Native.Nat.{ℕ, ◌≤◌}
use native.Mathlib.Omega.{arith}
use mathlib.Core.Path.{◌≡◌}
use mathlib.Core.Bool.{Bool, true, false, not}
use lib.Dec.{T}
use lib.Ieee.Scale.{finite}
use borrow.Author.Tests.{not-false}
use denote.Floats.{passes}
use Rattle.vector.specs.declared.vec3.Vec3.{Vec3}
use Rattle.vector.specs.Comparisons.{is_finite}
use Rattle.vector.specs.ExactVectors.{FiniteVec}
use Rattle.vector.proofs.meanings.OrthogonalLaws.{any_orthogonal}
use Rattle.vector.proofs.scaling.ScaledBits.{all_finite}
use Rattle.vector.proofs.values.FiniteVectors as Finite
use Rattle.commands.specs.Codes.{last, result_infinite}
use Rattle.commands.specs.Fields.{Sources}
use Rattle.commands.specs.Commands.{Entry, values, table, entry_at}
use Rattle.commands.specs.Refusals.{bad_value, out_of_order, out_of_range, not_finite}
use Rattle.commands.specs.Claim.{SoundRow}
use Rattle.commands.specs.Handbook.{handbook, entry_for, is_listed}
use Rattle.commands.proofs.ConditionLaws.{none_of_five}
use Rattle.commands.proofs.table.EachLaws.{Each, each_at, ◌and◌}
use Rattle.commands.proofs.handbook.ListedLaws.{listed_or, not_holding}

-- sources from sound rows, with values that 5 has let through
pub record Passed (n : ℕ) (s : Sources) : Type 0 where
  pub row_a : SoundRow s.a
  pub row_b : SoundRow s.b
  pub fit : bad_value n s.u s.v s.w ≡ false

abbrev SixListed : ℕ → Entry → Type 0
SixListed n e = (s : Sources) → Passed n s → T (listed_or (entry_for n) result_infinite (not_finite (e.result s)))

-- command n gives a number that is finite, and a finite point
finite_number : (n : ℕ) (b : Bool) → T b → T (listed_or (entry_for n) result_infinite (not b))
finite_number n true t = not_holding (entry_for n) result_infinite false tt
finite_number n false t = absurd t

finite_point : (n : ℕ) (v : Vec3) → FiniteVec v → T (listed_or (entry_for n) result_infinite (not (is_finite v)))
finite_point n v h = finite_number n (is_finite v) (all_finite v h)

-- 1: its values were let through by 5
values_finite : (s : Sources) → bad_value 1 s.u s.v s.w ≡ false → FiniteVec (values s)
unfolding bad_value entry_at table
values_finite s h =
    let none = (none_of_five (not (finite s.u)) (not (finite s.v)) (not (finite s.w)) (out_of_order 1 s.u s.v) (out_of_range 1 s.u) h).front in
    record {
      finite_x = passes (finite s.u) (not-false (finite s.u) none.first_not);
      finite_y = passes (finite s.v) (not-false (finite s.v) none.second_not);
      finite_z = passes (finite s.w) (not-false (finite s.w) none.third_not);
    }

-- ---- the whole table
rows_listed : Each SixListed table
unfolding table entry_for handbook is_listed not_finite
rows_listed =
    (λ s p. tt)
    and (λ s p. finite_point 1 _ (values_finite s p.fit))
    and (λ s p. tt) and (λ s p. tt) and (λ s p. tt) and (λ s p. tt)
    and (λ s p. finite_point 6 _ (Finite.min_finite _ _ p.row_a.numbers_finite p.row_b.numbers_finite))
    and (λ s p. finite_point 7 _ (Finite.max_finite _ _ p.row_a.numbers_finite p.row_b.numbers_finite))
    and (λ s p. tt) and (λ s p. tt) and (λ s p. tt) and (λ s p. tt) and (λ s p. tt) and (λ s p. tt) and (λ s p. tt) and (λ s p. tt)
    and (λ s p. finite_point 16 _ (Finite.trunc_finite _ p.row_a.values p.row_a.numbers_finite))
    and (λ s p. finite_point 17 _ (Finite.floor_finite _ p.row_a.values p.row_a.numbers_finite))
    and (λ s p. finite_point 18 _ (Finite.round_finite _ p.row_a.values p.row_a.numbers_finite))
    and (λ s p. tt) and (λ s p. tt)
    and (λ s p. finite_point 21 _ (any_orthogonal _ p.row_a.values p.row_a.numbers_finite).finite_result)
    and (λ s p. tt) and (λ s p. tt) and (λ s p. tt) and (λ s p. tt) and (λ s p. tt) and (λ s p. tt) and (λ s p. tt) and (λ s p. tt)
    and (λ s p. tt) and (λ s p. tt) and (λ s p. tt) and (λ s p. tt) and (λ s p. tt) and (λ s p. tt) and (λ s p. tt)
    and (λ s p. finite_number 37 (finite s.a.offset) p.row_a.offset_finite)
    and tt

pub six_listed : (n : ℕ) (s : Sources) → n ≤ last → Passed n s → T (listed_or (entry_for n) result_infinite (not_finite ((entry_at n).result s)))
unfolding table entry_at
six_listed n s h p = each_at SixListed table _ rows_listed n (omega arith) s p
