-- `commands::refusal::Uses::of` meets its contract: each set is a column of the table. Assumes nothing.
use Prim.Native.Nat.{ℕ}
use mathlib.Core.Path.{sym}
use native.Mathlib.Omega.{arith}
use borrow.Author.Tests.{ne_eqb}
use lib.Dec.{eqb}
use Rattle.commands.specs.Fields.{is_used}
use Rattle.commands.specs.Commands.{Entry, table, entry_at}
use Rattle.commands.specs.CommandSets.{in_set}
use Rattle.commands.proofs.CommandSetLaws.{column, tested}
use Rattle.commands.proofs.refusal.Uses.of.Goals as goal

pub returns-clause-t : goal.returns-clause-t
unfolding in_set entry_at table
returns-clause-t c = column _ c.args.n (λ (e : Entry). e.uses.t) c.is_in.ensures tt

pub returns-clause-a : goal.returns-clause-a
unfolding in_set entry_at table
returns-clause-a c = column _ c.args.n (λ (e : Entry). is_used e.uses.a) c.is_in-2.ensures tt

pub returns-clause-b : goal.returns-clause-b
unfolding in_set entry_at table
returns-clause-b c = column _ c.args.n (λ (e : Entry). is_used e.uses.b) c.is_in-3.ensures tt

pub returns-clause-row : goal.returns-clause-row
unfolding entry_at table
returns-clause-row c = sym (tested (λ (e : Entry). is_used e.uses.row) (λ (n : ℕ). eqb n 36) tt (λ n h. ne_eqb n 36 (λ e. omega (arith, e, h))) c.args.n)

pub returns-clause-u : goal.returns-clause-u
unfolding in_set entry_at table
returns-clause-u c = column _ c.args.n (λ (e : Entry). e.uses.u) c.is_in-4.ensures tt

pub returns-clause-v : goal.returns-clause-v
unfolding in_set entry_at table
returns-clause-v c = column _ c.args.n (λ (e : Entry). e.uses.v) c.is_in-5.ensures tt

pub returns-clause-w : goal.returns-clause-w
unfolding in_set entry_at table
returns-clause-w c = column _ c.args.n (λ (e : Entry). e.uses.w) c.is_in-6.ensures tt
