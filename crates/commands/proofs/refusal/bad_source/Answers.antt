-- `commands::refusal::bad_source` meets its contract. Assumes nothing.
use Prim.Native.Nat.{ℕ}
use mathlib.Core.Path.{◌≡◌, ap, ◌∙◌}
use mathlib.Core.Bool.{not}
use native.Mathlib.Omega.{arith}
use Rattle.std.proofs.lemmas.Grind.{common_steps}
use Rattle.commands.specs.Fields.{allows, Uses}
use Rattle.commands.specs.Commands.{table, entry_at}
use Rattle.commands.specs.CommandSets.{in_set}
use Rattle.commands.specs.Refusals.{bad_source}
use Rattle.commands.proofs.CommandSetLaws.{kind_column}
use Rattle.commands.proofs.refusal.bad_source.Goals as goal

pub returns-then-bad_b : goal.returns-then-bad_b
unfolding bad_source in_set allows entry_at table
returns-then-bad_b c =
    let a : c.is_in-bad_a.result ≡ not (allows (entry_at c.args.n).uses.a c.args.kind_a) = kind_column (λ (u : Uses). u.a) _ _ _ _ _ c.args.n c.args.kind_a (c.is_in-bad_a.ensures ∙ ap (λ (set : ℕ). in_set set c.args.n) c.set_of.ensures) tt in
    let b : c.is_in-bad_b.result ≡ not (allows (entry_at c.args.n).uses.b c.args.kind_b) = kind_column (λ (u : Uses). u.b) _ _ _ _ _ c.args.n c.args.kind_b (c.is_in-bad_b.ensures ∙ ap (λ (set : ℕ). in_set set c.args.n) c.set_of-2.ensures) tt in
    grind (arith, common_steps)

pub returns-else-bad_b : goal.returns-else-bad_b
unfolding bad_source in_set allows entry_at table
returns-else-bad_b c =
    let a : c.is_in-bad_a.result ≡ not (allows (entry_at c.args.n).uses.a c.args.kind_a) = kind_column (λ (u : Uses). u.a) _ _ _ _ _ c.args.n c.args.kind_a (c.is_in-bad_a.ensures ∙ ap (λ (set : ℕ). in_set set c.args.n) c.set_of.ensures) tt in
    let b : c.is_in-bad_b.result ≡ not (allows (entry_at c.args.n).uses.b c.args.kind_b) = kind_column (λ (u : Uses). u.b) _ _ _ _ _ c.args.n c.args.kind_b (c.is_in-bad_b.ensures ∙ ap (λ (set : ℕ). in_set set c.args.n) c.set_of-2.ensures) tt in
    simp (← a, ← b, ← c.bad_row.ensures, c.if-bad_b.false.0, c.if-bad_b.false.1)
