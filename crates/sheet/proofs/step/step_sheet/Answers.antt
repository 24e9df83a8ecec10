-- `sheet::step::step_sheet` meets its contract. Assumes nothing.
use Prim.Native.Nat.{ℕ, ◌+◌, ◌%◌, ◌<◌}
use mathlib.Core.Path.{◌≡◌, ◌∙◌}
use native.Mathlib.Omega.{arith}
use Rattle.commands.specs.Codes.{row_count}
use Rattle.std.proofs.lemmas.Result.{err_from_is_err_and}
use Rattle.sheet.proofs.LentStepLaws.{Found, found, put_range, two_range, puts, puts_two, restores, refuses}
use Rattle.sheet.proofs.step.step_sheet.Goals as goal

-- the number of a row, by whatever comes to the same modulo 64
same_row : (i n m : ℕ) → i ≡ n % 64 → n % 64 ≡ m % 64 → i ≡ m % 64
same_row i n m h e = h ∙ e

-- ---- the needs
pub invariant_of-t : goal.invariant_of-t
invariant_of-t c =
    let effect_found : Found c.args.state.now c.args.c c.effect_of.result = found _ _ _ _ _ _ _ _ c.effect_of.result (omega arith) (same_row _ _ _ c.of-a.ensures (omega arith)) (same_row _ _ _ c.of-b.ensures (omega arith)) (same_row _ _ _ c.of-u.ensures (omega arith))
    c.row_at-row_a.ensures c.row_at-row_b.ensures c.stored_at-row_u.ensures c.effect_of.ensures in
    record { in_sheet = put_range effect_found c.in-Put.kind c.in-Put.v c.in-Put.offset (cc) }

pub remember-requires : goal.remember-requires
remember-requires c =
    let effect_found : Found c.args.state.now c.args.c c.effect_of.result = found _ _ _ _ _ _ _ _ c.effect_of.result (omega arith) (same_row _ _ _ c.of-a.ensures (omega arith)) (same_row _ _ _ c.of-b.ensures (omega arith)) (same_row _ _ _ c.of-u.ensures (omega arith))
    c.row_at-row_a.ensures c.row_at-row_b.ensures c.stored_at-row_u.ensures c.effect_of.ensures in
    let target : c.args.c.t < row_count = put_range effect_found c.in-Put.kind c.in-Put.v c.in-Put.offset (cc) in
    (omega arith, omega (arith, target))

pub invariant_of-t-in-PutTwo : goal.invariant_of-t-in-PutTwo
invariant_of-t-in-PutTwo c =
    let effect_found : Found c.args.state.now c.args.c c.effect_of.result = found _ _ _ _ _ _ _ _ c.effect_of.result (omega arith) (same_row _ _ _ c.of-a.ensures (omega arith)) (same_row _ _ _ c.of-b.ensures (omega arith)) (same_row _ _ _ c.of-u.ensures (omega arith))
    c.row_at-row_a.ensures c.row_at-row_b.ensures c.stored_at-row_u.ensures c.effect_of.ensures in
    let targets : c.args.c.t + 1 < row_count = two_range effect_found c.in-PutTwo.v c.in-PutTwo.w (cc) in
    record { in_sheet = omega (arith, targets) }

pub invariant_of-next : goal.invariant_of-next
invariant_of-next c =
    let effect_found : Found c.args.state.now c.args.c c.effect_of.result = found _ _ _ _ _ _ _ _ c.effect_of.result (omega arith) (same_row _ _ _ c.of-a.ensures (omega arith)) (same_row _ _ _ c.of-b.ensures (omega arith)) (same_row _ _ _ c.of-u.ensures (omega arith))
    c.row_at-row_a.ensures c.row_at-row_b.ensures c.stored_at-row_u.ensures c.effect_of.ensures in
    record { in_sheet = two_range effect_found c.in-PutTwo.v c.in-PutTwo.w (cc) }

pub remember-requires-in-PutTwo : goal.remember-requires-in-PutTwo
remember-requires-in-PutTwo c =
    let effect_found : Found c.args.state.now c.args.c c.effect_of.result = found _ _ _ _ _ _ _ _ c.effect_of.result (omega arith) (same_row _ _ _ c.of-a.ensures (omega arith)) (same_row _ _ _ c.of-b.ensures (omega arith)) (same_row _ _ _ c.of-u.ensures (omega arith))
    c.row_at-row_a.ensures c.row_at-row_b.ensures c.stored_at-row_u.ensures c.effect_of.ensures in
    let targets : c.args.c.t + 1 < row_count = two_range effect_found c.in-PutTwo.v c.in-PutTwo.w (cc) in
    (omega arith, omega (arith, targets))

-- ---- the returns
pub returns-in_err-x : goal.returns-in_err-x
returns-in_err-x c =
    let effect_found : Found c.args.state.now c.args.c c.effect_of.result = found _ _ _ _ _ _ _ _ c.effect_of.result (omega arith) (same_row _ _ _ c.of-a.ensures (omega arith)) (same_row _ _ _ c.of-b.ensures (omega arith)) (same_row _ _ _ c.of-u.ensures (omega arith))
    c.row_at-row_a.ensures c.row_at-row_b.ensures c.stored_at-row_u.ensures c.effect_of.ensures in
    let given = err_from_is_err_and c.from_residual.result c.from_residual.ensures.1 in
    rw (given.1, given.2) (refuses effect_found _ c.in_err-x.was)

pub returns-in-Put : goal.returns-in-Put
returns-in-Put c =
    let effect_found : Found c.args.state.now c.args.c c.effect_of.result = found _ _ _ _ _ _ _ _ c.effect_of.result (omega arith) (same_row _ _ _ c.of-a.ensures (omega arith)) (same_row _ _ _ c.of-b.ensures (omega arith)) (same_row _ _ _ c.of-u.ensures (omega arith))
    c.row_at-row_a.ensures c.row_at-row_b.ensures c.stored_at-row_u.ensures c.effect_of.ensures in
    puts effect_found _ _ _ c.in-Put.kind c.in-Put.v c.in-Put.offset (cc) c.from-kind.ensures c.remember.ensures c.put_row.ensures

pub returns-in-PutTwo : goal.returns-in-PutTwo
returns-in-PutTwo c =
    let effect_found : Found c.args.state.now c.args.c c.effect_of.result = found _ _ _ _ _ _ _ _ c.effect_of.result (omega arith) (same_row _ _ _ c.of-a.ensures (omega arith)) (same_row _ _ _ c.of-b.ensures (omega arith)) (same_row _ _ _ c.of-u.ensures (omega arith))
    c.row_at-row_a.ensures c.row_at-row_b.ensures c.stored_at-row_u.ensures c.effect_of.ensures in
    puts_two effect_found _ _ _ _ c.in-PutTwo.v c.in-PutTwo.w (cc) c.from-kind-in-PutTwo.ensures c.remember-in-PutTwo.ensures c.put_row-in-PutTwo.ensures c.put_row-in-PutTwo-2.ensures

pub returns-in-Restore : goal.returns-in-Restore
returns-in-Restore c =
    let effect_found : Found c.args.state.now c.args.c c.effect_of.result = found _ _ _ _ _ _ _ _ c.effect_of.result (omega arith) (same_row _ _ _ c.of-a.ensures (omega arith)) (same_row _ _ _ c.of-b.ensures (omega arith)) (same_row _ _ _ c.of-u.ensures (omega arith))
    c.row_at-row_a.ensures c.row_at-row_b.ensures c.stored_at-row_u.ensures c.effect_of.ensures in
    restores effect_found _ _ (cc) c.undo.ensures
