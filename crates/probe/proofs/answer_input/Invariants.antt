-- The loop keeps that all lines are written.
use Rattle.std.proofs.Common.{◌≡◌}
use Rattle.probe.proofs.answer_input.Given as goal

abbrev pub invariant-loop : goal.invariant-loop
invariant-loop l = l.output.count ≡ 0
