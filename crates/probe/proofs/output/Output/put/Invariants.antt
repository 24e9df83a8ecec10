-- The loop keeps the place within 11 bytes for each result so far and 10 for the refusal.
use Rattle.std.proofs.Common.{◌+◌, ◌*◌, ◌≤◌}
use Rattle.probe.proofs.output.Output.put.Given as goal

abbrev pub invariant-loop-word : goal.invariant-loop-word
invariant-loop-word l = l.self.count ≤ l.fn.self.count + 10 + 11 * l.word-index
