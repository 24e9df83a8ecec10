-- The loop keeps that it consumed the bytes so far, and that it produced no more than an answer line
-- for each of them.
use Rattle.std.proofs.Common.{◌+◌, ◌*◌, ◌≤◌, ◌≡◌, length}
use Rattle.probe.specs.Bounds.{longest}
use Rattle.probe.proofs.answer_all.Given as goal

abbrev pub invariant-loop-byte : goal.invariant-loop-byte
invariant-loop-byte l = (l.consumed ≡ length l.yielded) × (l.output.count ≤ l.fn.output.count + l.consumed * longest)
