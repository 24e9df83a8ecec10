-- `bench::answer::Session::answer_input` meets its contract, if the C library's `read` and `write`
-- keep theirs.
use Rattle.bench.specs.Feeding.{held_by}
use Rattle.bench.proofs.ReadLaws.{Fed}
use Rattle.bench.proofs.answer.Session.answer_input.Given as goal

abbrev pub invariant-loop-reads : goal.invariant-loop-reads
invariant-loop-reads l = Fed (held_by l.fn.self) l.self l.reads
