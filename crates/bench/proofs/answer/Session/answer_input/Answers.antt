-- `bench::answer::Session::answer_input` meets its contract, if the C library's `read` and `write`
-- keep theirs. What holds at the loop's test: the bytes of the reads so far, one after another, are
-- fed (`Fed`).
use Rattle.std.proofs.Common.{refl}
use Rattle.bench.proofs.ReadLaws.{input_left, input_ended}
use Rattle.bench.proofs.answer.Session.answer_input.Goals as goal

pub returns-in_err-n : goal.returns-in_err-n
returns-in_err-n c = input_left c.loop-reads.invariant c.read_once.ensures _ _ refl c.from_residual.ensures.0

pub returns-in_err-answer_end : goal.returns-in_err-answer_end
returns-in_err-answer_end c =
    input_left c.loop-reads.invariant c.read_once.ensures _ _ c.answer_end.ensures.kept c.from_residual-in_err-answer_end.ensures.0

pub returns-then-n-eq0 : goal.returns-then-n-eq0
returns-then-n-eq0 c =
    input_ended c.loop-reads.invariant c.read_once.ensures _ _ _ (cc (c.in_ok-n.was, c.if-n-eq0.true)) c.answer_end.ensures.kept c.answer_end.ensures.handed
