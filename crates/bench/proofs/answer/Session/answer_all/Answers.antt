-- `bench::answer::Session::answer_all` meets its contract, if the C library's `write` keeps its
-- own. What holds at the loop's test: the consumed bytes are fed and their answers handed over
-- (`FedTo`), and the lent bytes are as many as they were. The loop ends, since the bytes that are
-- left grow fewer: where an answer line has room, one at least is consumed.
use Rattle.std.proofs.Common.{arith, refl}
use Rattle.std.proofs.lemmas.Result.{err_from_is_err_and}
use Rattle.bench.proofs.FeedingLaws.{fed_none, fed_more, all_failed}
use Rattle.bench.proofs.answer.Session.answer_all.Goals as goal

pub loop-self-init : goal.loop-self-init
loop-self-init c = record { fed = fed_none _ c.args.bytes.now refl refl; room = refl }

pub returns-in_err-answer_some : goal.returns-in_err-answer_some
returns-in_err-answer_some c =
    let p = err_from_is_err_and c.from_residual.result c.from_residual.ensures.1 in
    all_failed (fed_more c.loop-self.invariant.fed _ c.answer_some.ensures.fed) _ (cc (p.1, p.2, c.in_err-answer_some.ensures.failed)) (omega (arith, c.loop-self-test.true))
