-- `bench::answer::Session::answer_some` meets its contract, if the C library's `write` keeps its
-- own.
use Rattle.std.proofs.Common.{arith, length, ◌≤◌}
use Rattle.bench.proofs.SessionLaws.{fed_fits, fed_part}
use Rattle.bench.proofs.answer.Session.answer_some.Goals as goal

pub overflow_add-self : goal.overflow_add-self
overflow_add-self c =
    let part : c.feed-fed.result.consumed ≤ length c.args.bytes.now = fed_part _ _ _ _ _ _ _ c.feed-fed.ensures in
    omega (arith, c.requires.consumed)

pub hand_over-requires-clause-within : goal.hand_over-requires-clause-within
hand_over-requires-clause-within c =
    let fits : c.feed-fed.result.produced ≤ length c.feed-fed.new.out = fed_fits _ _ _ _ _ _ _ c.feed-fed.ensures c.feed-fed.auto.out in
    omega arith

pub hand_over-requires-clause-fits : goal.hand_over-requires-clause-fits
hand_over-requires-clause-fits c =
    let fits : c.feed-fed.result.produced ≤ length c.feed-fed.new.out = fed_fits _ _ _ _ _ _ _ c.feed-fed.ensures c.feed-fed.auto.out in
    omega (arith, c.requires.handed, c.feed-fed.auto.out)
