-- `bench::answer::Session::answer_end` meets its contract, if the C library's `write` keeps its
-- own.
use Rattle.std.proofs.Common.{arith, length, ◌≤◌}
use Rattle.bench.proofs.SessionLaws.{end_fits}
use Rattle.bench.proofs.answer.Session.answer_end.Goals as goal

pub hand_over-requires-clause-within : goal.hand_over-requires-clause-within
hand_over-requires-clause-within c =
    let fits : c.ended-end.result.produced ≤ length c.ended-end.new.out = end_fits _ _ _ _ c.ended-end.ensures c.ended-end.auto.out in
    omega arith
