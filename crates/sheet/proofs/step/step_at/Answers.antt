-- `sheet::step::step_at` meets its contract. Assumes nothing.
use native.Mathlib.Omega.{arith}
use Rattle.sheet.proofs.LentStepLaws.{done_at}
use Rattle.sheet.proofs.step.step_at.Goals as goal

pub returns : goal.returns
returns c =
    done_at c.args.state.now _ c.args.out.now _ _ _ c.args.at _ _ c.step-answer.result _ (omega (arith, c.in-Some.ensures.cases.enough, c.split_at_mut-rest.ensures.back_len))
    c.split_at_mut-rest.ensures.front c.split_at_mut-rest.ensures.back c.command_at.ensures c.step-answer.ensures c.numbers_of.ensures c.refusal_of.ensures
