-- `sheet::step::step` meets its contract. Assumes nothing.
use Rattle.sheet.proofs.FrontLaws.{stepped_front}
use Rattle.sheet.proofs.step.step.Goals as goal

pub returns-in-Some : goal.returns-in-Some
returns-in-Some c =
    stepped_front c.args.state.now _ _ _ _ c.in-Some.ensures.cases.enough c.in-Some.ensures.cases.same c.step_sheet.ensures
