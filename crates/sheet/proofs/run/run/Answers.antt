-- `sheet::run::run` meets its contract. Assumes nothing.
use mathlib.Core.Path.{sym}
use Rattle.sheet.proofs.RunLaws.{held_more, run_done}
use Rattle.sheet.proofs.run.run.Goals as goal

pub loop-i-preserved : goal.loop-i-preserved
loop-i-preserved c =
    held_more c.loop-i.invariant _ _ _ c.loop-i-test.true c.step_at.ensures

pub returns : goal.returns
returns c =
    run_done _ _ _ _ _ _ _ (sym c.in_ok-list_refusal.ensures) c.loop-i.invariant c.loop-i-test.false
