-- `sheet::run::run_all` meets its contract: `run` on words that are all 0, which are a fresh sheet. Assumes nothing.
use Rattle.sheet.proofs.RunLaws.{all_run}
use Rattle.sheet.proofs.run.run_all.Goals as goal

pub returns : goal.returns
returns c = all_run _ _ _ _ _ c.run.ensures
