-- `sheet::run::run`: the words and the places lent are those after the first i commands (`Held`).
use Rattle.sheet.specs.Run.{count}
use Rattle.sheet.proofs.RunLaws.{Held}
use Rattle.sheet.proofs.run.run.Given as goal

abbrev pub invariant-loop-i : goal.invariant-loop-i
invariant-loop-i l = Held l.initial.state l.commands l.initial.answers (count l.commands) l.state l.answers l.i
