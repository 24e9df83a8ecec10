-- The loop keeps that the digits before the next one are read and gave n.
use Rattle.lines.proofs.numerals.ReadLaws.{Reads}
use Rattle.lines.proofs.field.value.Given as goal

abbrev pub invariant-loop-b : goal.invariant-loop-b
invariant-loop-b l = Reads l.digits l.n l.b-index
