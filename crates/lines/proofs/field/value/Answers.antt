-- `lines::field::value` meets its contract. Assumes nothing.
use Rattle.std.proofs.Common.{arith}
use Rattle.lines.proofs.numerals.ReadLaws.{reads_more}
use Rattle.lines.proofs.field.value.Goals as goal

pub loop-b-preserved : goal.loop-b-preserved
loop-b-preserved c = reads_more _ _ _ c.loop-b.invariant c.loop-b-test.true _ (c.digit-a.ensures.digit (omega arith)) (omega arith)
