-- `scalar::remainder::far_rest` meets its contract. Assumes nothing.
-- The loop's invariant: r has 24 bits, and r * 2 ^ left modulo n is m * 2 ^ e modulo n.
-- Its measure: left, the bits still to be shifted, which each pass lowers by 40.
use native.Mathlib.Omega.{arith}
use Rattle.scalar.proofs.RestLaws.{rest_more, rest_last}
use Rattle.scalar.proofs.remainder.far_rest.Goals as goal

pub loop-left-preserved : goal.loop-left-preserved
loop-left-preserved c = rest_more c.args.m c.args.e c.args.n c.loop-left.r c.loop-left.left c.requires.1 c.requires.2 c.loop-left.invariant c.loop-left-test.true

pub returns : goal.returns
returns c = rest_last c.args.m c.args.e c.args.n c.loop-left.r c.loop-left.left c.loop-left.invariant (omega arith)
