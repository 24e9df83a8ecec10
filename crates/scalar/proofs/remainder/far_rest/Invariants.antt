-- `scalar::remainder::far_rest` meets its contract. Assumes nothing.
use Rattle.scalar.proofs.RestLaws.{Resting}
use Rattle.scalar.proofs.remainder.far_rest.Given as goal

abbrev pub invariant-loop-left : goal.invariant-loop-left
invariant-loop-left l = Resting l.m l.e l.n l.r l.left

abbrev pub decreases-loop-left : goal.decreases-loop-left
decreases-loop-left l = l.left
