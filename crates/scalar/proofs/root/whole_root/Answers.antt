-- `scalar::root::whole_root` meets its contract. Assumes nothing.
use native.Mathlib.Omega.{arith}
use Rattle.scalar.proofs.roots.DigitLaws.{four_bits}
use Rattle.scalar.proofs.root.whole_root.Goals as goal

pub with_digit-s-requires : goal.with_digit-s-requires
with_digit-s-requires c = four_bits c.args.n c.loop-digit.s c.loop-digit.digit c.requires (omega arith) c.loop-digit.invariant
