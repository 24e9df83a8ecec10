-- `scalar::root::shift_of` meets its contract. Assumes nothing.
use Rattle.scalar.proofs.roots.RootPartsLaws.{shift_is}
use Rattle.scalar.proofs.root.shift_of.Goals as goal

pub returns : goal.returns
returns c = shift_is c.args.q c.args.k c.requires.some c.requires.bits
