-- `scalar::root::whole_root` meets its contract. Invariant: s is the whole root of n / 2 ^ (48 - 4 * digit). Assumes nothing.
use Prim.Native.Nat.{◌-◌, ◌*◌, ◌/◌, ◌^◌}
use Rattle.laws.specs.WholeRoot.{WholeRoot}
use Rattle.scalar.proofs.root.whole_root.Given as goal

abbrev pub invariant-loop-digit : goal.invariant-loop-digit
invariant-loop-digit l = WholeRoot (l.n / 2 ^ (48 - 4 * l.digit)) l.s
