-- `sheet::history::copy_rows`: i rows are copied. Assumes nothing.
use Prim.Native.Nat.{◌*◌}
use mathlib.Core.Path.{◌≡◌}
use lib.ListN.{take, drop}
use lib.Seq.{sets}
use Rattle.sheet.proofs.history.copy_rows.Given as goal

abbrev pub invariant-loop-i : goal.invariant-loop-i
invariant-loop-i l = l.state ≡ sets l.initial.state l.to (take (l.i * 5) (drop l.from l.initial.state))
