-- `bench::answer::Session::answer_all` meets its contract, if the C library's `write` keeps its
-- own.
use Prim.Native.Nat.{◌-◌}
use mathlib.Core.Path.{◌≡◌}
use lib.ListN.{length}
use Rattle.bench.specs.Feeding.{held_by}
use Rattle.bench.proofs.FeedingLaws.{FedTo}
use Rattle.bench.proofs.answer.Session.answer_all.Given as goal

abbrev pub invariant-loop-self : goal.invariant-loop-self
invariant-loop-self l = record { fed : FedTo (held_by l.fn.self) l.bytes l.self; room : length l.self.out ≡ length l.fn.self.out }

abbrev pub decreases-loop-self : goal.decreases-loop-self
decreases-loop-self l = length l.bytes - l.self.consumed
