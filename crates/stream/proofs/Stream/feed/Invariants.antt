-- `stream::Stream::feed` meets its contract. Assumes nothing.
use Prim.Native.Nat.{◌-◌}
use lib.ListN.{length, take}
use Rattle.stream.specs.Stream.{held}
use Rattle.stream.proofs.turns.TurnLaws.{Turning}
use Rattle.stream.proofs.Stream.feed.Given as goal

abbrev pub invariant-loop-i : goal.invariant-loop-i
invariant-loop-i l = Turning (held l.initial.state (take l.initial.len l.initial.line)) l.bytes l.initial.out l.out (length l.initial.state) l.state l.line l.len l.produced l.i

abbrev pub decreases-loop-i : goal.decreases-loop-i
decreases-loop-i l = length l.bytes - l.i
