-- What a caller of `feed` learns of the counts that it answers. Assumes nothing.
use Prim.Native.Nat.{ℕ, ◌≤◌, ◌<◌}
use mathlib.Core.Path.{◌≡◌, ap}
use mathlib.Core.List.{List}
use native.Mathlib.Omega.{arith}
use lib.ListN.{length, take, drop, length-append, length-drop}
use Rattle.commands.specs.declared.command.Command.{Command}
use Rattle.commands.specs.Model.{Stepped}
use Rattle.stream.specs.Stream.{Held, feed_of, consumed_of, FedInto, fed_into}
use Rattle.stream.proofs.turns.ConsumedLaws.{consumed_le, some_consumed}

module _ {S : Type 0} (step : S → Command → Stepped S) (h : Held S) (bytes out : List ℕ) (o : FedInto S) (e : o ≡ fed_into step h bytes out) where
  consumed : o.consumed ≡ consumed_of (length out) bytes
  unfolding fed_into
  consumed = ap (λ (x : FedInto S). x.consumed) e

  pub consumed_part : o.consumed ≤ length bytes
  consumed_part = omega (arith, consumed, consumed_le (length out) bytes)

  pub consumed_some : 0 < length bytes → 43 ≤ length out → 0 < o.consumed
  consumed_some b r = omega (arith, consumed, some_consumed (length out) bytes b r)

  pub produced_fits : length o.out ≡ length out → o.produced ≤ length out
  unfolding fed_into
  produced_fits l =
      let text = (feed_of step h (take (consumed_of (length out) bytes) bytes)).text in
      omega (arith, ap (λ (x : FedInto S). x.produced) e, ap (λ (x : FedInto S). length x.out) e, length-append text (drop (length text) out), length-drop (length text) out)
