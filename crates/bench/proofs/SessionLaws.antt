-- What one call of the stream promises a session. Assumes nothing.
use Prim.Native.Nat.{ℕ, ◌≤◌}
use mathlib.Core.Path.{◌≡◌, ap}
use mathlib.Core.List.{List}
use native.Mathlib.Omega.{arith}
use lib.ListN.{length}
use Rattle.sheet.specs.Words.{lent_step}
use Rattle.stream.specs.declared.feed.Progress.{Progress}
use Rattle.stream.specs.declared.feed.Ended.{Ended}
use Rattle.stream.specs.declared.Stream.{Stream}
use Rattle.stream.specs.Stream.{held, text_of, EndedInto, fed_by, Feeds, EndsInput}
use Rattle.stream.proofs.turns.AnswerLaws.{ended_fits}
use Rattle.stream.proofs.turns.FedLaws.{produced_fits, consumed_part}

-- the answers of a call of `feed`, and of `ended`, lie in the lent bytes
pub fed_fits : (r : Progress) (out' w w' bytes out : List ℕ) (s : Stream) → Feeds w s bytes out r w' out' → length out' ≡ length out → r.produced ≤ length out'
fed_fits r out' w w' bytes out s e l = omega (arith, l, produced_fits lent_step (held w (text_of s)) bytes out (fed_by w' r out') e l)

pub fed_part : (r : Progress) (out' w w' bytes out : List ℕ) (s : Stream) → Feeds w s bytes out r w' out' → r.consumed ≤ length bytes
fed_part r out' w w' bytes out s e = consumed_part lent_step (held w (text_of s)) bytes out (fed_by w' r out') e

pub end_fits : (r : Ended) (out' out : List ℕ) (s : Stream) → EndsInput s out r out' → length out' ≡ length out → r.produced ≤ length out'
end_fits r out' out s e l = omega (arith, l, ap (λ (x : EndedInto). x.produced) e, ended_fits (text_of s) out)
