-- `stream::hear::hear_byte` meets its contract. Assumes nothing.
use mathlib.Core.Path.{sym, ◌∙◌}
use native.Mathlib.Omega.{arith}
use Rattle.stream.proofs.turns.HearLaws.{read_all, hear_end}
use Rattle.stream.proofs.hear.hear_byte.Goals as goal

pub returns-then-fields : goal.returns-then-fields
returns-then-fields c =
    hear_end c.args.bytes.now c.args.i c.args.text.now _ c.requires (omega arith) (read_all _ _ c.told-f _ (sym c.if-fields.true ∙ c.fields.ensures.read) c.fields.ensures.places)
