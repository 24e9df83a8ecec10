-- `stream::hear::hear` meets its contract. Assumes nothing.
use Prim.Native.Nat.{◌+◌, ◌-◌}
use mathlib.Core.Path.{◌≡◌, sym, ◌∙◌}
use borrow.Author.Tests.{eqb-true}
use native.Mathlib.Omega.{arith}
use Rattle.stream.proofs.turns.HearLaws.{read_all, hear_line}
use Rattle.stream.proofs.hear.hear.Goals as goal

pub returns-then-fields : goal.returns-then-fields
returns-then-fields c =
    let k : c.args.i + 45 - c.args.i ≡ 45 = omega arith in
    hear_line c.args.bytes.now c.args.i c.args.text.now _ (eqb-true _ _ (sym c.if-is_empty.ensures)) (omega (arith, c.if-bytes-i-ge-WITH_FEED.true, c.requires)) c.if-bytes-end-eq10.true
    (rw k at (read_all _ _ c.told-f _ (sym c.if-fields.true ∙ c.fields.ensures.read) c.fields.ensures.places))
