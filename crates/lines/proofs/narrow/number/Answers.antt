-- `lines::narrow::number` meets its contract. Assumes nothing.
use Rattle.std.proofs.Common.{arith}
use Rattle.lines.proofs.numerals.NarrowLaws.{zero_ill, digits_read}
use Rattle.lines.proofs.narrow.number.Goals as goal

pub returns-then-a-tens : goal.returns-then-a-tens
returns-then-a-tens c =
    zero_ill _ _ c.requires (c.digit-a.ensures.digit (omega arith)) (omega arith)

pub returns : goal.returns
returns c =
    let is_a = c.digit-a.ensures.digit (omega arith) in
    let is_b = c.digit-b.ensures.digit (omega arith) in
    let is_c = c.digit-c.ensures.digit (omega arith) in
    digits_read _ _ _ (omega arith) (omega arith) (omega arith) c.args.digits.now (omega arith) c.requires is_a is_b is_c (omega arith)
