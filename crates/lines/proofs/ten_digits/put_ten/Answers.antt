-- `lines::ten_digits::put_ten` meets its contract. Assumes nothing.
use Rattle.std.proofs.Common.{arith}
use Rattle.lines.specs.Field.{glyph}
use Rattle.lines.proofs.numerals.TenDigitLaws.{packed_written}
use Rattle.lines.proofs.ten_digits.put_ten.Goals as goal

pub returns : goal.returns
unfolding glyph
returns c =
    rw (c.put_two-5.ensures, c.put_two-4.ensures, c.put_two-3.ensures, c.put_two-2.ensures, c.put_two.ensures)
    (packed_written c.args.field.now c.args.n _ _ c.requires.0 c.requires.1 (omega arith) c.eight_digits-last.ensures c.two_digits.ensures)
