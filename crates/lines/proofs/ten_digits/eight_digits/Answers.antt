-- `lines::ten_digits::eight_digits` meets its contract. Assumes nothing.
use Rattle.lines.proofs.numerals.EightDigitLaws.{hundreds_left, tens_left}
use Rattle.lines.proofs.ten_digits.eight_digits.Goals as goal

pub overflow_sub-twos : goal.overflow_sub-twos
overflow_sub-twos c = hundreds_left _ c.requires _ c.hundreds_of-hundreds.ensures

pub overflow_sub-result : goal.overflow_sub-result
overflow_sub-result c = tens_left _ c.requires _ c.hundreds_of-hundreds.ensures _ c.tens_of-tens.ensures
