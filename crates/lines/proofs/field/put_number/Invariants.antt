-- The loop keeps that the columns from i on are written and that `rest` is what is left of the number for those before them (`Spelt`); i falls.
use Rattle.std.proofs.Common.{◌≡◌, length}
use Rattle.lines.proofs.numerals.WriteLaws.{Spelt}
use Rattle.lines.proofs.field.put_number.Given as goal

abbrev pub invariant-loop-i : goal.invariant-loop-i
invariant-loop-i l = (length l.initial.field ≡ l.w) × Spelt l.w l.n l.field l.i l.rest
