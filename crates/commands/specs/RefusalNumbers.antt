-- The numbers of the program's refusals (Codes).
use Rattle.std.specs.Prelude.{ℕ, Result, Ok, Err}
use Rattle.commands.specs.declared.codes.Refusal.{Refusal}
use Rattle.commands.specs.declared.codes.Refusal.TheVariants.{IllFormed, UnknownCommand, RowOutside, UnfitSource, ValueOutside, ResultInfinite, DirectionMissing, AllReflected, LentTooShort, HistoryEmpty, LineParallel}
use Rattle.commands.specs.Codes.{ill_formed, unknown_command, row_outside, unfit_source, value_outside, result_infinite, direction_missing, all_reflected, lent_too_short, history_empty, line_parallel}

abbrev pub number_of : Refusal → ℕ
number_of IllFormed = ill_formed
number_of UnknownCommand = unknown_command
number_of RowOutside = row_outside
number_of UnfitSource = unfit_source
number_of ValueOutside = value_outside
number_of ResultInfinite = result_infinite
number_of DirectionMissing = direction_missing
number_of AllReflected = all_reflected
number_of LentTooShort = lent_too_short
number_of HistoryEmpty = history_empty
number_of LineParallel = line_parallel

-- 0 stands for none
abbrev pub refusal_number : {A : Type 0} → Result A Refusal → ℕ
refusal_number (Ok x) = 0
refusal_number (Err k) = number_of k
