-- A sheet in words that a caller lends: 64 rows, and behind them what can be taken back. Words behind these stay as they are.
use Rattle.std.specs.Prelude.{ℕ, ◌+◌, cond, List, ◌++◌, ltb, length, replicate}
use Rattle.commands.specs.declared.command.Command.{Command}
use Rattle.commands.specs.Codes.{row_count, lent_too_short, history_empty}
use Rattle.commands.specs.Rows.{State}
use Rattle.commands.specs.Answers.{refused}
use Rattle.commands.specs.Effects.{ModelEffect, Puts, PutsTwo, Restores, Tells}
use Rattle.commands.specs.Model.{Stepped, stepped, restored, applied, is_some, effect_on, run_by, Ran}
use Rattle.sheet.specs.Rows.{rows_from, put_row}
use Rattle.sheet.specs.History.{ring_of, unwound, remembered, taken_back}

-- the words of a sheet
abbrev pub state_words : ℕ
state_words = 1089

-- the sheet that lies in words: any words mean some sheet
unfoldable pub model_of : List ℕ → State
model_of w = record { rows = rows_from row_count w; history = unwound (rows_from row_count w) (ring_of w) }

-- words that are a fresh sheet ("Fresh: all empty", and "a fresh one [remembers] nothing"): zeros, and any words behind them
abbrev pub fresh_words : List ℕ → List ℕ
fresh_words behind = replicate state_words 0 ++ behind

-- ---- writing
-- the words after an effect: what a command overwrites is remembered first
unfoldable pub words_after : List ℕ → ℕ → ModelEffect → List ℕ
words_after w t (Puts r) = put_row (remembered w t 1) t r
words_after w t (PutsTwo p q) = put_row (put_row (remembered w t 2) t p) (t + 1) q
words_after w t Restores = taken_back w
words_after w t (Tells x) = w

-- 33 on words: the latest command is taken back, or nothing is, by 11
unfoldable pub undone : List ℕ → Stepped (List ℕ)
undone w =
    let s = model_of w in cond (is_some s.history) (stepped (taken_back w) (restored s s.history).answer) (stepped w (refused history_empty))

-- one command on lent words; too few of them are left as they are, by 9
unfoldable pub lent_step : List ℕ → Command → Stepped (List ℕ)
lent_step w c =
    let e = effect_on (model_of w) c in
    cond (ltb (length w) state_words) (stepped w (refused lent_too_short)) (stepped (words_after w c.t e) (applied (model_of w) c.t e).answer)

abbrev pub lent_run : List ℕ → List Command → Ran (List ℕ)
lent_run w cs = run_by lent_step w cs
