-- The reference model: document 01's plain sheet, which remembers (document 02, a), one command and a whole list.
use Rattle.std.specs.Prelude.{ℕ, ◌+◌, Bool, true, false, List, [], ◌∷◌, take}
use Rattle.commands.specs.declared.command.Command.{Command}
use Rattle.commands.specs.Codes.{history_depth, history_empty}
use Rattle.commands.specs.Rows.{ModelRow, Snapshot, State, row_at, with_row}
use Rattle.commands.specs.Fields.{Read}
use Rattle.commands.specs.Answers.{ModelAnswer, refused, shown}
use Rattle.commands.specs.Effects.{ModelEffect, Puts, PutsTwo, Restores, Tells, command_effect}

-- what a command leaves, and its answer
pub record Stepped (S : Type 0) : Type 0 where
  pub state : S
  pub answer : ModelAnswer

abbrev pub stepped : {S : Type 0} → S → ModelAnswer → Stepped S
stepped s x = record { state = s; answer = x }

-- "the last 64 such commands are remembered, older ones forgotten for good"
unfoldable pub remembering : State → ℕ → List Snapshot
remembering s t = take history_depth (record { t = t; rows = s.rows } ∷ s.history)

-- new rows, by a command with target t, which is remembered
abbrev pub with_rows : State → ℕ → List ModelRow → State
with_rows s t rows = record { rows = rows; history = remembering s t }

-- 33 "takes back the latest done command .. that has not been taken back": "After it the 64 rows are exactly those before that command; the answer shows that
-- command's row t as it is now". Where nothing is remembered 11 has refused it
unfoldable pub restored : State → List Snapshot → Stepped State
restored s [] = stepped s (refused history_empty)
restored s (p ∷ rest) = stepped (record { rows = p.rows; history = rest }) (shown p.t (row_at p.rows p.t))

-- "A written row answers t, its kind and numbers (24: row t's; 0: t, kind 0, zeros)"; "Refused steps and measures are not remembered"
unfoldable pub applied : State → ℕ → ModelEffect → Stepped State
applied s t (Puts r) = stepped (with_rows s t (with_row s.rows t r)) (shown t r)
applied s t (PutsTwo p q) = stepped (with_rows s t (with_row (with_row s.rows t p) (t + 1) q)) (shown t p)
applied s t Restores = restored s s.history
applied s t (Tells x) = stepped s x

-- whether there is a command to take back
abbrev pub is_some : List Snapshot → Bool
is_some [] = false
is_some (p ∷ rest) = true

-- one command: "sources are read before anything is written"; "No refusal changes a row"
abbrev pub read_at : State → Command → Read
read_at s c = record { a = row_at s.rows c.a; b = row_at s.rows c.b; row = row_at s.rows c.u }

abbrev pub effect_on : State → Command → ModelEffect
effect_on s c = command_effect c (read_at s c) (is_some s.history)

unfoldable pub step_of : State → Command → Stepped State
step_of s c = applied s c.t (effect_on s c)

-- ---- a list, by any way of doing one command
-- "The first command gets a fresh sheet, each later one the sheet that the last one returned"
pub record Ran (S : Type 0) : Type 0 where
  pub state : S
  pub answers : List ModelAnswer

unfoldable pub run_by : {S : Type 0} → (S → Command → Stepped S) → S → List Command → Ran S
run_by step s [] = record { state = s; answers = [] }
run_by step s (c ∷ cs) =
    let o = step s c in
    let r = run_by step o.state cs in
    record { state = r.state; answers = o.answer ∷ r.answers }

-- the model's
abbrev pub run_from : State → List Command → Ran State
run_from s cs = run_by step_of s cs
