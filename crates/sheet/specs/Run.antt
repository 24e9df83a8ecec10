-- A whole list of commands as numbers, seven for each, and its answers, six for each.
use Rattle.std.specs.Prelude.{ℕ, zero, suc, ◌+◌, ◌*◌, ◌/◌, ◌%◌, ◌≡◌, cond, ◌||◌, List, [], ◌∷◌, ◌++◌, eqb, ltb, length, drop}
use Rattle.std.proofs.lemmas.List.Edits.{sets}
use Rattle.commands.specs.declared.command.Command.{Command}
use Rattle.commands.specs.Codes.{ill_formed, lent_too_short}
use Rattle.commands.specs.Fields.{command_of}
use Rattle.commands.specs.Answers.{ModelAnswer, numbers_of}
use Rattle.commands.specs.Rows.{fresh}
use Rattle.commands.specs.Model.{run_from}
use Rattle.commands.specs.Claim.{Claim}
use Rattle.sheet.specs.Words.{state_words, model_of, lent_step, lent_run}

-- one command on lent words, its answer's six numbers put to the places from `at` on, and its refusal; nothing is run where these places are too few
pub record SteppedAt : Type 0 where
  pub state : List ℕ
  pub out : List ℕ
  pub refusal : ℕ

abbrev pub stepped_at : List ℕ → List ℕ → ℕ → SteppedAt
stepped_at w out k = record { state = w; out = out; refusal = k }

unfoldable pub lent_step_at : List ℕ → Command → List ℕ → ℕ → SteppedAt
lent_step_at w c out at =
    let o = lent_step w c in
    cond (ltb (length out) (at + 6)) (stepped_at w out lent_too_short) (stepped_at o.state (sets out at (numbers_of o.answer)) o.answer.refusal)

-- the first k commands
unfoldable pub commands_of : ℕ → List ℕ → List Command
commands_of zero l = []
commands_of (suc k) l = command_of l ∷ commands_of k (drop 7 l)

-- how many whole commands there are, and all of them
abbrev pub count : List ℕ → ℕ
count l = length l / 7

abbrev pub list_of : List ℕ → List Command
list_of l = commands_of (count l) l

unfoldable pub all_numbers_of : List ModelAnswer → List ℕ
all_numbers_of [] = []
all_numbers_of (x ∷ rest) = numbers_of x ++ all_numbers_of rest

-- a list is refused by 9 where the sheet or the numbers lent for its answers are too short, and by 1 where it ends within a command; else by 0, not at all
unfoldable pub refusal_of_lengths : ℕ → ℕ → ℕ → ℕ
refusal_of_lengths words commands lent =
    cond (ltb words state_words || ltb lent (commands / 7 * 6)) lent_too_short (cond (eqb (commands % 7) 0) 0 ill_formed)

abbrev pub list_refusal : List ℕ → List ℕ → List ℕ → ℕ
list_refusal w cs lent = refusal_of_lengths (length w) (length cs) (length lent)

-- the sheet's words and the numbers lent for the answers, before and after, and the result: the commands one after another and demand 3's claim where the list is
-- not refused, and nothing run or written where it is
pub record Runs (w cs before w' after : List ℕ) (r : ℕ) : Type 0 where
  pub refusal : r ≡ list_refusal w cs before
  pub words : r ≡ 0 → w' ≡ (lent_run w (list_of cs)).state
  pub answers : r ≡ 0 → after ≡ all_numbers_of (lent_run w (list_of cs)).answers ++ drop (count cs * 6) before
  pub claim : r ≡ 0 → Claim (model_of w) (list_of cs) (lent_run w (list_of cs)).answers (model_of w')
  pub untouched : (k : ℕ) → r ≡ suc k → (w' ≡ w) × (after ≡ before)

-- the same from a fresh sheet of the program's own
pub record RunsAll (cs before after : List ℕ) (r : ℕ) : Type 0 where
  pub refusal : r ≡ refusal_of_lengths state_words (length cs) (length before)
  pub answers : r ≡ 0 → after ≡ all_numbers_of (run_from fresh (list_of cs)).answers ++ drop (count cs * 6) before
  pub claim : r ≡ 0 → Claim fresh (list_of cs) (run_from fresh (list_of cs)).answers (run_from fresh (list_of cs)).state
  pub untouched : (k : ℕ) → r ≡ suc k → after ≡ before
