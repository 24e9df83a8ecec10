-- A sheet's life by lines: calls of `respond` on lent words, one after another (document 01, "The plain sheet": "A line that 9 and 1 don't refuse runs the one
-- command that its fields give, and its answer line shows that answer; one they refuse runs none and leaves every row. So the lines of a sheet's life run such
-- a list").
use Rattle.std.specs.Prelude.{ℕ, ◌≤◌, ◌<◌, ◌≡◌, List, [], ◌∷◌, ◌++◌, length, drop}
use Rattle.std.specs.Prelude.{None as none, Some as some}
use Rattle.commands.specs.declared.command.Command.{Command}
use Rattle.commands.specs.Codes.{ill_formed, lent_too_short}
use Rattle.commands.specs.Rows.{State, fresh}
use Rattle.commands.specs.Fields.{command_of}
use Rattle.commands.specs.Answers.{ModelAnswer, refused}
use Rattle.commands.specs.Claim.{Sound, AllWell, Claim}
use Rattle.sheet.specs.Words.{fresh_words, state_words, model_of}
use Rattle.lines.specs.CommandLine.{numbers}
use Rattle.lines.specs.AnswerLine.{answer_length}
use Rattle.stream.specs.Responses.{answer_text, Responds}

-- ---- calls
-- one call of `respond`: the line and the lent bytes before it; its result, and the words and the lent bytes after it
pub record LineCall : Type 0 where
  pub line : List ℕ
  pub before : List ℕ
  pub refusal : ℕ
  pub words : List ℕ
  pub after : List ℕ

-- its contract, on words
abbrev pub RespondKept : List ℕ → LineCall → Type 0
RespondKept w c = Responds w c.line c.before c.refusal c.words c.after

-- calls from the words w to the words w', each on the words that the last one left
pub data LineCalls : List ℕ → List LineCall → List ℕ → Type 0 where
  start : {w : List ℕ} → LineCalls w [] w
  next : {w w' : List ℕ} {calls : List LineCall} (c : LineCall) → RespondKept w c → LineCalls c.words calls w' → LineCalls w (c ∷ calls) w'

-- ---- what they come to
-- "9, fewer than 43 bytes lent for an answer line, the command not being run and no byte written"
pub record Short (w : List ℕ) (c : LineCall) : Type 0 where
  pub room : length c.before < answer_length
  pub told : c.refusal ≡ lent_too_short
  pub words_kept : c.words ≡ w
  pub bytes_kept : c.after ≡ c.before

-- an answer shown: "Longer buffers stay unchanged past their first 43 bytes"
pub record Shows (c : LineCall) (x : ModelAnswer) : Type 0 where
  pub room : answer_length ≤ length c.before
  pub told : c.refusal ≡ x.refusal
  pub answer_line : c.after ≡ answer_text x ++ drop answer_length c.before

-- the calls from the words w run these commands, and get these answers
pub data Life : List ℕ → List LineCall → List Command → List ModelAnswer → Type 0 where
  over : {w : List ℕ} → Life w [] [] []
  -- refused by 9
  short :
      {w : List ℕ} {c : LineCall} {calls : List LineCall} {cs : List Command} {xs : List ModelAnswer}
      → Short w c
      → Life w calls cs xs
      → Life w (c ∷ calls) cs xs
  -- refused by 1
  ill :
      {w : List ℕ} {c : LineCall} {calls : List LineCall} {cs : List Command} {xs : List ModelAnswer}
      → numbers c.line ≡ none
      → Shows c (refused ill_formed)
      → c.words ≡ w
      → Life w calls cs xs
      → Life w (c ∷ calls) cs xs
  -- and any other
  runs :
      {w ns : List ℕ} {c : LineCall} {calls : List LineCall} {cs : List Command} {x : ModelAnswer} {xs : List ModelAnswer}
      → numbers c.line ≡ some ns
      → Shows c x
      → Life c.words calls cs xs
      → Life w (c ∷ calls) (command_of ns ∷ cs) (x ∷ xs)

-- their list of commands, and demand 3's claim of it
pub record Lived (start : State) (w : List ℕ) (calls : List LineCall) (end : State) : Type 0 where
  pub commands : List Command
  pub answers : List ModelAnswer
  pub life : Life w calls commands answers
  pub claim : Claim start commands answers end

-- from any sheet
abbrev pub LivesRun : Type 0
LivesRun = (w : List ℕ) (calls : List LineCall) (w' : List ℕ) → state_words ≤ length w → LineCalls w calls w' → Lived (model_of w) w calls (model_of w')

-- and from a fresh one
pub record FreshLived (w : List ℕ) (calls : List LineCall) (w' : List ℕ) : Type 0 where
  pub lived : Lived fresh w calls (model_of w')
  pub sound : Sound (model_of w')
  pub well : AllWell fresh lived.commands

abbrev pub FreshLivesRun : Type 0
FreshLivesRun = (behind : List ℕ) (calls : List LineCall) (w' : List ℕ) → LineCalls (fresh_words behind) calls w' → FreshLived (fresh_words behind) calls w'
