-- One line (document 01, "The plain sheet": "A line that 9 and 1 don't refuse runs the one command that its fields give, and its answer line shows that
-- answer; one they refuse runs none and leaves every row"), by any way of doing one command: the reference model's, or that on lent words.
use Rattle.std.specs.Prelude.{ℕ, ◌≡◌, cond, List, ◌++◌, ltb, length, drop}
use Rattle.std.specs.Prelude.{Option, None as none, Some as some}
use Rattle.commands.specs.declared.command.Command.{Command}
use Rattle.commands.specs.Codes.{ill_formed, lent_too_short}
use Rattle.commands.specs.Answers.{ModelAnswer, refused}
use Rattle.commands.specs.Model.{Stepped, stepped}
use Rattle.sheet.specs.Words.{lent_step}
use Rattle.commands.specs.Fields.{command_of}
use Rattle.lines.specs.CommandLine.{numbers}
use Rattle.lines.specs.AnswerLine.{answer_line, answer_length}

-- what the numbers of a line come to, or "1, not 45 bytes before a line feed, or a field ill formed"
unfoldable pub response : {S : Type 0} → (S → Command → Stepped S) → S → Option (List ℕ) → Stepped S
response step s none = stepped s (refused ill_formed)
response step s (some ns) = step s (command_of ns)

abbrev pub line_response : {S : Type 0} → (S → Command → Stepped S) → S → List ℕ → Stepped S
line_response step s line = response step s (numbers line)

unfoldable pub answer_text : ModelAnswer → List ℕ
answer_text x = answer_line x.refusal x.row x.kind x.x x.y x.z

-- the sheet after a line, the number of its refusal, and the lent bytes
pub record Responded (S : Type 0) : Type 0 where
  pub state : S
  pub refusal : ℕ
  pub bytes : List ℕ

abbrev pub responded : {S : Type 0} → S → ℕ → List ℕ → Responded S
responded s k bytes = record { state = s; refusal = k; bytes = bytes }

-- "9, fewer than 43 bytes lent for an answer line, the command not being run and no byte written"; "Longer buffers stay unchanged past their first 43 bytes"
unfoldable pub respond_of : {S : Type 0} → (S → Command → Stepped S) → S → List ℕ → List ℕ → Responded S
respond_of step s line out =
    let o = line_response step s line in
    cond (ltb (length out) answer_length)
    (responded s lent_too_short out)
    (responded o.state o.answer.refusal (answer_text o.answer ++ drop answer_length out))

-- `respond` to a line with `out` lent, on the words w: its result, and the words and the lent bytes afterwards
abbrev pub Responds : List ℕ → List ℕ → List ℕ → ℕ → List ℕ → List ℕ → Type 0
Responds w line out k w' out' = responded w' k out' ≡ respond_of lent_step w line out
