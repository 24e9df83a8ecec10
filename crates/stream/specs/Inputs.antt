-- A whole input: its lines, the commands that they give, and its output (demand 3: "A line is refused by 9 or 1 exactly when document 01 says so; any other runs
-- the command that its fields give and shows that command's answer").
use Rattle.std.specs.Prelude.{ℕ, ◌≤◌, ◌≡◌, cond, List, [], ◌∷◌, ◌++◌, eqb, length}
use Rattle.std.specs.Prelude.{Option, None as none, Some as some}
use Rattle.commands.specs.declared.command.Command.{Command}
use Rattle.commands.specs.Codes.{ill_formed}
use Rattle.commands.specs.Rows.{State}
use Rattle.commands.specs.Answers.{ModelAnswer, refused}
use Rattle.commands.specs.Model.{Stepped, step_of}
use Rattle.commands.specs.Claim.{Claim}
use Rattle.sheet.specs.Words.{state_words, model_of, lent_step}
use Rattle.commands.specs.Fields.{command_of}
use Rattle.lines.specs.CommandLine.{numbers}
use Rattle.stream.specs.Responses.{answer_text}
use Rattle.stream.specs.Stream.{line_feed, Held, held, Fed, feed_of, end_of}

-- ---- the lines of an input: the bytes before each line feed, and those after the last
pub record Cut : Type 0 where
  pub lines : List (List ℕ)
  pub rest : List ℕ

-- a byte in front of the first line, or of the rest where no line ends
unfoldable pub in_front : ℕ → List (List ℕ) → List ℕ → Cut
in_front b [] r = record { lines = []; rest = b ∷ r }
in_front b (l ∷ ls) r = record { lines = (b ∷ l) ∷ ls; rest = r }

unfoldable pub cut : List ℕ → Cut
cut [] = record { lines = []; rest = [] }
cut (b ∷ l) = let c = cut l in cond (eqb b line_feed) (record { lines = [] ∷ c.lines; rest = c.rest }) (in_front b c.lines c.rest)

-- ---- the commands that well formed lines give, and their answers with those of the lines that 1 refuses in between
unfoldable pub command_in : Option (List ℕ) → List Command → List Command
command_in none cs = cs
command_in (some ns) cs = command_of ns ∷ cs

unfoldable pub commands_in : List (List ℕ) → List Command
commands_in [] = []
commands_in (l ∷ ls) = command_in (numbers l) (commands_in ls)

unfoldable pub line_answered : Option (List ℕ) → List ModelAnswer → (List ModelAnswer → List ModelAnswer) → List ModelAnswer
line_answered none xs rest = refused ill_formed ∷ rest xs
line_answered (some ns) [] rest = []
line_answered (some ns) (x ∷ xs) rest = x ∷ rest xs

unfoldable pub between : List (List ℕ) → List ModelAnswer → List ModelAnswer
between [] xs = []
between (l ∷ ls) xs = line_answered (numbers l) xs (between ls)

unfoldable pub texts : List ModelAnswer → List ℕ
texts [] = []
texts (x ∷ xs) = answer_text x ++ texts xs

-- ---- the output of an input, from any sheet
abbrev pub fed : State → List ℕ → Fed State
fed start input = feed_of step_of (held start []) input

abbrev pub output_of : State → List ℕ → List ℕ
output_of start input = (fed start input).text ++ end_of (fed start input).held.text

-- "Bytes after the last line feed are a line too, refused by 1"; "input without bytes gives no output"
unfoldable pub last_answer : List ℕ → List ModelAnswer
last_answer [] = []
last_answer (b ∷ l) = refused ill_formed ∷ []

-- an input is answered, from one sheet to another: what is written are the answer lines of the list of commands that the well formed lines of the input give, of which
-- demand 3's claim holds; those of lines that 1 refuses in between, and that of bytes after the last line feed
pub record Answered (start : State) (input output : List ℕ) (end : State) : Type 0 where
  pub run : List ModelAnswer
  pub claim : Claim start (commands_in (cut input).lines) run end
  pub written : output ≡ texts (between (cut input).lines run ++ last_answer (cut input).rest)

-- so is every input, by what the definitions make of it
abbrev pub InputsAnswered : Type 0
InputsAnswered = (start : State) (input : List ℕ) → Answered start input (output_of start input) (fed start input).held.state

-- and how an input is cut into pieces does not matter, by any way of doing one command
pub record Pieces {S : Type 0} (step : S → Command → Stepped S) (h : Held S) (a b : List ℕ) : Type 0 where
  pub same_held : (feed_of step h (a ++ b)).held ≡ (feed_of step (feed_of step h a).held b).held
  pub same_text : (feed_of step h (a ++ b)).text ≡ (feed_of step h a).text ++ (feed_of step (feed_of step h a).held b).text

abbrev pub PiecesDontMatter : {S : Type 0} → (S → Command → Stepped S) → Type 0
PiecesDontMatter step = (h : Held _) (a b : List ℕ) → Pieces step h a b

-- ---- lent words run as the model: what `feed` leaves in them is what the model comes to, with the same answers
pub record LentFeeds (w : List ℕ) (text bytes : List ℕ) : Type 0 where
  pub same_state : model_of (feed_of lent_step (held w text) bytes).held.state ≡ (feed_of step_of (held (model_of w) text) bytes).held.state
  pub same_held : (feed_of lent_step (held w text) bytes).held.text ≡ (feed_of step_of (held (model_of w) text) bytes).held.text
  pub same_text : (feed_of lent_step (held w text) bytes).text ≡ (feed_of step_of (held (model_of w) text) bytes).text

abbrev pub LentAsModel : Type 0
LentAsModel = (w text bytes : List ℕ) → state_words ≤ length w → LentFeeds w text bytes
