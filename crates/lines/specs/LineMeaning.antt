-- What the definitions of CommandLine and AnswerLine mean: lengths, no line feed inside, and that writing and reading undo each other.
use Rattle.std.specs.Prelude.{◌≡◌, ℕ, List, [], ◌∷◌, length, ◌≢◌, Some}
use Rattle.lines.specs.FieldMeaning.{HasRoom}
use Rattle.lines.specs.Columns.{text}
use Rattle.lines.specs.CommandLine.{widths, numbers}
use Rattle.lines.specs.AnswerLine.{answer_line}

-- no byte is a line feed
unfoldable pub NoLineFeed : List ℕ → Type 0
NoLineFeed [] = Unit {0}
NoLineFeed (b ∷ l) = (b ≢ 10) × NoLineFeed l

-- so a line that gives seven numbers ends at the first line feed after it
abbrev pub WellFormedWhole : Type 0
WellFormedWhole = (l ns : List ℕ) → numbers l ≡ Some ns → NoLineFeed l

-- each number has room in its field
unfoldable pub AllRoom : List ℕ → List ℕ → Type 0
AllRoom [] [] = Unit {0}
AllRoom (w ∷ ws) (n ∷ ns) = HasRoom w n × AllRoom ws ns
AllRoom [] (n ∷ ns) = ⊥
AllRoom (w ∷ ws) [] = ⊥

-- seven numbers written as a command line are read back, and a well formed line is its numbers written
abbrev pub LineReadBack : Type 0
LineReadBack = (ns : List ℕ) → AllRoom widths ns → numbers (text widths ns) ≡ Some ns

abbrev pub LineWrittenBack : Type 0
LineWrittenBack = (l ns : List ℕ) → numbers l ≡ Some ns → text widths ns ≡ l

-- "An answer line is 42 bytes and a line feed"
abbrev pub AnswerLength : Type 0
AnswerLength = (refusal row kind x y z : ℕ) → length (answer_line refusal row kind x y z) ≡ 43
