-- What functions of this crate promise each other: what the next bytes of an input come to, and an answer line written at a place of the lent bytes.
use Rattle.std.specs.Prelude.{ℕ, ◌+◌, ◌≤◌, ◌≡◌, List, [], ◌∷◌, ◌++◌, length, get_or, take, drop}
use Rattle.std.specs.Prelude.{None as none, Some as some}
use Rattle.commands.specs.Answers.{ModelAnswer}
use Rattle.lines.specs.CommandLine.{numbers}
use Rattle.lines.specs.LineMeaning.{NoLineFeed}
use Rattle.lines.specs.AnswerLine.{answer_length}
use Rattle.stream.specs.declared.hear.Heard.{Heard}
use Rattle.stream.specs.declared.hear.Heard.TheVariants.{Run, Ill, Byte}
use Rattle.stream.specs.Responses.{answer_text}
use Rattle.stream.specs.Stream.{line_feed}

-- the lent bytes with an answer line over the 43 from `at` on
abbrev pub answered_at : ℕ → ModelAnswer → List ℕ → List ℕ
answered_at at x out = take at out ++ (answer_text x ++ drop (at + answer_length) out)

-- the answer of six numbers
abbrev pub answer_from : List ℕ → ModelAnswer
answer_from l = record { refusal = get_or l 0 0; row = get_or l 1 0; kind = get_or l 2 0; x = get_or l 3 0; y = get_or l 4 0; z = get_or l 5 0 }

-- the next bytes, so many of them, are the rest of a line and its line feed
pub record Ends (bytes : List ℕ) (i consumed : ℕ) (rest : List ℕ) : Type 0 where
  pub part : i + consumed ≤ length bytes
  pub no_line_feed : NoLineFeed rest
  pub next : take consumed (drop i bytes) ≡ rest ++ (line_feed ∷ [])

-- they end a line that gives the numbers f
pub record IsRun (bytes : List ℕ) (i : ℕ) (text f : List ℕ) (consumed : ℕ) : Type 0 where
  pub rest : List ℕ
  pub ends : Ends bytes i consumed rest
  pub line : numbers (text ++ rest) ≡ some f

-- the next byte ends an ill formed line
pub record IsIll (bytes : List ℕ) (i : ℕ) (text : List ℕ) : Type 0 where
  pub at_line_feed : get_or bytes i 0 ≡ line_feed
  pub no_numbers : numbers text ≡ none

-- the next byte ends no line
pub record IsByte (bytes : List ℕ) (i b : ℕ) : Type 0 where
  pub byte : b ≡ get_or bytes i 0
  pub other : b ≡ line_feed → ⊥

abbrev pub Hears : List ℕ → ℕ → List ℕ → List ℕ → Heard → Type 0
Hears bytes i text f (Run consumed) = IsRun bytes i text f consumed
Hears bytes i text f Ill = IsIll bytes i text
Hears bytes i text f (Byte b) = IsByte bytes i b
