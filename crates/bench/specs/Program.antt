-- Demand 3 for the program's own path: a run that comes to the end of its input.
use Rattle.std.specs.Prelude.{List, [], ◌++◌, ℕ, Result, IsOk}
use Rattle.sheet.specs.Words.{fresh_words, lent_step}
use Rattle.stream.specs.Stream.{held, feed_of, end_of}
use Rattle.stream.specs.Calls.{FreshAnswered}
use Rattle.bench.specs.declared.answer.Session.{Session}
use Rattle.bench.specs.declared.standard.Failure.{Failure}
use Rattle.bench.specs.Feeding.{InputFed}

-- what the bytes of an input give, from the words w: the answers that `answer_all` hands over
-- (`AllFed` says that it hands over all of them), and that of the end
abbrev pub answers_to : List ℕ → List ℕ → List ℕ
answers_to w input = let f = feed_of lent_step (held w []) input in f.text ++ end_of f.held.text

-- from words of zeros, as `Session::fresh` gives them to `main`: these answers are the answer
-- lines of demand 3's list, claim included, and the sheet is the one that it leaves
abbrev pub ProgramAnswers : Type 0
ProgramAnswers = (behind : List ℕ) (s : Session) (r : Result ℕ Failure) (f : InputFed (held (fresh_words behind) []) s r) → IsOk r → FreshAnswered f.input (answers_to (fresh_words behind) f.input) s.state
