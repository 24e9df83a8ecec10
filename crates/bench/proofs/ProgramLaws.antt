-- Demand 3 for the program's own path, from the promise of `answer_input`. Assumes nothing.
use Prim.Native.Nat.{ℕ}
use mathlib.Core.Path.{refl, ap}
use mathlib.Core.List.{List}
use Rattle.sheet.specs.Words.{fresh_words}
use Rattle.stream.specs.Stream.{Held}
use Rattle.stream.proofs.calls.CallLaws.{fresh_fed_answered}
use Rattle.bench.specs.Program.{answers_to, ProgramAnswers}

pub program_answers : ProgramAnswers
program_answers behind s r f ended =
    fresh_fed_answered behind f.input (answers_to (fresh_words behind) f.input) s.state (record { text = refl; state = ap (λ (h : Held (List ℕ)). h.state) f.fed })
