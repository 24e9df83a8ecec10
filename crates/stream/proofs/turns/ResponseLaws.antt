-- What `respond` leaves: nothing where too few bytes are lent, and else the line's answer. Assumes nothing.
use Prim.Native.Nat.{ℕ, ◌≤◌, ◌<◌}
use mathlib.Core.Path.{◌≡◌, refl, sym, ap, ◌∙◌}
use native.Mathlib.Omega.{arith}
use mathlib.Core.List.{List}
use Rattle.std.specs.Prelude.{None as none, Some as some}
use borrow.Author.Tests.{lt-ltb, le-ltb}
use lib.ListN.{length, get_or}
use Rattle.commands.specs.Answers.{refused, numbers_of}
use Rattle.commands.specs.Model.{Stepped, stepped}
use Rattle.sheet.specs.Words.{lent_step}
use Rattle.commands.specs.Fields.{command_of}
use Rattle.sheet.specs.Run.{SteppedAt, stepped_at, lent_step_at}
use Rattle.lines.specs.CommandLine.{numbers}
use Rattle.stream.specs.Responses.{response, line_response, responded, respond_of}
use Rattle.stream.specs.Turns.{answered_at, answer_from}
use Rattle.stream.proofs.turns.TurnLaws.{step_answered}

-- the words afterwards, the six numbers and the refusal are the line's
pub record Answers (w line w' six : List ℕ) (k : ℕ) : Type 0 where
  pub answered : stepped w' (answer_from six) ≡ line_response lent_step w line
  pub told : k ≡ get_or six 0 0

-- ---- the line's answer, the number of its refusal beside it
module _ (w line : List ℕ) where
  pub answer_ill : (six : List ℕ) → numbers line ≡ none → six ≡ numbers_of (refused 1) → Answers w line w six 1
  unfolding response
  answer_ill six e n = record { answered = rw (e, n) refl; told = rw n refl }

  pub answer_ran : (ns w' six six' : List ℕ) (k : ℕ) → numbers line ≡ some ns → length six ≡ 6 → stepped_at w' six' k ≡ lent_step_at w (command_of ns) six 0
      → Answers w line w' six' k
  unfolding response lent_step_at
  answer_ran ns w' six six' k e n s =
      let answered : stepped w' (answer_from six') ≡ lent_step w (command_of ns) = step_answered w w' six six' (command_of ns) k n s in
      let told : k ≡ (lent_step w (command_of ns)).answer.refusal = ap (λ (o : SteppedAt). o.refusal) s ∙ rw (le-ltb (length six) 6 (omega arith)) refl in
      record { answered = rw e answered; told = told ∙ sym (ap (λ (o : Stepped (List ℕ)). o.answer.refusal) answered) }

-- ---- and the lent bytes
module _ (w line out : List ℕ) where
  pub respond_short : length out < 43 → responded w 9 out ≡ respond_of lent_step w line out
  unfolding respond_of
  respond_short h = rw (lt-ltb _ _ h) refl

  -- the six numbers of the line's answer, written as its answer line
  pub respond_answered : (w' six out' : List ℕ) (k : ℕ) → 43 ≤ length out → Answers w line w' six k → out' ≡ answered_at 0 (answer_from six) out
      → responded w' k out' ≡ respond_of lent_step w line out
  unfolding respond_of
  respond_answered w' six out' k long a o = rw (le-ltb _ _ long, ← a.answered, o, a.told) refl
