-- `stream::respond::respond` meets its contract. Assumes nothing.
use mathlib.Core.Path.{refl, sym, ◌∙◌}
use native.Mathlib.Omega.{arith}
use Rattle.commands.specs.Answers.{answer_of}
use Rattle.commands.specs.RefusalNumbers.{refusal_number}
use Rattle.stream.proofs.turns.HearLaws.{read_all, read_none}
use Rattle.stream.proofs.turns.ResponseLaws.{Answers, respond_answered, answer_ill, answer_ran}
use Rattle.stream.proofs.respond.respond.Goals as goal

pub returns : goal.returns
unfolding answer_of
returns c =
    let line : Answers c.args.state.now c.args.line.now c.if-fields.state c.if-fields.six (refusal_number c.if-fields.told) = elim c.if-fields.branch [
      | goal.then-fields p ↦
          rw (p.state-is, p.six-is, p.told-is)
          (answer_ran c.args.state.now c.args.line.now _ _ _ _ _ (read_all _ _ refl _ (sym p.if-fields.true ∙ c.fields.ensures.read) c.fields.ensures.places) refl p.step_at-told.ensures)
      | goal.else-fields p ↦
          rw (p.state-is, p.six-is, p.told-is)
          (answer_ill c.args.state.now c.args.line.now _ (read_none _ _ refl (sym p.if-fields.false ∙ c.fields.ensures.read)) p.numbers_of-six.ensures)
    ] in
    respond_answered _ _ _ _ c.if-fields.six _ _ (omega arith) line c.put_line.ensures
