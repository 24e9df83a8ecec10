-- Demand 3 for a whole input: its output is the answer lines of the list of commands that its well formed lines give, those of refused lines in between.
-- Assumes nothing.
use Prim.Native.Nat.{ℕ}
use mathlib.Core.Path.{◌≡◌, refl, sym, subst}
use mathlib.Core.List.{List, [], ◌∷◌, ◌++◌, append_assoc, append-nil}
use lib.Dec.{eqb-suc-zero}
use lib.ListN.{length, take}
use Rattle.commands.specs.Codes.{ill_formed}
use Rattle.commands.specs.Rows.{State}
use Rattle.commands.specs.Answers.{ModelAnswer, refused}
use Rattle.commands.specs.Model.{step_of, run_from}
use Rattle.commands.specs.Claim.{Claim}
use Rattle.commands.proofs.ClaimLaws.{model_claim}
use Rattle.stream.specs.Responses.{answer_text}
use Rattle.stream.specs.Stream.{end_of}
use Rattle.stream.specs.Inputs.{cut, commands_in, between, texts, fed, last_answer, InputsAnswered}
use Rattle.stream.proofs.inputs.KeptLineLaws.{kept}
use Rattle.stream.proofs.inputs.LineFeedLaws.{input_fed}

texts_append : (xs ys : List ModelAnswer) → texts (xs ++ ys) ≡ texts xs ++ texts ys
unfolding texts
texts_append [] ys = refl
texts_append (x ∷ xs) ys = rw (texts_append xs ys) (sym (append_assoc (answer_text x) (texts xs) (texts ys)))

-- the end of an input, by the bytes after its last line feed
end_answer : (text rest : List ℕ) → text ≡ kept rest → end_of text ≡ texts (last_answer rest)
unfolding end_of texts last_answer
end_answer text [] e = rw e refl
end_answer text (b ∷ rest) e = rw (e, eqb-suc-zero (length (take 45 rest))) (sym (append-nil (answer_text (refused ill_formed))))

pub inputs_answered : InputsAnswered
inputs_answered start input =
    let lines = (cut input).lines in
    let run = (run_from start (commands_in lines)).answers in
    let f = input_fed step_of start input in
    record {
      run = run;
      claim = subst (λ (s : State). Claim start (commands_in lines) run s) (sym f.state) (model_claim.every_list start (commands_in lines));
      written =
          rw (f.text, end_answer (fed start input).held.text (cut input).rest f.rest)
          (sym (texts_append (between lines run) (last_answer (cut input).rest)));
    }
