-- Calls of `respond` one after another run the list of commands that their lines give. Assumes nothing.
use Prim.Native.Nat.{ℕ, ◌≤◌, ◌<◌}
use mathlib.Core.Bool.{Bool, true, false}
use mathlib.Core.Path.{◌≡◌, refl, sym, ap, ◌∙◌, subst}
use mathlib.Core.List.{List, [], ◌∷◌, ◌++◌}
use Rattle.std.specs.Prelude.{Option, None as none, Some as some}
use borrow.Author.Tests.{le-ltb, ltb-true, ltb-false}
use lib.Dec.{ltb}
use lib.ListN.{length, drop}
use Rattle.commands.specs.declared.command.Command.{Command}
use Rattle.commands.specs.Rows.{State}
use Rattle.commands.specs.Fields.{command_of}
use Rattle.commands.specs.Answers.{refused}
use Rattle.commands.specs.Model.{Stepped, stepped, run_by}
use Rattle.commands.proofs.ClaimLaws.{model_claim}
use Rattle.sheet.specs.Words.{fresh_words, state_words, model_of, lent_step, lent_run}
use Rattle.sheet.proofs.LentLaws.{lent_claim}
use Rattle.lines.specs.CommandLine.{numbers}
use Rattle.stream.specs.Responses.{response, line_response, answer_text, Responded, responded, respond_of}
use Rattle.stream.specs.Lives.{LineCall, RespondKept, LineCalls, start, next, Short, Shows, Life, over, short, ill, runs, Lived, LivesRun, FreshLivesRun}
use Rattle.sheet.proofs.words.WordLaws.{zeros_long, zeros_fresh}
use Rattle.stream.proofs.turns.ResponseLaws.{respond_short}

-- ---- one call
module _ (w : List ℕ) (c : LineCall) (e : RespondKept w c) where
  call_short : length c.before < 43 → Short w c
  call_short lt =
      let same = e ∙ sym (respond_short w c.line c.before lt) in
      record {
        room = lt;
        told = ap (λ (r : Responded (List ℕ)). r.refusal) same;
        words_kept = ap (λ (r : Responded (List ℕ)). r.state) same;
        bytes_kept = ap (λ (r : Responded (List ℕ)). r.bytes) same;
      }

  -- where an answer line has room, by what the line comes to
  module _ (le : 43 ≤ length c.before) (o : Stepped (List ℕ)) (a : line_response lent_step w c.line ≡ o) where
    answered : responded c.words c.refusal c.after ≡ responded o.state o.answer.refusal (answer_text o.answer ++ drop 43 c.before)
    unfolding respond_of
    answered = rw (e, le-ltb _ _ le, a) refl

    call_words : c.words ≡ o.state
    call_words = ap (λ (r : Responded (List ℕ)). r.state) answered

    call_shows : Shows c o.answer
    call_shows =
        record {
          room = le;
          told = ap (λ (r : Responded (List ℕ)). r.refusal) answered;
          answer_line = ap (λ (r : Responded (List ℕ)). r.bytes) answered;
        }

-- ---- calls one after another, on words
record LinesRan (w : List ℕ) (calls : List LineCall) (w' : List ℕ) : Type 0 where
  commands : List Command
  life : Life w calls commands (lent_run w commands).answers
  words : w' ≡ (lent_run w commands).state

-- one call before others: refused by 9, by 1, and any other
module _ (w : List ℕ) (c : LineCall) (calls : List LineCall) (w' : List ℕ) where
  ran_short : Short w c → LinesRan w calls w' → LinesRan w (c ∷ calls) w'
  ran_short s r = record { commands = r.commands; life = short s r.life; words = r.words }

  ran_ill : numbers c.line ≡ none → Shows c (refused 1) → c.words ≡ w → LinesRan w calls w' → LinesRan w (c ∷ calls) w'
  ran_ill q s same r = record { commands = r.commands; life = ill q s same r.life; words = r.words }

  ran_command :
      (ns : List ℕ) → numbers c.line ≡ some ns → Shows c (lent_step w (command_of ns)).answer → c.words ≡ (lent_step w (command_of ns)).state
      → LinesRan c.words calls w'
      → LinesRan w (c ∷ calls) w'
  unfolding run_by
  ran_command ns q s same r =
      record {
        commands = command_of ns ∷ r.commands;
        life = rw (← same) (runs q s r.life);
        words = r.words ∙ ap (λ (v : List ℕ). (lent_run v r.commands).state) same;
      }

  ran_more : RespondKept w c → LinesRan c.words calls w' → LinesRan w (c ∷ calls) w'
  unfolding response
  ran_more e r = go (ltb (length c.before) 43) (numbers c.line) refl refl
    where
      from_w : c.words ≡ w → LinesRan w calls w'
      from_w same = subst (λ (v : List ℕ). LinesRan v calls w') same r

      go : (x : Bool) (ns : Option (List ℕ)) → ltb (length c.before) 43 ≡ x → numbers c.line ≡ ns → LinesRan w (c ∷ calls) w'
      go true ns p q = let s = call_short w c e (ltb-true _ _ p) in ran_short s (from_w s.words_kept)
      go false none p q =
          let le = ltb-false (length c.before) 43 p in
          let o = stepped w (refused 1) in
          let same = call_words w c e le o (ap (response lent_step w) q) in
          ran_ill q (call_shows w c e le o (ap (response lent_step w) q)) same (from_w same)
      go false (some ns) p q =
          let le = ltb-false (length c.before) 43 p in
          let o = lent_step w (command_of ns) in
          ran_command ns q (call_shows w c e le o (ap (response lent_step w) q)) (call_words w c e le o (ap (response lent_step w) q)) r

lines_ran : {w w' : List ℕ} {calls : List LineCall} → LineCalls w calls w' → LinesRan w calls w'
unfolding run_by
lines_ran start = record { commands = []; life = over; words = refl }
lines_ran {w} {w'} (next {calls = calls} c e r) = ran_more w c calls w' e (lines_ran r)

-- ---- demand 3
lent_lived : (w : List ℕ) (calls : List LineCall) (w' : List ℕ) → state_words ≤ length w → LinesRan w calls w' → Lived (model_of w) w calls (model_of w')
lent_lived w calls w' l r =
    let cs = r.commands in
    record {
      commands = cs;
      answers = (lent_run w cs).answers;
      life = r.life;
      claim = rw r.words (lent_claim w cs l);
    }

pub lives_run : LivesRun
lives_run w calls w' l r = lent_lived w calls w' l (lines_ran r)

pub fresh_lives_run : FreshLivesRun
fresh_lives_run behind calls w' r =
    let w = fresh_words behind in
    let lived = subst (λ (x : State). Lived x w calls (model_of w')) (zeros_fresh behind) (lives_run w calls w' (zeros_long behind) r) in
    record { lived = lived; sound = lived.claim.sound model_claim.fresh_sound; well = lived.claim.well model_claim.fresh_sound }
