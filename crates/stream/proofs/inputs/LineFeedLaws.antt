-- The bytes of an input answer its lines, in turn: what is held, and what is written, after any bytes. Assumes nothing.
use Prim.Native.Nat.{ℕ}
use mathlib.Core.Bool.{Bool, true, false}
use mathlib.Core.Path.{◌≡◌, refl, sym, ◌∙◌}
use mathlib.Core.List.{List, [], ◌∷◌, ◌++◌, append_assoc, append-nil}
use Rattle.std.specs.Prelude.{Option, None as none, Some as some}
use lib.Dec.{eqb}
use Rattle.commands.specs.declared.command.Command.{Command}
use Rattle.commands.specs.Answers.{ModelAnswer}
use Rattle.commands.specs.Model.{Stepped, run_by}
use Rattle.lines.specs.CommandLine.{numbers}
use Rattle.stream.specs.Responses.{response, line_response, answer_text}
use Rattle.stream.specs.Stream.{held, Fed, byte_fed, feed_of}
use Rattle.stream.specs.Inputs.{Cut, in_front, cut, command_in, commands_in, line_answered, between, texts}
use Rattle.stream.proofs.inputs.KeptLineLaws.{kept, pushed_kept, numbers_kept}

-- ---- some lines and the bytes after them

-- the answers of lines, from the state s
abbrev pub answers_from : {S : Type 0} → (S → Command → Stepped S) → S → List (List ℕ) → List ModelAnswer
answers_from step s ls = between ls (run_by step s (commands_in ls)).answers

-- the lines are answered, the bytes after them are kept
pub record LinesFed {S : Type 0} (step : S → Command → Stepped S) (s : S) (c : Cut) (f : Fed S) : Type 0 where
  pub state : f.held.state ≡ (run_by step s (commands_in c.lines)).state
  pub rest : f.held.text ≡ kept c.rest
  pub text : f.text ≡ texts (answers_from step s c.lines)

-- ---- the bytes p of a line, in front of those that are cut

unfoldable begun : List ℕ → List (List ℕ) → List ℕ → Cut
begun p [] r = record { lines = []; rest = p ++ r }
begun p (l ∷ ls) r = record { lines = (p ++ l) ∷ ls; rest = r }

begun_none : (ls : List (List ℕ)) (r : List ℕ) → begun [] ls r ≡ record { lines = ls; rest = r }
unfolding begun
begun_none [] r = refl
begun_none (l ∷ ls) r = refl

begun_byte :
    (p : List ℕ) (b : ℕ) (ls : List (List ℕ)) (r : List ℕ)
    → begun p (in_front b ls r).lines (in_front b ls r).rest ≡ begun (p ++ (b ∷ [])) ls r
unfolding begun in_front
begun_byte p b [] r = rw (append_assoc p (b ∷ []) r) refl
begun_byte p b (l ∷ ls) r = rw (append_assoc p (b ∷ []) l) refl

module _ {S : Type 0} (step : S → Command → Stepped S) where
  -- ---- one line

  response_state : (s : S) (o : Option (List ℕ)) (cs : List Command) → (run_by step s (command_in o cs)).state ≡ (run_by step (response step s o).state cs).state
  unfolding command_in response run_by
  response_state s none cs = refl
  response_state s (some ns) cs = refl

  response_answer :
      (s : S) (o : Option (List ℕ)) (cs : List Command) (rest : List ModelAnswer → List ModelAnswer)
      → line_answered o (run_by step s (command_in o cs)).answers rest ≡ (response step s o).answer ∷ rest (run_by step (response step s o).state cs).answers
  unfolding command_in response run_by line_answered
  response_answer s none cs rest = refl
  response_answer s (some ns) cs rest = refl

  no_line : (s : S) (p : List ℕ) → LinesFed step s (record { lines = []; rest = p }) (record { held = held s (kept p); text = [] })
  unfolding commands_in between texts run_by
  no_line s p = record { state = refl; rest = refl; text = refl }

  -- a line in front
  line_first :
      (s : S) (line : List ℕ) (c : Cut) (f : Fed S)
      → LinesFed step (line_response step s line).state c f
      → LinesFed step s (record { lines = line ∷ c.lines; rest = c.rest }) (record { held = f.held; text = answer_text (line_response step s line).answer ++ f.text })
  unfolding commands_in between texts
  line_first s line c f h =
      record {
        state = h.state ∙ sym (response_state s (numbers line) (commands_in c.lines));
        rest = h.rest;
        text = rw (response_answer s (numbers line) (commands_in c.lines) (between c.lines), h.text) refl;
      }

  -- ---- all the bytes
  -- whatever the state, and whatever came since the last line feed, l answers the lines that it ends
  abbrev AllFed : List ℕ → Type 0
  AllFed l = (s : S) (p : List ℕ) → LinesFed step s (begun p (cut l).lines (cut l).rest) (feed_of step (held s (kept p)) l)

  -- a line feed answers the line that p was, any other byte is one more of p
  byte_first : (b : ℕ) (l : List ℕ) → AllFed l → AllFed (b ∷ l)
  unfolding cut feed_of byte_fed begun
  byte_first b l ih s p = go (eqb b 10) refl
    where
      go : (x : Bool) → eqb b 10 ≡ x → LinesFed step s (begun p (cut (b ∷ l)).lines (cut (b ∷ l)).rest) (feed_of step (held s (kept p)) (b ∷ l))
      go true e =
          let after = (line_response step s p).state in
          rw (e, append-nil p, numbers_kept p)
          (line_first s p (cut l) (feed_of step (held after []) l) (rw (begun_none (cut l).lines (cut l).rest) at (ih after [])))
      go false e = rw (e, begun_byte p b (cut l).lines (cut l).rest, pushed_kept p b) (ih s (p ++ (b ∷ [])))

  all_fed : (l : List ℕ) → AllFed l
  unfolding cut feed_of begun
  all_fed [] s p = rw (append-nil p) (no_line s p)
  all_fed (b ∷ l) s p = byte_first b l (all_fed l) s p

  -- a whole input, from any state
  pub input_fed : (s : S) (l : List ℕ) → LinesFed step s (cut l) (feed_of step (held s []) l)
  input_fed s l = rw (begun_none (cut l).lines (cut l).rest) at (all_fed l s [])
