-- Feeding lent words is feeding the sheet that lies in them: where every command by one way is the one by another, so are the bytes of an input. Assumes nothing.
use Prim.Native.Nat.{ℕ, ◌≤◌}
use mathlib.Core.Bool.{Bool, true, false, cond}
use mathlib.Core.Path.{◌≡◌, refl, ap, ◌∙◌}
use mathlib.Core.List.{List, [], ◌∷◌, ◌++◌}
use Rattle.std.specs.Prelude.{Option, None as none, Some as some}
use native.Mathlib.Omega.{arith}
use lib.Dec.{eqb}
use lib.ListN.{length}
use Rattle.commands.specs.declared.command.Command.{Command}
use Rattle.commands.specs.Rows.{State}
use Rattle.commands.specs.Model.{Stepped, step_of}
use Rattle.sheet.specs.Words.{state_words, model_of, lent_step}
use Rattle.commands.specs.Fields.{command_of}
use Rattle.sheet.proofs.RunByLaws.{stepped_as}
use Rattle.sheet.proofs.LentLaws.{length_step, step_lent}
use Rattle.lines.specs.CommandLine.{numbers}
use Rattle.stream.specs.Responses.{response, line_response}
use Rattle.stream.specs.Stream.{held, pushed, Fed, byte_fed, feed_of}
use Rattle.stream.specs.Inputs.{LentAsModel}
use Rattle.stream.proofs.turns.EndLaws.{answered, unanswered}

abbrev behind : {R : Type 0} → List ℕ → Fed R → Fed R
behind t x = record { held = x.held; text = t ++ x.text }

abbrev fed_as : {S R : Type 0} → (S → R) → Fed S → Fed R
fed_as m f = record { held = held (m f.held.state) f.held.text; text = f.text }

module _
    {S R : Type 0} (m : S → R) (P : S → Type 0) (f : S → Command → Stepped S) (g : R → Command → Stepped R) (keeps : (s : S) (c : Command) → P s → P (f s c).state)
    (same : (s : S) (c : Command) → P s → stepped_as m (f s c) ≡ g (m s) c) where
  response_keeps : (s : S) (o : Option (List ℕ)) → P s → P (response f s o).state
  unfolding response
  response_keeps s none p = p
  response_keeps s (some ns) p = keeps s (command_of ns) p

  response_related : (s : S) (o : Option (List ℕ)) → P s → stepped_as m (response f s o) ≡ response g (m s) o
  unfolding response
  response_related s none p = refl
  response_related s (some ns) p = same s (command_of ns) p

  byte_keeps : (s : S) (text : List ℕ) (b : ℕ) → P s → P (byte_fed f (held s text) b).held.state
  unfolding byte_fed
  byte_keeps s text b p = go (eqb b 10)
    where
      go : (x : Bool) → P (cond x (answered (line_response f s text)) (unanswered s (pushed text b))).held.state
      go true = response_keeps s (numbers text) p
      go false = p

  byte_related : (s : S) (text : List ℕ) (b : ℕ) → P s → fed_as m (byte_fed f (held s text) b) ≡ byte_fed g (held (m s) text) b
  unfolding byte_fed
  byte_related s text b p = go (eqb b 10)
    where
      go : (x : Bool)
          → fed_as m (cond x (answered (line_response f s text)) (unanswered s (pushed text b))) ≡ cond x (answered (line_response g (m s) text)) (unanswered (m s) (pushed text b))
      go true = ap answered (response_related s (numbers text) p)
      go false = refl

  pub feed_related : (s : S) (text bytes : List ℕ) → P s → fed_as m (feed_of f (held s text) bytes) ≡ feed_of g (held (m s) text) bytes
  unfolding feed_of
  feed_related s text [] p = refl
  feed_related s text (b ∷ l) p =
      let first = byte_fed f (held s text) b in
      ap (behind first.text) (feed_related first.held.state first.held.text l (byte_keeps s text b p))
      ∙ ap (λ (y : Fed R). behind y.text (feed_of g y.held l)) (byte_related s text b p)

pub lent_as_model : LentAsModel
lent_as_model w text bytes l =
    let e = feed_related model_of (λ (v : List ℕ). state_words ≤ length v) lent_step step_of (λ v c h. omega (arith, length_step v c h, h)) (λ v c h. step_lent v c h) w text bytes l in
    record {
      same_state = ap (λ (x : Fed State). x.held.state) e;
      same_held = ap (λ (x : Fed State). x.held.text) e;
      same_text = ap (λ (x : Fed State). x.text) e;
    }
