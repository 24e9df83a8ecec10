-- What bytes that end a line leave, by any way of doing one command. Assumes nothing.
use Prim.Native.Nat.{ℕ, ◌+◌, ◌≤◌, ◌<◌}
use mathlib.Core.Path.{◌≡◌, ap, ◌∙◌}
use mathlib.Core.List.{List, [], ◌∷◌, ◌++◌, append_assoc, append-nil}
use native.Mathlib.Omega.{arith}
use borrow.Author.Tests.{lt-ltb, ne_eqb}
use lib.ListN.{length, length-append}
use Rattle.commands.specs.declared.command.Command.{Command}
use Rattle.commands.specs.Model.{Stepped}
use Rattle.lines.specs.LineMeaning.{NoLineFeed}
use Rattle.stream.specs.Responses.{line_response, answer_text}
use Rattle.stream.specs.Stream.{Held, held, pushed, Fed, byte_fed, feed_of}
use Rattle.stream.proofs.inputs.PieceLaws.{feed_append_held, feed_append_text}

-- an answered line: its state and its answer line, and no byte of the next
abbrev pub answered : {S : Type 0} → Stepped S → Fed S
answered o = record { held = held o.state []; text = answer_text o.answer }

-- bytes of a line that has not ended
abbrev pub unanswered : {S : Type 0} → S → List ℕ → Fed S
unanswered s text = record { held = held s text; text = [] }

both : {S : Type 0} (x y : Fed S) → x.held ≡ y.held → x.text ≡ y.text → x ≡ y
both {S} x y p q = ap (λ (a : Held S). record { held = a; text = x.text }) p ∙ ap (λ (t : List ℕ). record { held = y.held; text = t }) q

module _ {S : Type 0} (step : S → Command → Stepped S) (s : S) where
  -- bytes with no line feed among them are held, as far as 46 go
  free_fed : (p l : List ℕ) → NoLineFeed l → length p + length l ≤ 46 → feed_of step (held s p) l ≡ unanswered s (p ++ l)
  unfolding feed_of byte_fed pushed NoLineFeed
  free_fed p [] f h = rw (append-nil p)
  free_fed p (b ∷ l) f h =
      let lt : length p < 46 = omega arith in
      let le : length (p ++ (b ∷ [])) + length l ≤ 46 = omega (arith, length-append p (b ∷ [])) in
      rw (ne_eqb _ _ f.0, lt-ltb _ _ lt, free_fed (p ++ (b ∷ [])) l f.1 le, append_assoc p (b ∷ []) l)

  -- a line feed answers the line
  end_fed : (line : List ℕ) → feed_of step (held s line) (10 ∷ []) ≡ answered (line_response step s line)
  unfolding feed_of byte_fed
  end_fed line = rw (append-nil (answer_text (line_response step s line).answer))

  -- the rest of a line, and its line feed
  pub line_fed : (text rest : List ℕ) → NoLineFeed rest → length text + length rest ≤ 46
      → feed_of step (held s text) (rest ++ (10 ∷ [])) ≡ answered (line_response step s (text ++ rest))
  line_fed text rest f h =
      both (feed_of step (held s text) (rest ++ (10 ∷ []))) (answered (line_response step s (text ++ rest)))
      (rw (feed_append_held step (held s text) rest (10 ∷ []), free_fed text rest f h, end_fed (text ++ rest)))
      (rw (feed_append_text step (held s text) rest (10 ∷ []), free_fed text rest f h, end_fed (text ++ rest)))
