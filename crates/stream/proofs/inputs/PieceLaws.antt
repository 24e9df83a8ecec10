-- How an input is cut into pieces does not matter, by any way of doing one command. Assumes nothing.
use Prim.Native.Nat.{ℕ}
use mathlib.Core.Path.{◌≡◌, refl, sym}
use mathlib.Core.List.{List, [], ◌∷◌, ◌++◌, append_assoc}
use Rattle.commands.specs.declared.command.Command.{Command}
use Rattle.commands.specs.Model.{Stepped}
use Rattle.stream.specs.Stream.{Held, byte_fed, feed_of}
use Rattle.stream.specs.Inputs.{PiecesDontMatter}

module _ {S : Type 0} (step : S → Command → Stepped S) where
  pub feed_append_held : (h : Held S) (a b : List ℕ) → (feed_of step h (a ++ b)).held ≡ (feed_of step (feed_of step h a).held b).held
  unfolding feed_of
  feed_append_held h [] b = refl
  feed_append_held h (x ∷ a) b = feed_append_held (byte_fed step h x).held a b

  pub feed_append_text : (h : Held S) (a b : List ℕ) → (feed_of step h (a ++ b)).text ≡ (feed_of step h a).text ++ (feed_of step (feed_of step h a).held b).text
  unfolding feed_of
  feed_append_text h [] b = refl
  feed_append_text h (x ∷ a) b =
      let first = byte_fed step h x in
      rw (feed_append_text first.held a b)
      (sym (append_assoc first.text (feed_of step first.held a).text (feed_of step (feed_of step first.held a).held b).text))

  pub pieces : PiecesDontMatter step
  pieces h a b = record { same_held = feed_append_held h a b; same_text = feed_append_text h a b }
