-- A fresh sheet in lent words: what is written, and what enough words then mean. Assumes nothing.
use Prim.Native.Nat.{ℕ, ◌≤◌, ◌<◌}
use mathlib.Core.Path.{◌≡◌, sym, ap, ◌∙◌}
use mathlib.Core.List.{List, ◌++◌}
use borrow.Author.Tests.{lt-ltb, le-ltb}
use lib.ListN.{length, take, drop, replicate}
use lib.Seq.{length-take-le}
use Rattle.commands.specs.Codes.{lent_too_short}
use Rattle.sheet.specs.Words.{state_words, model_of, fresh_words}
use Rattle.sheet.proofs.words.WordLaws.{zeros_fresh}
use Rattle.capi.specs.Fresh.{Freshened, freshened, fresh_of, FreshMeaning}

pub fresh_short : (w : List ℕ) → length w < state_words → freshened w lent_too_short ≡ fresh_of w
unfolding fresh_of
fresh_short w l = simp (lt-ltb (length w) state_words l)

fresh_long : (w : List ℕ) → state_words ≤ length w → freshened (fresh_words (drop state_words w)) 0 ≡ fresh_of w
unfolding fresh_of
fresh_long w l = simp (le-ltb (length w) state_words l)

pub fresh_meaning : FreshMeaning
fresh_meaning w l = ap (λ (o : Freshened). model_of o.state) (sym (fresh_long w l)) ∙ zeros_fresh (drop state_words w)

-- zeros in place of the first words
pub fresh_filled :
    (w v : List ℕ) → state_words ≤ length w → v ≡ replicate (length (take state_words w)) 0 → freshened (v ++ drop state_words w) 0 ≡ fresh_of w
fresh_filled w v l e =
    let zeros : v ≡ replicate state_words 0 = e ∙ ap (λ (n : ℕ). replicate n 0) (length-take-le state_words w l) in
    ap (λ (k : List ℕ). freshened (k ++ drop state_words w) 0) zeros ∙ fresh_long w l
