-- What the next bytes come to: the end of a line, at the next byte or where a whole line lies. Assumes nothing.
use Prim.Native.Nat.{ℕ, ◌+◌, ◌≤◌, ◌<◌}
use mathlib.Core.Bool.{true, false}
use mathlib.Core.Path.{◌≡◌, refl, sym, ap, ◌∙◌}
use mathlib.Core.List.{List, [], ◌∷◌, ◌++◌, append-nil}
use Rattle.std.specs.Prelude.{Option, None as none, Some as some}
use native.Mathlib.Omega.{arith}
use borrow.Author.Tests.{le-ltb}
use lib.ListN.{length, get_or, take, drop, length-drop, drop_of_length-le}
use lib.Seq.{take-suc, get_or-drop, drop-cons}
use Rattle.lines.specs.CommandLine.{numbers, read_into, is_read, places_after}
use Rattle.lines.specs.LineMeaning.{NoLineFeed}
use Rattle.lines.proofs.columns.LineMeaningLaws.{well_formed_whole}
use Rattle.stream.specs.Turns.{Ends, IsRun}

-- ---- the numbers of a line, in seven lent places
module _ (l f : List ℕ) (seven : length f ≡ 7) where
  read_into_numbers : read_into l f ≡ numbers l
  unfolding read_into
  read_into_numbers = rw (le-ltb (length f) 7 (omega arith)) refl

  pub read_all : (g : List ℕ) → true ≡ is_read (read_into l f) → g ≡ places_after (read_into l f) f → numbers l ≡ some g
  unfolding is_read places_after
  read_all g r p = go (numbers l) (r ∙ ap is_read read_into_numbers) (p ∙ ap (λ (o : Option (List ℕ)). places_after o f) read_into_numbers)
    where
      go : (o : Option (List ℕ)) → true ≡ is_read o → g ≡ places_after o f → o ≡ some g
      go none r p = cc
      go (some ns) r p =
          let le : length f ≤ 7 = omega arith in
          let z : drop 7 f ≡ [] = drop_of_length-le f le in
          ap some (sym (p ∙ ap (λ (t : List ℕ). ns ++ t) z ∙ append-nil ns))

  pub read_none : false ≡ is_read (read_into l f) → numbers l ≡ none
  unfolding is_read
  read_none r = go (numbers l) (r ∙ ap is_read read_into_numbers)
    where
      go : (o : Option (List ℕ)) → false ≡ is_read o → o ≡ none
      go none r = refl
      go (some ns) r = cc

-- ---- the end of a line
module _ (bytes : List ℕ) (i : ℕ) where
  pub end_next : i < length bytes → get_or bytes i 0 ≡ 10 → Ends bytes i 1 []
  unfolding NoLineFeed
  end_next h e = record { part = omega arith; no_line_feed = tt; next = rw (drop-cons bytes i 0 h, e) }

  pub hear_end : (text ns : List ℕ) → i < length bytes → get_or bytes i 0 ≡ 10 → numbers text ≡ some ns → IsRun bytes i text ns 1
  hear_end text ns h e p = record { rest = []; ends = end_next h e; line = rw (append-nil text) p }

  pub hear_line : (text ns : List ℕ) → length text ≡ 0 → i + 46 ≤ length bytes → get_or bytes (i + 45) 0 ≡ 10 → numbers (take 45 (drop i bytes)) ≡ some ns
      → IsRun bytes i text ns 46
  hear_line [] ns z h e p =
      let lt : 45 < length (drop i bytes) = omega (arith, length-drop i bytes) in
      let next : take 46 (drop i bytes) ≡ take 45 (drop i bytes) ++ (10 ∷ []) = take-suc (drop i bytes) 45 0 lt ∙ rw (get_or-drop i bytes 45 0, e) in
      record { rest = take 45 (drop i bytes); ends = record { part = h; no_line_feed = well_formed_whole (take 45 (drop i bytes)) ns p; next = next }; line = p }
  hear_line (b ∷ l) ns z h e p = absurd (omega arith)
