-- What `remembered` leaves: an entry more, of the rows that are about to be written; the rows, and the words behind the sheet, as they were. Assumes nothing.
use Prim.Native.Nat.{ℕ, ◌+◌, ◌*◌, ◌%◌, ◌≤◌, ◌<◌}
use mathlib.Core.Path.{◌≡◌, refl, sym, ap, ◌∙◌}
use mathlib.Core.List.{List, [], ◌∷◌, ◌++◌}
use native.Mathlib.Omega.{arith}
use lib.ListN.{length, take, drop, length-take, length-drop}
use lib.Seq.{sets, length-sets, drop-drop, drop-append-le}
use Rattle.commands.specs.Codes.{row_count, history_depth}
use Rattle.commands.specs.Rows.{row_at}
use Rattle.sheet.specs.Rows.{row_width, word_row}
use Rattle.sheet.specs.History.{next_at, next_of, place_at, Overwritten, One, Two, entry_of, ring_of, remembered}
use Rattle.sheet.specs.Words.{state_words, model_of}
use Rattle.sheet.proofs.words.ListLaws.{drop_sets_at, drop_sets_before, drop_take}
use Rattle.sheet.proofs.words.RowLaws.{row_first}
use Rattle.sheet.proofs.words.WordLaws.{row_read, rows_kept}
use Rattle.sheet.proofs.ring.RingLaws.{ring_pushed}

-- the words of an entry, and the place behind the entries
abbrev entry_words : List ℕ → ℕ → ℕ → List ℕ
entry_words w t n = t ∷ n ∷ take (n * row_width) (drop (t * row_width) w)

abbrev next_words : List ℕ → List ℕ
next_words w = ((next_of w + 1) % history_depth) ∷ []

-- ---- the entry
module _ (w : List ℕ) (t : ℕ) (long : state_words ≤ length w) where
  abbrev at : ℕ
  at = place_at (next_of w)

  abbrev from : List ℕ
  from = drop (t * row_width) w

  one_entry : t < row_count → entry_of (drop at (sets w at (entry_words w t 1))) ≡ One t (row_at (model_of w).rows t)
  unfolding entry_of
  one_entry h =
      let words : row_width ≤ length from = omega (arith, length-drop (t * row_width) w) in
      let vs = entry_words w t 1 in
      let same : t % 64 ≡ t = omega arith in
      let row = row_first row_width from (drop (at + length vs) w) (omega arith) words ∙ sym (row_read w t h) in
      ap entry_of (drop_sets_at w at vs (omega (arith, length-take row_width from))) ∙ rw (same, row) refl

  two_entry : t + 1 < row_count → entry_of (drop at (sets w at (entry_words w t 2))) ≡ Two t (row_at (model_of w).rows t) (row_at (model_of w).rows (t + 1))
  unfolding entry_of
  two_entry h =
      let words : 2 * row_width ≤ length from = omega (arith, length-drop (t * row_width) w) in
      let vs = entry_words w t 2 in
      let rest = drop (at + length vs) w in
      let next = drop row_width from in
      let same : t % 63 ≡ t = omega arith in
      let place : t * row_width + row_width ≡ (t + 1) * row_width = omega arith in
      let first = row_first (2 * row_width) from rest (omega arith) words ∙ sym (row_read w t (omega arith)) in
      let behind : drop row_width (take (2 * row_width) from ++ rest) ≡ take row_width next ++ rest =
      drop-append-le row_width (take (2 * row_width) from) rest (omega (arith, length-take (2 * row_width) from))
      ∙ ap (λ (l : List ℕ). l ++ rest) (drop_take row_width row_width from) in
      let second =
      ap word_row behind ∙ row_first row_width next rest (omega arith) (omega (arith, length-drop row_width from))
      ∙ ap word_row (drop-drop row_width (t * row_width) w ∙ ap (λ (k : ℕ). drop k w) place) ∙ sym (row_read w (t + 1) h) in
      ap entry_of (drop_sets_at w at vs (omega (arith, length-take (2 * row_width) from))) ∙ rw (same, first, second) refl

  short : (n : ℕ) → n ≤ 2 → length (take (n * row_width) from) ≤ 10
  short n h = omega (arith, length-take (n * row_width) from)

  pub ring_one : t < row_count → ring_of (remembered w t 1) ≡ take history_depth (One t (row_at (model_of w).rows t) ∷ ring_of w)
  unfolding remembered
  ring_one h =
      ring_pushed w t 0 (take row_width from) long (short 1 (omega arith)) ∙ ap (λ (e : Overwritten). take history_depth (e ∷ ring_of w)) (one_entry h)

  pub ring_two :
      t + 1 < row_count → ring_of (remembered w t 2) ≡ take history_depth (Two t (row_at (model_of w).rows t) (row_at (model_of w).rows (t + 1)) ∷ ring_of w)
  unfolding remembered
  ring_two h =
      ring_pushed w t 1 (take (2 * row_width) from) long (short 2 (omega arith)) ∙ ap (λ (e : Overwritten). take history_depth (e ∷ ring_of w)) (two_entry h)

-- ---- the rest
module _ (w : List ℕ) (t n : ℕ) where
  abbrev entered : List ℕ
  entered = sets w (place_at (next_of w)) (entry_words w t n)

  pub rows_remembered : (model_of (remembered w t n)).rows ≡ (model_of w).rows
  unfolding remembered
  rows_remembered = rows_kept entered next_at (next_words w) (omega arith) ∙ rows_kept w (place_at (next_of w)) (entry_words w t n) (omega arith)

  pub length_remembered : length (remembered w t n) ≡ length w
  unfolding remembered
  length_remembered = length-sets entered next_at (next_words w) ∙ length-sets w (place_at (next_of w)) (entry_words w t n)

  pub behind_remembered : n ≤ 2 → drop state_words (remembered w t n) ≡ drop state_words w
  unfolding remembered
  behind_remembered h =
      drop_sets_before state_words entered next_at (next_words w) (omega arith)
      ∙ drop_sets_before state_words w (place_at (next_of w)) (entry_words w t n) (omega (arith, length-take (n * row_width) (drop (t * row_width) w)))
