-- A row that is written: the rows after it; the ring, and the words behind the sheet, as they were. Assumes nothing.
use Prim.Native.Nat.{ℕ, ◌*◌, ◌≤◌, ◌<◌}
use mathlib.Core.Path.{◌≡◌, refl, ap, ◌∙◌}
use mathlib.Core.List.{List}
use native.Mathlib.Omega.{arith}
use lib.ListN.{length, drop, set}
use lib.Seq.{length-sets}
use Rattle.commands.specs.Codes.{row_count}
use Rattle.commands.specs.Rows.{ModelRow, with_row}
use Rattle.commands.proofs.table.EntryLaws.{FitRow}
use Rattle.sheet.specs.Rows.{row_width, rows_from, row_words, put_row}
use Rattle.sheet.specs.History.{ring_of}
use Rattle.sheet.specs.Words.{state_words, model_of}
use Rattle.sheet.proofs.words.ListLaws.{drop_sets_before}
use Rattle.sheet.proofs.words.RowLaws.{rows_written, words_row}
use Rattle.sheet.proofs.ring.RingLaws.{ring_behind}

module _ (w : List ℕ) (t : ℕ) (r : ModelRow) where
  pub length_put : length (put_row w t r) ≡ length w
  unfolding put_row
  length_put = length-sets w (t * row_width) (row_words r)

  pub behind_put : t < row_count → drop state_words (put_row w t r) ≡ drop state_words w
  unfolding put_row row_words
  behind_put h = drop_sets_before state_words w (t * row_width) (row_words r) (omega arith)

  pub ring_put : t < row_count → ring_of (put_row w t r) ≡ ring_of w
  unfolding put_row row_words
  ring_put h = ring_behind w (t * row_width) (row_words r) (omega arith)

  pub rows_put : t < row_count → state_words ≤ length w → FitRow r → (model_of (put_row w t r)).rows ≡ with_row (model_of w).rows t r
  unfolding model_of put_row with_row row_words
  rows_put h l f = rows_written row_count t w (row_words r) refl h (omega arith) ∙ ap (set (rows_from row_count w) t) (words_row r f)
