-- The rows of an entry that are put back: the rows before its command, and the entry's target. Assumes nothing.
use Prim.Native.Nat.{ℕ, ◌+◌, ◌*◌, ◌%◌, ◌≤◌, ◌<◌}
use mathlib.Core.Path.{◌≡◌, refl, ap, ◌∙◌}
use mathlib.Core.Bool.{Bool, true, false}
use mathlib.Core.List.{List}
use native.Mathlib.Omega.{arith}
use lib.Dec.{eqb}
use lib.ListN.{length, get_or, take, drop, length-take, length-drop}
use lib.Seq.{sets, get_or-drop, drop-drop}
use Rattle.commands.specs.Codes.{row_count}
use Rattle.commands.specs.Rows.{ModelRow, with_row}
use Rattle.sheet.specs.Rows.{row_width, word_row, rows_from}
use Rattle.sheet.specs.History.{ring_at, One, Two, target, entry_of, before, rows_in, target_in, put_back}
use Rattle.sheet.specs.Words.{state_words, model_of}
use Rattle.sheet.proofs.words.RowLaws.{row_copied, rows_copied}

module _ (w : List ℕ) (e : ℕ) where
  -- whether there are two
  abbrev is_two : Bool
  is_two = eqb (get_or w (e + 1) 0) 2

  abbrev first : ModelRow
  first = word_row (drop (e + 2) w)

  one_read : is_two ≡ false → entry_of (drop e w) ≡ One (get_or w e 0 % 64) first
  unfolding entry_of
  one_read q = let z : e + 0 ≡ e = omega arith in rw (get_or-drop e w 1 0, q, get_or-drop e w 0 0, z, drop-drop 2 e w) refl

  two_read : is_two ≡ true → entry_of (drop e w) ≡ Two (get_or w e 0 % 63) first (word_row (drop (e + 7) w))
  unfolding entry_of
  two_read q = let z : e + 0 ≡ e = omega arith in rw (get_or-drop e w 1 0, q, get_or-drop e w 0 0, z, drop-drop 2 e w, drop-drop 7 e w) refl

  pub one_put_back : is_two ≡ false → put_back w e ≡ sets w (get_or w e 0 % 64 * row_width) (take row_width (drop (e + 2) w))
  unfolding put_back
  one_put_back q = rw q refl

  pub two_put_back : is_two ≡ true → put_back w e ≡ sets w (get_or w e 0 % 63 * row_width) (take (2 * row_width) (drop (e + 2) w))
  unfolding put_back
  two_put_back q = rw q refl

  pub one_target : is_two ≡ false → get_or w e 0 % 64 ≡ target_in w e
  one_target q = rw q refl

  pub two_target : is_two ≡ true → get_or w e 0 % 63 ≡ target_in w e
  two_target q = rw q refl

  pub rows_few : rows_in w e ≤ 2
  rows_few = go is_two refl
    where
      go : (b : Bool) → is_two ≡ b → rows_in w e ≤ 2
      go true q = rw q (omega arith)
      go false q = rw q (omega arith)

  -- they lie among the rows
  pub target_room : target_in w e * row_width + rows_in w e * row_width ≤ ring_at
  target_room = go is_two refl
    where
      go : (b : Bool) → is_two ≡ b → target_in w e * row_width + rows_in w e * row_width ≤ ring_at
      go true q = rw q (omega arith)
      go false q = rw q (omega arith)

  pub target_below : (t : ℕ) → t ≡ target_in w e → t < row_count
  target_below t h = go is_two refl
    where
      go : (b : Bool) → is_two ≡ b → t < row_count
      go true q = omega (arith, h, two_target q)
      go false q = omega (arith, h, one_target q)

  -- by the entry that they are
  pub target_read : target (entry_of (drop e w)) ≡ target_in w e
  target_read = go is_two refl
    where
      go : (b : Bool) → is_two ≡ b → target (entry_of (drop e w)) ≡ target_in w e
      go true q = ap target (two_read q) ∙ two_target q
      go false q = ap target (one_read q) ∙ one_target q

  pub rows_put_back : state_words ≤ length w → e + 12 ≤ length w → (model_of (put_back w e)).rows ≡ before (model_of w).rows (entry_of (drop e w))
  unfolding model_of before with_row
  rows_put_back l h = go is_two refl
    where
      go : (b : Bool) → is_two ≡ b → rows_from row_count (put_back w e) ≡ before (rows_from row_count w) (entry_of (drop e w))
      go true q =
          let next : e + 2 + row_width ≡ e + 7 = omega arith in
          rw (two_put_back q, two_read q, ← next, ← drop-drop row_width (e + 2) w)
          (rows_copied row_count (get_or w e 0 % 63) w (drop (e + 2) w) (omega (arith, length-drop (e + 2) w)) (omega arith) (omega arith))
      go false q =
          rw (one_put_back q, one_read q) (row_copied row_count (get_or w e 0 % 64) w (drop (e + 2) w) (omega (arith, length-drop (e + 2) w)) (omega arith) (omega arith))

  pub back_room : target_in w e * row_width + length (take (rows_in w e * row_width) (drop (e + 2) w)) ≤ ring_at
  back_room = omega (arith, target_room, length-take (rows_in w e * row_width) (drop (e + 2) w))
