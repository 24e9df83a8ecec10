-- Answer lines: six fields and a line feed over the first 43 bytes. Assumes nothing.
use Rattle.std.proofs.Common.{◌≡◌, ℕ, ◌<◌, ◌≤◌, List, [], ◌∷◌, length, drop, set, sym, refl, ◌∙◌, append_assoc, arith, length-append, drop-cons, le-ltb, lt-ltb}
use lib.Seq.{set_at}
use Rattle.lines.specs.Columns.{text}
use Rattle.lines.specs.ColumnParts.{put_field}
use Rattle.lines.specs.AnswerLine.{widths, answer_line, answer_into}
use Rattle.lines.proofs.columns.ColumnLaws.{put_fields_lem, length_text}

module _ (refusal row kind x y z : ℕ) where
  abbrev six : List ℕ
  six = refusal ∷ row ∷ kind ∷ x ∷ y ∷ z ∷ []

  pub length_answer : length (answer_line refusal row kind x y z) ≡ 43
  unfolding answer_line
  length_answer = length-append (text widths six) (10 ∷ []) ∙ rw (length_text widths six refl) refl

  -- the six fields, one after the other, and the line feed
  pub put_line : (out : List ℕ) → 43 ≤ length out
      → set (put_field 31 11 z (put_field 20 11 y (put_field 9 11 x (put_field 6 3 kind (put_field 3 3 row (put_field 0 3 refusal out)))))) 42 10
      ≡ answer_into refusal row kind x y z out
  unfolding answer_into answer_line
  put_line out h =
      let s : 42 < length out = omega arith in
      rw (le-ltb _ _ h, put_fields_lem [] out 0 widths six refl refl, drop-cons out 42 0 s)
      (set_at (text widths six) _ _ 10 42 (length_text widths six refl) ∙ sym (append_assoc (text widths six) (10 ∷ []) (drop 43 out)))

  pub put_none : (out : List ℕ) → length out < 43 → out ≡ answer_into refusal row kind x y z out
  unfolding answer_into
  put_none out h = rw (lt-ltb _ _ h) refl
