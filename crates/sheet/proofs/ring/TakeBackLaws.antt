-- The sheet that lies in words after its latest command is taken back. Assumes nothing.
use Prim.Native.Nat.{ℕ, ◌+◌, ◌*◌, ◌≤◌}
use mathlib.Core.Path.{◌≡◌, refl, sym, ap, ◌∙◌}
use mathlib.Core.Bool.{true}
use Rattle.std.specs.Prelude.{Ok}
use mathlib.Core.List.{List, [], ◌∷◌}
use native.Mathlib.Omega.{arith}
use lib.ListN.{length, take, drop}
use lib.Seq.{sets, length-sets}
use Rattle.commands.specs.declared.row.Row.{Row}
use Rattle.commands.specs.declared.command.Answer.TheVariants.{Shown}
use Rattle.commands.specs.Rows.{ModelRow, State, row_of, row_at}
use Rattle.commands.specs.Answers.{shown, answer_of}
use Rattle.commands.specs.Model.{Stepped, stepped, restored, is_some}
use Rattle.sheet.specs.Rows.{row_width}
use Rattle.sheet.specs.History.{next_at, next_of, back, place_at, Overwritten, target, entry_of, ring_of, before, unwound, rows_in, target_in, put_back, taken_back}
use Rattle.sheet.specs.Words.{state_words, model_of}
use Rattle.sheet.proofs.words.ListLaws.{drop_sets_before}
use Rattle.sheet.proofs.words.WordLaws.{rows_kept, some_latest}
use Rattle.sheet.proofs.ring.RingLaws.{latest_at, ring_popped}
use Rattle.sheet.proofs.ring.PutBackLaws.{target_read, rows_put_back, back_room}

-- words with an entry less, and the rows before its command
restored_first :
    (w w' : List ℕ) (e : Overwritten)
    → ring_of w ≡ e ∷ ring_of w'
    → (model_of w').rows ≡ before (model_of w).rows e
    → stepped (model_of w') (shown (target e) (row_at (model_of w').rows (target e))) ≡ restored (model_of w) (model_of w).history
unfolding model_of restored unwound
restored_first w w' e ring rows = rw (ring, rows) refl

module _ (w : List ℕ) where
  -- the latest entry, where its rows are put back, and their words
  abbrev at : ℕ
  at = latest_at w

  abbrev to : ℕ
  to = target_in w at * row_width

  abbrev copied : List ℕ
  copied = take (rows_in w at * row_width) (drop (at + 2) w)

  -- the entry is none, and its place is written next
  abbrev cleared : List ℕ
  cleared = sets (put_back w at) (at + 1) (0 ∷ [])

  abbrev left : List ℕ
  left = back (next_of w) ∷ []

  pub length_taken : length (taken_back w) ≡ length w
  unfolding taken_back put_back
  length_taken = length-sets cleared next_at left ∙ length-sets (put_back w at) (at + 1) (0 ∷ []) ∙ length-sets w to copied

  pub behind_taken : drop state_words (taken_back w) ≡ drop state_words w
  unfolding taken_back put_back
  behind_taken =
      drop_sets_before state_words cleared next_at left (omega arith)
      ∙ drop_sets_before state_words (put_back w at) (at + 1) (0 ∷ []) (omega arith)
      ∙ drop_sets_before state_words w to copied (omega (arith, back_room w at))

  latest_left :
      (w₁ w₂ w₃ : List ℕ) (p e : ℕ)
      → p ≡ back (next_of w)
      → e ≡ place_at p
      → w₁ ≡ put_back w e
      → w₂ ≡ sets w₁ (e + 1) (0 ∷ [])
      → w₃ ≡ sets w₂ next_at (p ∷ [])
      → w₃ ≡ taken_back w
  unfolding taken_back
  latest_left w₁ w₂ w₃ p e place entry rows none next = rw (next, none, rows, entry, place) refl

  module _ (long : state_words ≤ length w) (some : is_some (model_of w).history ≡ true) where
    ring_taken : ring_of w ≡ entry_of (drop at w) ∷ ring_of (taken_back w)
    unfolding taken_back put_back
    ring_taken = ring_popped w to copied long (back_room w at) (some_latest w some)

    rows_taken : (model_of (taken_back w)).rows ≡ before (model_of w).rows (entry_of (drop at w))
    unfolding taken_back
    rows_taken =
        rows_kept cleared next_at left (omega arith) ∙ rows_kept (put_back w at) (at + 1) (0 ∷ []) (omega arith) ∙ rows_put_back w at long (omega arith)

    -- the model's, and its answer by the row that is then the target's
    pub taken_back_lem :
        stepped (model_of (taken_back w)) (shown (target_in w at) (row_at (model_of (taken_back w)).rows (target_in w at)))
        ≡ restored (model_of w) (model_of w).history
    taken_back_lem =
        ap (λ (t : ℕ). stepped (model_of (taken_back w)) (shown t (row_at (model_of (taken_back w)).rows t))) (sym (target_read w at))
        ∙ restored_first w (taken_back w) (entry_of (drop at w)) ring_taken rows_taken

    -- by the program's writes, and the row that it then reads
    pub restore_done :
        (w₁ w₂ w₃ : List ℕ) (p e t : ℕ) (r : Row)
        → p ≡ back (next_of w)
        → e ≡ place_at p
        → w₁ ≡ put_back w e
        → t ≡ target_in w e
        → w₂ ≡ sets w₁ (e + 1) (0 ∷ [])
        → w₃ ≡ sets w₂ next_at (p ∷ [])
        → row_of r ≡ row_at (model_of w₃).rows t
        → stepped w₃ (answer_of (Ok (Shown t r.kind r.v))) ≡ stepped (taken_back w) (restored (model_of w) (model_of w).history).answer
    unfolding answer_of
    restore_done w₁ w₂ w₃ p e t r place entry rows et none next told =
        let taken : w₃ ≡ taken_back w = latest_left w₁ w₂ w₃ p e place entry rows none next in
        let row : t ≡ target_in w at = et ∙ ap (target_in w) (entry ∙ ap place_at place) in
        ap (λ (a : ModelRow). stepped w₃ (shown t a)) told
        ∙ ap (λ (l : List ℕ). stepped l (shown t (row_at (model_of l).rows t))) taken
        ∙ ap (λ (k : ℕ). stepped (taken_back w) (shown k (row_at (model_of (taken_back w)).rows k))) row
        ∙ ap (λ (o : Stepped State). stepped (taken_back w) o.answer) taken_back_lem
