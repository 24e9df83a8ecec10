-- The ring of a sheet's words: the latest entry, words beside the ring, an entry more, and the latest one less. Assumes nothing.
use Prim.Native.Nat.{ℕ, suc, ◌+◌, ◌-◌, ◌%◌, ◌≤◌, ◌<◌}
use mathlib.Core.Path.{◌≡◌, refl, sym, ap, ◌∙◌}
use mathlib.Core.Bool.{Bool, true, false}
use mathlib.Core.List.{List, [], ◌∷◌}
use native.Mathlib.Omega.{arith}
use lib.Dec.{ltb}
use borrow.Author.Tests.{ltb-true, ltb-false}
use lib.ListN.{length, get_or, take, drop}
use lib.Seq.{sets, length-sets}
use Rattle.commands.specs.Codes.{history_depth}
use Rattle.sheet.specs.History.{ring_at, entry_width, next_at, next_of, back, place_at, Overwritten, entry_of, entries_from, ring_of}
use Rattle.sheet.specs.Words.{state_words}
use Rattle.sheet.proofs.words.ListLaws.{get_d_sets_above, get_d_sets_in, drop_sets_before, part_before}
use Rattle.sheet.proofs.ring.EntryLaws.{Kept, entry_kept, number_kept, entries_some, entries_none, entries_kept, entries_take, entries_end}

-- ---- the latest entry
module _ (w : List ℕ) where
  abbrev pub latest_at : ℕ
  latest_at = place_at (back (next_of w))

  pub ring_some : 0 < get_or w (latest_at + 1) 0 → ring_of w ≡ entry_of (drop latest_at w) ∷ entries_from 63 (back (next_of w)) w
  unfolding ring_of
  ring_some h = entries_some 63 (next_of w) w (back (next_of w)) refl h

  pub ring_none : get_or w (latest_at + 1) 0 ≡ 0 → ring_of w ≡ []
  unfolding ring_of
  ring_none h = entries_none 63 (next_of w) w (back (next_of w)) refl h

-- ---- words before the ring, of another entry, and behind the ring
module _ (w : List ℕ) (i : ℕ) (vs : List ℕ) where
  entries_behind : i + length vs ≤ ring_at → (q : ℕ) → Kept w (sets w i vs) q
  entries_behind h q = ap (take entry_width) (drop_sets_before (place_at q) w i vs (omega arith))

  other_kept : (p : ℕ) → place_at p ≤ i → i + length vs ≤ place_at p + entry_width → (q : ℕ) → (q ≡ p → ⊥) → Kept w (sets w i vs) q
  other_kept p l h q ne = go (ltb q p) refl
    where
      go : (b : Bool) → ltb q p ≡ b → Kept w (sets w i vs) q
      go true e = let below = ltb-true q p e in part_before entry_width (place_at q) w i vs (omega arith)
      go false e =
          let above : p < q = omega (arith, ltb-false q p e, ne) in
          ap (take entry_width) (drop_sets_before (place_at q) w i vs (omega arith))

  pub ring_behind : i + length vs ≤ ring_at → ring_of (sets w i vs) ≡ ring_of w
  unfolding ring_of
  ring_behind h =
      rw (
        get_d_sets_above w i next_at vs (omega arith),
        entries_kept w (sets w i vs) history_depth (next_of w) (omega arith) (omega arith) (λ d l. entries_behind h ((next_of w + (63 - d)) % history_depth)),
      )

module _ (w : List ℕ) (p : ℕ) (long : state_words ≤ length w) where
  abbrev moved : List ℕ
  moved = sets w next_at (p ∷ [])

  next_told : get_or moved next_at 0 ≡ p
  next_told = get_d_sets_in w next_at 0 (p ∷ []) (omega arith) (omega arith)

  before_next : (q : ℕ) → q < history_depth → Kept w moved q
  before_next q l = part_before entry_width (place_at q) w next_at (p ∷ []) (omega arith)

-- ---- an entry at the place that is written next
module _ (w : List ℕ) (t n : ℕ) (rows : List ℕ) (long : state_words ≤ length w) (short : length rows ≤ 10) where
  abbrev at : ℕ
  at = place_at (next_of w)

  abbrev words : List ℕ
  words = t ∷ suc n ∷ rows

  abbrev entered : List ℕ
  entered = sets w at words

  abbrev pushed : List ℕ
  pushed = sets entered next_at (((next_of w + 1) % history_depth) ∷ [])

  pub ring_pushed : ring_of pushed ≡ take history_depth (entry_of (drop at entered) ∷ ring_of w)
  unfolding ring_of
  ring_pushed =
      let room : state_words ≤ length entered = omega (arith, length-sets w at words) in
      let place : back (next_of pushed) ≡ next_of w = omega (arith, next_told entered ((next_of w + 1) % history_depth) room) in
      let kept = before_next entered ((next_of w + 1) % history_depth) room in
      let new = kept (next_of w) (omega arith) in
      let many : get_or pushed (at + 1) 0 ≡ suc n = number_kept entered pushed (next_of w) new ∙ get_d_sets_in w at 1 words (omega arith) (omega arith) in
      let others =
      entries_kept w pushed 63 (next_of w) (omega arith) (omega arith) (λ d l.
      let q = (next_of w + (63 - d)) % history_depth in
      kept q (omega arith) ∙ other_kept w at words (next_of w) (omega arith) (omega arith) q (λ e. omega (arith, e, l))) in
      entries_some 63 (next_of pushed) pushed (next_of w) place (omega (arith, many))
      ∙ rw (entry_kept entered pushed (next_of w) new, others, entries_take 63 history_depth (next_of w) w (omega arith)) refl

-- ---- the latest entry is then none, and words before the ring may have been written
module _ (w : List ℕ) (i : ℕ) (vs : List ℕ) (long : state_words ≤ length w) (h : i + length vs ≤ ring_at) where
  abbrev latest : ℕ
  latest = back (next_of w)

  abbrev written : List ℕ
  written = sets w i vs

  abbrev cleared : List ℕ
  cleared = sets written (place_at latest + 1) (0 ∷ [])

  abbrev popped : List ℕ
  popped = sets cleared next_at (latest ∷ [])

  pub ring_popped : 0 < get_or w (latest_at w + 1) 0 → ring_of w ≡ entry_of (drop (latest_at w) w) ∷ ring_of popped
  unfolding ring_of
  ring_popped some =
      let room : state_words ≤ length written = omega (arith, length-sets w i vs) in
      let enough : state_words ≤ length cleared = omega (arith, room, length-sets written (place_at latest + 1) (0 ∷ [])) in
      let place : next_of popped ≡ latest = omega (arith, next_told cleared latest enough) in
      let kept = before_next cleared latest enough in
      let z : place_at latest + 1 + 0 ≡ place_at latest + 1 = omega arith in
      let none : get_or cleared (place_at latest + 1) 0 ≡ 0 = rw z at (get_d_sets_in written (place_at latest + 1) 0 (0 ∷ []) (omega arith) (omega arith)) in
      let last : (latest + (63 - 63)) % history_depth ≡ latest = omega arith in
      let end = entries_end 63 latest popped (omega arith) (omega arith) (rw last (number_kept cleared popped latest (kept latest (omega arith)) ∙ none)) in
      let rest =
      entries_kept w popped 63 latest (omega arith) (omega arith) (λ d l.
      let q = (latest + (63 - d)) % history_depth in
      kept q (omega arith)
      ∙ other_kept written (place_at latest + 1) (0 ∷ []) latest (omega arith) (omega arith) q (λ e. omega (arith, e, l))
      ∙ entries_behind w i vs h q) in
      ring_some w some ∙ ap (λ (es : List Overwritten). entry_of (drop (latest_at w) w) ∷ es) (sym (rw place (end ∙ rest)))
