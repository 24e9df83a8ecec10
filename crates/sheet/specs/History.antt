-- What a sheet's words remember: behind the rows a ring of 64 entries, each the rows that a command overwrote, as they were; then the place in the ring that is
-- written next. An entry with no rows is none. Back from the present rows, each entry gives the rows before its command.
use Rattle.std.specs.Prelude.{ℕ, zero, suc, ◌+◌, ◌-◌, ◌*◌, ◌%◌, cond, List, [], ◌∷◌, eqb, get_or, take, drop}
use Rattle.std.proofs.lemmas.List.Edits.{sets}
use Rattle.commands.specs.Codes.{history_depth}
use Rattle.commands.specs.Rows.{ModelRow, Snapshot, with_row}
use Rattle.sheet.specs.Rows.{row_width, word_row}

-- ---- where things lie
-- the ring, behind 64 rows; the words of an entry: the target, how many rows, one or two (none: no entry), and these
abbrev pub ring_at : ℕ
ring_at = 320

abbrev pub entry_width : ℕ
entry_width = 12

-- behind 64 entries
abbrev pub next_at : ℕ
next_at = 1088

-- the place that is written next, the one before a place, and where a place lies
abbrev pub next_of : List ℕ → ℕ
next_of w = get_or w next_at 0 % history_depth

abbrev pub back : ℕ → ℕ
back p = (p + 63) % history_depth

abbrev pub place_at : ℕ → ℕ
place_at p = ring_at + p * entry_width

-- ---- what it means
-- the target of a command, and its row before the command, or this and the next one
pub data Overwritten : Type 0 where
  One : ℕ → ModelRow → Overwritten
  Two : ℕ → ModelRow → ModelRow → Overwritten

abbrev pub target : Overwritten → ℕ
target (One t r) = t
target (Two t r s) = t

-- the entry that the first words give
unfoldable pub entry_of : List ℕ → Overwritten
entry_of l = cond (eqb (get_or l 1 0) 2) (Two (get_or l 0 0 % 63) (word_row (drop 2 l)) (word_row (drop 7 l))) (One (get_or l 0 0 % 64) (word_row (drop 2 l)))

-- at most k entries, the latest first, back from place p up to a place that holds none
unfoldable pub entries_from : ℕ → ℕ → List ℕ → List Overwritten
entries_from zero p w = []
entries_from (suc k) p w = cond (eqb (get_or w (place_at (back p) + 1) 0) 0) [] (entry_of (drop (place_at (back p)) w) ∷ entries_from k (back p) w)

unfoldable pub ring_of : List ℕ → List Overwritten
ring_of w = entries_from history_depth (next_of w) w

-- the rows before a command, from those after it, and so of one command after another
unfoldable pub before : List ModelRow → Overwritten → List ModelRow
before rows (One t r) = with_row rows t r
before rows (Two t r s) = with_row (with_row rows t r) (t + 1) s

unfoldable pub unwound : List ModelRow → List Overwritten → List Snapshot
unwound rows [] = []
unwound rows (e ∷ rest) = record { t = target e; rows = before rows e } ∷ unwound (before rows e) rest

-- ---- writing
-- n rows from row t on are remembered, over the oldest entry where all are used
unfoldable pub remembered : List ℕ → ℕ → ℕ → List ℕ
remembered w t n =
    sets (sets w (place_at (next_of w)) (t ∷ n ∷ take (n * row_width) (drop (t * row_width) w))) next_at (((next_of w + 1) % history_depth) ∷ [])

-- how many rows the entry at e has, and its target
abbrev pub rows_in : List ℕ → ℕ → ℕ
rows_in w e = cond (eqb (get_or w (e + 1) 0) 2) 2 1

abbrev pub target_in : List ℕ → ℕ → ℕ
target_in w e = get_or w e 0 % (65 - rows_in w e)

-- they are put back
unfoldable pub put_back : List ℕ → ℕ → List ℕ
put_back w e = sets w (target_in w e * row_width) (take (rows_in w e * row_width) (drop (e + 2) w))

-- those of the latest entry, which is then none
unfoldable pub taken_back : List ℕ → List ℕ
taken_back w = let latest = back (next_of w) in sets (sets (put_back w (place_at latest)) (place_at latest + 1) (0 ∷ [])) next_at (latest ∷ [])
