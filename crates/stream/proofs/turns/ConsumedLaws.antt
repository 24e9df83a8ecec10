-- How many bytes are consumed while an answer line has room: past a byte of a line, and past a line's end. Assumes nothing.
use Prim.Native.Nat.{ℕ, suc, ◌+◌, ◌-◌, ◌≤◌, ◌<◌}
use mathlib.Core.Bool.{Bool, true, false, cond}
use mathlib.Core.Path.{◌≡◌, refl, sym, ap, ◌∙◌}
use mathlib.Core.List.{List, [], ◌∷◌, ◌++◌, append_assoc}
use native.Mathlib.Omega.{arith}
use native.Mathlib.Numerals.{add-one}
use borrow.Author.Tests.{lt-ltb, le-ltb, ne_eqb}
use lib.Dec.{ltb, eqb}
use lib.ListN.{length, get_or, drop, length-append, length-drop, length-take, take-append-drop}
use lib.Seq.{drop-drop, drop-cons}
use Rattle.lines.specs.LineMeaning.{NoLineFeed}
use Rattle.stream.specs.Stream.{consumed_of}
use Rattle.stream.specs.Turns.{Ends}

-- where no answer line has room, and where no byte is left, none is consumed
pub consumed_short : (room : ℕ) (l : List ℕ) → room < 43 → consumed_of room l ≡ 0
unfolding consumed_of
consumed_short room [] h = refl
consumed_short room (b ∷ l) h = rw (lt-ltb _ _ h)

pub consumed_none : (room : ℕ) (l : List ℕ) → length l ≡ 0 → consumed_of room l ≡ 0
unfolding consumed_of
consumed_none room [] h = refl
consumed_none room (b ∷ l) h = absurd (omega (arith, h))

-- the end of a line is the bytes before the line feed, and it
pub ends_count : (bytes : List ℕ) (i consumed : ℕ) (rest : List ℕ) → Ends bytes i consumed rest → consumed ≡ length rest + 1
ends_count bytes i consumed rest r =
    omega (arith, r.part, length-drop i bytes, length-take consumed (drop i bytes), ap length r.next, length-append rest (10 ∷ []))

-- past bytes with no line feed among them, and past the line feed
module _ (room : ℕ) (h : 43 ≤ room) where
  consumed_free : (p l : List ℕ) → NoLineFeed p → consumed_of room (p ++ l) ≡ length p + consumed_of room l
  unfolding consumed_of NoLineFeed
  consumed_free [] l f = omega arith
  consumed_free (b ∷ p) l f = rw (le-ltb _ _ h, ne_eqb _ _ f.0, consumed_free p l f.1) (omega arith)

  consumed_feed : (l : List ℕ) → consumed_of room (10 ∷ l) ≡ suc (consumed_of (room - 43) l)
  unfolding consumed_of
  consumed_feed l = rw (le-ltb _ _ h)

  module _ (bytes : List ℕ) (i : ℕ) where
    pub consumed_byte : i < length bytes → (get_or bytes i 0 ≡ 10 → ⊥) → consumed_of room (drop i bytes) ≡ 1 + consumed_of room (drop (i + 1) bytes)
    unfolding NoLineFeed
    consumed_byte lt ne =
        let e : drop i bytes ≡ (get_or bytes i 0 ∷ []) ++ drop (i + 1) bytes = rw (add-one i) (drop-cons bytes i 0 lt) in
        rw e (consumed_free (get_or bytes i 0 ∷ []) (drop (i + 1) bytes) (ne, tt))

    pub consumed_line : (consumed : ℕ) (rest : List ℕ) → Ends bytes i consumed rest → consumed_of room (drop i bytes) ≡ consumed + consumed_of (room - 43) (drop (i + consumed) bytes)
    consumed_line consumed rest r =
        let e : drop i bytes ≡ rest ++ (10 ∷ drop (i + consumed) bytes) =
        sym (take-append-drop consumed (drop i bytes)) ∙ rw (r.next, drop-drop consumed i bytes) (append_assoc rest (10 ∷ []) (drop (i + consumed) bytes)) in
        rw (e, consumed_free rest (10 ∷ drop (i + consumed) bytes) r.no_line_feed, consumed_feed (drop (i + consumed) bytes)) (omega (arith, ends_count bytes i consumed rest r))

-- no more than there are, and one at least where an answer line has room
pub consumed_le : (room : ℕ) (l : List ℕ) → consumed_of room l ≤ length l
unfolding consumed_of
consumed_le room [] = omega arith
consumed_le room (b ∷ l) = let rest = cond (eqb b 10) (room - 43) room in go (ltb room 43) (consumed_of rest l) (consumed_le rest l)
  where
    go : (x : Bool) (n : ℕ) → n ≤ length l → cond x 0 (suc n) ≤ suc (length l)
    go true n h = omega arith
    go false n h = omega arith

pub some_consumed : (room : ℕ) (l : List ℕ) → 0 < length l → 43 ≤ room → 0 < consumed_of room l
unfolding consumed_of
some_consumed room [] b h = absurd (omega arith)
some_consumed room (b ∷ l) s h = rw (le-ltb _ _ h) (omega arith)
