-- Command lines: a line of another length gives no numbers, and what is made of the places lent. Assumes nothing.
use Rattle.std.proofs.Common.{◌≡◌, ℕ, true, false, List, ◌++◌, length, drop, refl, ne_eqb}
use Rattle.std.specs.Prelude.{None, Some}
use Rattle.lines.specs.CommandLine.{numbers, read_into, is_read, places_after}

pub length_none : (l : List ℕ) → (length l ≡ 45 → ⊥) → numbers l ≡ None
unfolding numbers
length_none l h = rw (ne_eqb _ _ h) refl

-- the promise where nothing is read
abbrev NotRead : List ℕ → List ℕ → Type 0
NotRead l f = record { read : false ≡ is_read (read_into l f); places : f ≡ places_after (read_into l f) f }

pub not_read : (l f : List ℕ) → read_into l f ≡ None → NotRead l f
unfolding is_read places_after
not_read l f e = rw e (record { read = refl; places = refl })

-- the promise where the numbers ns are read
pub is_read_lem : (l f ns g : List ℕ) → read_into l f ≡ Some ns → g ≡ ns ++ drop 7 f → record { read : true ≡ is_read (read_into l f); places : g ≡ places_after (read_into l f) f }
unfolding is_read places_after
is_read_lem l f ns g e h = rw e (record { read = refl; places = h })
