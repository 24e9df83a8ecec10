-- 46 bytes of a line are enough: they grow as the line does, and they give the numbers that the whole line gives. Assumes nothing.
use Prim.Native.Nat.{ℕ, ◌+◌, ◌≤◌, ◌<◌}
use mathlib.Core.Bool.{Bool, true, false}
use mathlib.Core.Path.{◌≡◌, refl, sym, ◌∙◌}
use mathlib.Core.List.{List, [], ◌∷◌, ◌++◌}
use native.Mathlib.Omega.{arith}
use borrow.Author.Tests.{ltb-true, ltb-false, lt-ltb}
use lib.Dec.{ltb}
use lib.ListN.{length, take, length-append}
use lib.Seq.{take_all, take-append-le, length-take-le}
use Rattle.lines.specs.CommandLine.{numbers}
use Rattle.lines.proofs.columns.CommandLineLaws.{length_none}
use Rattle.stream.specs.Stream.{pushed}

-- what is kept of a line
abbrev pub kept : List ℕ → List ℕ
kept line = take 46 line

kept_all : (line : List ℕ) → length line ≤ 46 → kept line ≡ line
kept_all line h = take_all 46 line h

-- with one byte more
pub pushed_kept : (line : List ℕ) (b : ℕ) → pushed (kept line) b ≡ kept (line ++ (b ∷ []))
unfolding pushed
pushed_kept line b = go (ltb (length line) 46) refl
  where
    go : (x : Bool) → ltb (length line) 46 ≡ x → pushed (kept line) b ≡ kept (line ++ (b ∷ []))
    go true e =
        let lt : length line < 46 = ltb-true _ _ e in
        let one_more : length (line ++ (b ∷ [])) ≡ length line + 1 = length-append line (b ∷ []) in
        rw (kept_all line (omega arith), lt-ltb _ _ lt) (sym (kept_all (line ++ (b ∷ [])) (omega arith)))
    go false e =
        let le : 46 ≤ length line = ltb-false _ _ e in
        rw (length-take-le 46 line le) (sym (take-append-le 46 line (b ∷ []) le))

-- "1, not 45 bytes before a line feed": a line of more than 45 bytes gives no numbers, nor do its first 46
pub numbers_kept : (line : List ℕ) → numbers (kept line) ≡ numbers line
numbers_kept line = go (ltb (length line) 46) refl
  where
    go : (x : Bool) → ltb (length line) 46 ≡ x → numbers (kept line) ≡ numbers line
    go true e = let lt : length line < 46 = ltb-true _ _ e in rw (kept_all line (omega arith)) refl
    go false e =
        let le : 46 ≤ length line = ltb-false _ _ e in
        let full : length (kept line) ≡ 46 = length-take-le 46 line le in
        length_none (kept line) (λ q. omega (arith, q, full)) ∙ sym (length_none line (λ q. omega (arith, q, le)))
