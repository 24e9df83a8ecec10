-- Answer lines at a place of the lent bytes, and at the end of the input. Assumes nothing.
use Prim.Native.Nat.{ℕ, ◌+◌, ◌-◌, ◌≤◌, ◌<◌}
use mathlib.Core.Bool.{Bool, true, false}
use mathlib.Core.Path.{◌≡◌, refl, ◌∙◌}
use mathlib.Core.List.{List, ◌++◌, append-nil}
use native.Mathlib.Omega.{arith}
use borrow.Author.Tests.{le-ltb, lt-ltb, ltb-false, eq-eqb, ne_eqb}
use lib.Dec.{ltb, eqb}
use lib.ListN.{length, take, drop, length-take, length-drop, drop_of_length-le}
use lib.Seq.{drop-drop}
use Rattle.commands.specs.Answers.{ModelAnswer, refused}
use Rattle.lines.specs.AnswerLine.{answer_into}
use Rattle.lines.proofs.columns.LineMeaningLaws.{answer_length_lem}
use Rattle.stream.specs.Responses.{answer_text}
use Rattle.stream.specs.Stream.{end_of, ended_of}
use Rattle.stream.specs.Turns.{answered_at}

pub length_text : (x : ModelAnswer) → length (answer_text x) ≡ 43
unfolding answer_text
length_text x = answer_length_lem x.refusal x.row x.kind x.x x.y x.z

-- the 43 bytes from `at` on, ys afterwards, put back
pub answered_part : (xs ys : List ℕ) (x : ModelAnswer) (at : ℕ) → at + 43 ≤ length xs
    → ys ≡ answer_into x.refusal x.row x.kind x.x x.y x.z (take (at + 43 - at) (drop at xs))
    → take at xs ++ (ys ++ drop (at + 43 - at) (drop at xs)) ≡ answered_at at x xs
unfolding answer_into answer_text
answered_part xs ys x at h e =
    let k : at + 43 - at ≡ 43 = omega arith in
    let l : length (take 43 (drop at xs)) ≡ 43 = length-take 43 (drop at xs) ∙ omega (arith, length-drop at xs) in
    let le : 43 ≤ length (take 43 (drop at xs)) = omega arith in
    let ge : length (take 43 (drop at xs)) ≤ 43 = omega arith in
    rw (e, k, le-ltb _ _ le, drop_of_length-le (take 43 (drop at xs)) ge, append-nil (answer_text x), drop-drop 43 at xs)

-- ---- the end of the input
module _ (text out : List ℕ) where
  pub end_none : length text ≡ 0 → record { bytes = out; produced = 0; refusal = 0 } ≡ ended_of text out
  unfolding ended_of
  end_none e = rw (eq-eqb _ _ e) refl

  module _ (some : length text ≡ 0 → ⊥) where
    pub end_short : length out < 43 → record { bytes = out; produced = 0; refusal = 9 } ≡ ended_of text out
    unfolding ended_of
    end_short lt = rw (ne_eqb _ _ some, lt-ltb _ _ lt) refl

    pub end_answered : (out' : List ℕ) → 43 ≤ length out → out' ≡ answered_at 0 (refused 1) out → record { bytes = out'; produced = 43; refusal = 1 } ≡ ended_of text out
    unfolding ended_of end_of
    end_answered out' le e = rw (ne_eqb _ _ some, le-ltb _ _ le, e) refl

  pub ended_fits : (ended_of text out).produced ≤ length out
  unfolding ended_of
  ended_fits = go (eqb (length text) 0) (ltb (length out) 43) refl refl
    where
      go : (none short : Bool) → eqb (length text) 0 ≡ none → ltb (length out) 43 ≡ short → (ended_of text out).produced ≤ length out
      go true short e q = rw e (omega arith)
      go false true e q = rw (e, q) (omega arith)
      go false false e q = rw (e, q) (ltb-false (length out) 43 q)
