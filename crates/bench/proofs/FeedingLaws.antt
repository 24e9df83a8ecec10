-- The bytes of a slice, fed to the stream in as many parts as it consumes them, and their answers
-- handed over. Assumes nothing.
use Prim.Native.Nat.{ℕ, ◌+◌, ◌-◌, ◌*◌, ◌≤◌, ◌<◌}
use mathlib.Core.Bool.{Bool, true, false, cond}
use mathlib.Core.Path.{◌≡◌, refl, ap, ◌∙◌}
use mathlib.Core.List.{List, [], ◌∷◌, ◌++◌}
use native.Mathlib.Omega.{arith}
use lib.Dec.{eqb}
use lib.ListN.{length, take, drop, length-take, length-drop, length-append}
use lib.Seq.{take_all, take-add, length-take-le}
use Rattle.sheet.specs.Words.{lent_step}
use Rattle.stream.specs.Responses.{line_response}
use Rattle.stream.specs.Stream.{Held, pushed, byte_fed, feed_of, consumed_of, FedInto, fed_into}
use Rattle.bench.specs.declared.answer.Session.{Session}
use Rattle.std.specs.Prelude.{Result, Err}
use Rattle.bench.specs.declared.standard.Failure.{Failure}
use Rattle.bench.specs.declared.standard.Failure.TheVariants.{Writing}
use Rattle.bench.specs.Feeding.{held_by, handed_by, handed_more, AllFed}
use Rattle.stream.proofs.inputs.PieceLaws.{feed_append_held, feed_append_text}
use Rattle.stream.proofs.turns.AnswerLaws.{length_text}
use Rattle.stream.proofs.turns.EndLaws.{answered, unanswered}
use Rattle.stream.proofs.turns.FedLaws.{consumed_part, consumed_some}

-- ---- an answer line at most for each byte
byte_most : (h : Held (List ℕ)) (b : ℕ) → length (byte_fed lent_step h b).text ≤ 43
unfolding byte_fed
byte_most h b = go (eqb b 10)
  where
    go : (x : Bool) → length (cond x (answered (line_response lent_step h.state h.text)) (unanswered h.state (pushed h.text b))).text ≤ 43
    go true = omega (arith, length_text (line_response lent_step h.state h.text).answer)
    go false = omega arith

pub answers_most : (h : Held (List ℕ)) (l : List ℕ) → length (feed_of lent_step h l).text ≤ 43 * length l
unfolding feed_of
answers_most h [] = omega arith
answers_most h (b ∷ l) =
    let first = byte_fed lent_step h b in
    let rest = (feed_of lent_step first.held l).text in
    omega (arith, length-append first.text rest, byte_most h b, answers_most first.held l)

-- ---- what holds between two parts: the bytes that a session has consumed are fed, and the bytes
-- of answers that it has handed over are all that they gave
pub record FedTo (h : Held (List ℕ)) (bytes : List ℕ) (s : Session) : Type 0 where
  pub part : s.consumed ≤ length bytes
  pub fed : held_by s ≡ (feed_of lent_step h (take s.consumed bytes)).held
  pub given : s.handed ≡ length (feed_of lent_step h (take s.consumed bytes)).text

pub fed_none : (s : Session) (bytes : List ℕ) → s.consumed ≡ 0 → s.handed ≡ 0 → FedTo (held_by s) bytes s
unfolding feed_of
fed_none s bytes c g = record { part = omega (arith, c); fed = rw c; given = rw (c, g) }

-- the bytes from the first that is left on, as they are lent
pub length_rest : (l : List ℕ) (at : ℕ) → length (take (length l - at) (drop at l)) ≡ length l - at
length_rest l at = length-take (length l - at) (drop at l) ∙ omega (arith, length-drop at l)

rest_is : (l : List ℕ) (at : ℕ) → take (length l - at) (drop at l) ≡ drop at l
rest_is l at = take_all (length l - at) (drop at l) (omega (arith, length-drop at l))

module _ {h : Held (List ℕ)} {bytes : List ℕ} {s : Session} (f : FedTo h bytes s) where
  pub handed_most : s.handed ≤ 43 * length bytes
  handed_most = omega (arith, f.given, f.part, answers_most h (take s.consumed bytes), length-take-le s.consumed bytes f.part)

  -- one call of `feed` more, on the bytes that are left
  module _ (t : Session) (e : handed_by t ≡ handed_more s (fed_into lent_step (held_by s) (take (length bytes - s.consumed) (drop s.consumed bytes)) s.out)) where
    pub fed_some : s.consumed < length bytes → 43 ≤ length s.out → s.consumed < t.consumed
    fed_some lt room =
        let o = fed_into lent_step (held_by s) (take (length bytes - s.consumed) (drop s.consumed bytes)) s.out in
        let some : 0 < o.consumed = consumed_some lent_step (held_by s) (take (length bytes - s.consumed) (drop s.consumed bytes)) s.out o refl (omega (arith, length_rest bytes s.consumed, lt)) room in
        omega (arith, some, ap (λ (x : FedInto (List ℕ)). x.consumed) e)

    pub fed_more : FedTo h bytes t
    unfolding fed_into
    fed_more =
        let d : handed_by t ≡ handed_more s (fed_into lent_step (feed_of lent_step h (take s.consumed bytes)).held (drop s.consumed bytes) s.out) = rw (← f.fed) (rw (rest_is bytes s.consumed) at e) in
        let n = consumed_of (length s.out) (drop s.consumed bytes) in
        let next = take n (drop s.consumed bytes) in
        let first = feed_of lent_step h (take s.consumed bytes) in
        let most_left : n ≤ length (drop s.consumed bytes) = consumed_part lent_step first.held (drop s.consumed bytes) s.out (fed_into lent_step first.held (drop s.consumed bytes) s.out) refl in
        let consumed_is : t.consumed ≡ s.consumed + n = ap (λ (x : FedInto (List ℕ)). x.consumed) d in
        let held_is : held_by t ≡ (feed_of lent_step first.held next).held = ap (λ (x : FedInto (List ℕ)). x.held) d in
        let given_is : t.handed ≡ s.handed + length (feed_of lent_step first.held next).text = ap (λ (x : FedInto (List ℕ)). x.produced) d in
        let both : take (s.consumed + n) bytes ≡ take s.consumed bytes ++ next = take-add s.consumed n bytes in
        record {
          part = omega (arith, consumed_is, most_left, length-drop s.consumed bytes, f.part);
          fed = rw (consumed_is, both, feed_append_held lent_step h (take s.consumed bytes) next) held_is;
          given = rw (consumed_is, both, feed_append_text lent_step h (take s.consumed bytes) next) (omega (arith, f.given, given_is, length-append first.text (feed_of lent_step first.held next).text));
        }

  -- the end, where a write failed
  pub all_failed : (r : Result (Unit {0}) Failure) → r ≡ Err Writing → 0 < length bytes → AllFed h bytes s r
  all_failed r e some = rw e (record { part = f.part; all = tt; fed = f.fed; handed = f.given; failed = (refl, some) })
