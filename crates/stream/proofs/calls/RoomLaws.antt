-- A call of `feed` consumes bytes as long as an answer line has room. Assumes nothing.
use Prim.Native.Nat.{ℕ, suc, ◌+◌, ◌-◌, ◌≤◌, ◌<◌}
use mathlib.Core.Bool.{Bool, true, false}
use mathlib.Core.Path.{◌≡◌, refl}
use mathlib.Core.List.{List, [], ◌∷◌}
use native.Mathlib.Omega.{arith}
use borrow.Author.Tests.{ltb-true, ltb-false}
use lib.Dec.{ltb, eqb}
use lib.ListN.{length, take, drop, length-append}
use lib.Seq.{drop_at}
use Rattle.commands.specs.declared.command.Command.{Command}
use Rattle.commands.specs.Model.{Stepped}
use Rattle.sheet.specs.Words.{lent_step}
use Rattle.stream.specs.Responses.{line_response, answer_text}
use Rattle.stream.specs.Stream.{Held, held, pushed, byte_fed, feed_of, consumed_of, FedInto, fed_into, text_of, fed_by}
use Rattle.stream.specs.Calls.{CallsConsume}
use Rattle.stream.proofs.turns.AnswerLaws.{length_text}
use Rattle.stream.proofs.turns.FedLaws.{consumed_part}

-- the answer lines of the bytes that are consumed fit, and where a byte is left no further one does
record Used (room consumed count produced : ℕ) : Type 0 where
  fits : produced ≤ room
  full : consumed < count → room < produced + 43

module _ {room consumed count produced : ℕ} where
  used_byte : Used room consumed count produced → Used room (suc consumed) (suc count) produced
  used_byte u = record { fits = u.fits; full = λ lt. u.full (omega (arith, lt)) }

  used_line : 43 ≤ room → Used (room - 43) consumed count produced → Used room (suc consumed) (suc count) (43 + produced)
  used_line le u = record { fits = omega (arith, u.fits); full = λ lt. let f = u.full (omega (arith, lt)) in omega (arith, f, le) }

module _ {S : Type 0} (step : S → Command → Stepped S) where
  -- how many bytes are written
  abbrev put_by : Held S → List ℕ → ℕ
  put_by h l = length (feed_of step h l).text

  room_used : (l : List ℕ) (h : Held S) (room : ℕ) → Used room (consumed_of room l) (length l) (put_by h (take (consumed_of room l) l))
  unfolding consumed_of feed_of byte_fed
  room_used [] h room = record { fits = omega arith; full = λ lt. absurd (omega (arith, lt)) }
  room_used (b ∷ l) h room = go (ltb room 43) (eqb b 10) refl refl (room_used l)
    where
      go :
          (x y : Bool) → ltb room 43 ≡ x → eqb b 10 ≡ y
          → ((h' : Held S) (room' : ℕ) → Used room' (consumed_of room' l) (length l) (put_by h' (take (consumed_of room' l) l)))
          → Used room (consumed_of room (b ∷ l)) (length (b ∷ l)) (put_by h (take (consumed_of room (b ∷ l)) (b ∷ l)))
      go true y p q ih = rw p (record { fits = omega arith; full = λ lt. omega (arith, ltb-true room 43 p) })
      go false true p q ih =
          let o = line_response step h.state h.text in
          rw (p, q, length-append (answer_text o.answer) (feed_of step (held o.state []) (take (consumed_of (room - 43) l) l)).text, length_text o.answer)
          (used_line (ltb-false room 43 p) (ih (held o.state []) (room - 43)))
      go false false p q ih = rw (p, q) (used_byte (ih (held h.state (pushed h.text b)) room))

  module _ (h : Held S) (bytes before : List ℕ) (o : FedInto S) (e : o ≡ fed_into step h bytes before) where
    call_used : Used (length before) o.consumed (length bytes) o.produced
    unfolding fed_into
    call_used = rw e (room_used bytes h (length before))

    call_kept : drop o.produced o.out ≡ drop o.produced before
    unfolding fed_into
    call_kept =
        let text = (feed_of step h (take (consumed_of (length before) bytes) bytes)).text in
        rw e (drop_at text (drop (length text) before) (length text) refl)

pub calls_consume : CallsConsume
calls_consume w s c e =
    let h : Held (List ℕ) = held w (text_of s) in
    let o = fed_by c.words c.result c.after in
    let used = call_used lent_step h c.bytes c.before o e in
    record {
      part = consumed_part lent_step h c.bytes c.before o e;
      fits = used.fits;
      full = used.full;
      behind = call_kept lent_step h c.bytes c.before o e;
    }
