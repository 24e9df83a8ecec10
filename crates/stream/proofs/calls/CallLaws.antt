-- Calls one after another write the answer lines of the bytes that they consume. Assumes nothing.
use Prim.Native.Nat.{ℕ, ◌≤◌}
use mathlib.Core.Bool.{Bool, true, false, cond}
use mathlib.Core.Path.{◌≡◌, refl, sym, ap, ◌∙◌, subst}
use mathlib.Core.List.{List, [], ◌++◌, append_assoc}
use borrow.Author.Tests.{eq-eqb, ne_eqb}
use lib.Dec.{eqb, ltb}
use lib.ListN.{length, take, drop}
use lib.Seq.{take_at}
use Rattle.std.specs.Prelude.{Option, Some, None}
use Rattle.commands.specs.declared.codes.Refusal.{Refusal}
use Rattle.commands.specs.declared.codes.Refusal.TheVariants.{IllFormed, UnknownCommand, RowOutside, UnfitSource, ValueOutside, ResultInfinite, DirectionMissing, AllReflected, LentTooShort, HistoryEmpty, LineParallel}
use Rattle.commands.specs.declared.command.Command.{Command}
use Rattle.commands.specs.Codes.{ill_formed, lent_too_short}
use Rattle.commands.specs.Rows.{State}
use Rattle.commands.specs.Answers.{refused}
use Rattle.commands.specs.Model.{Stepped}
use Rattle.commands.specs.Claim.{Claim}
use Rattle.commands.proofs.ClaimLaws.{model_claim}
use Rattle.sheet.specs.Words.{state_words, model_of, fresh_words, lent_step}
use Rattle.stream.specs.declared.Stream.{Stream}
use Rattle.stream.specs.Stream.{Held, held, feed_of, consumed_of, FedInto, fed_into, text_of, fed_by, end_of, EndedInto, ended_of, told, ended_by}
use Rattle.stream.specs.Responses.{answer_text}
use Rattle.stream.specs.Inputs.{cut, commands_in, Answered}
use Rattle.stream.specs.Calls.{Calls, feed, short, ended, CallsAnswered, FreshAnswered, FreshCallsAnswered}
use Rattle.sheet.proofs.words.WordLaws.{zeros_long, zeros_fresh}
use Rattle.stream.proofs.turns.AnswerLaws.{length_text}
use Rattle.stream.proofs.inputs.PieceLaws.{feed_append_held, feed_append_text}
use Rattle.stream.proofs.inputs.InputLaws.{inputs_answered}
use Rattle.stream.proofs.inputs.LentFeedLaws.{lent_as_model}

-- what an input comes to, by any way of doing one command: what is written, with the answer line of its end, and the state after it
pub record AllFed {S : Type 0} (step : S → Command → Stepped S) (h : Held S) (input output : List ℕ) (end : S) : Type 0 where
  pub text : output ≡ (feed_of step h input).text ++ end_of (feed_of step h input).held.text
  pub state : end ≡ (feed_of step h input).held.state

-- ---- one call
-- `feed` leaves what the bytes that it consumes come to, and writes their answer lines
module _ {S : Type 0} (step : S → Command → Stepped S) (h : Held S) (bytes before : List ℕ) (o : FedInto S) (e : o ≡ fed_into step h bytes before) where
  fed_held : o.held ≡ (feed_of step h (take o.consumed bytes)).held
  unfolding fed_into
  fed_held = rw e refl

  fed_text : take o.produced o.out ≡ (feed_of step h (take o.consumed bytes)).text
  unfolding fed_into
  fed_text =
      let text = (feed_of step h (take (consumed_of (length before) bytes) bytes)).text in
      rw e (take_at text (drop (length text) before) (length text) refl)

  -- and the rest of the input comes behind them
  fed_more : (input output : List ℕ) (end : S) → AllFed step o.held input output end
      → AllFed step h (take o.consumed bytes ++ input) (take o.produced o.out ++ output) end
  fed_more input output end f =
      let l = take o.consumed bytes in
      let rest = feed_of step o.held input in
      record {
        text =
            rw (feed_append_held step h l input, feed_append_text step h l input, ← fed_held, ← fed_text, f.text)
            (sym (append_assoc (take o.produced o.out) rest.text (end_of rest.held.text)));
        state = rw (feed_append_held step h l input, ← fed_held) f.state;
      }

-- `ended` writes the answer line of the bytes that are left, or nothing where 9 refuses it
module _ (text before : List ℕ) (o : EndedInto) (e : o ≡ ended_of text before) where
  ended_text : take o.produced o.bytes ≡ cond (eqb o.refusal lent_too_short) [] (end_of text)
  unfolding ended_of end_of
  ended_text = go (eqb (length text) 0) (ltb (length before) 43) refl refl
    where
      go : (x y : Bool) → eqb (length text) 0 ≡ x → ltb (length before) 43 ≡ y → take o.produced o.bytes ≡ cond (eqb o.refusal lent_too_short) [] (end_of text)
      go true y p q = rw (e, p) refl
      go false true p q = rw (e, p, q) refl
      go false false p q = rw (e, p, q) (take_at (answer_text (refused ill_formed)) (drop 43 before) 43 (length_text (refused ill_formed)))

  ended_short : o.refusal ≡ lent_too_short → take o.produced o.bytes ≡ []
  ended_short k = rw (eq-eqb _ _ k) at ended_text

  ended_last : (o.refusal ≡ lent_too_short → ⊥) → take o.produced o.bytes ≡ end_of text
  ended_last k = rw (ne_eqb _ _ k) at ended_text

-- the refusal that has the number 9
told_short : (r : Option Refusal) → told r ≡ lent_too_short → r ≡ Some LentTooShort
told_short None e = cc
told_short (Some IllFormed) e = cc
told_short (Some UnknownCommand) e = cc
told_short (Some RowOutside) e = cc
told_short (Some UnfitSource) e = cc
told_short (Some ValueOutside) e = cc
told_short (Some ResultInfinite) e = cc
told_short (Some DirectionMissing) e = cc
told_short (Some AllReflected) e = cc
told_short (Some LentTooShort) e = refl
told_short (Some HistoryEmpty) e = cc
told_short (Some LineParallel) e = cc

-- ---- calls one after another
calls_fed : {w : List ℕ} {s : Stream} {input output w' : List ℕ} → Calls w s input output w' → AllFed lent_step (held w (text_of s)) input output w'
unfolding feed_of
calls_fed {w} {s} {w' = w'} (feed {input = input} {output = output} c e r) =
    fed_more lent_step (held w (text_of s)) c.bytes c.before (fed_by c.words c.result c.after) e input output w' (calls_fed r)
calls_fed {s = s} (short c e k r) = rw (ended_short (text_of s) c.before (ended_by c.result c.after) e (ap told k)) (calls_fed r)
calls_fed {s = s} (ended c e k) = record { text = ended_last (text_of s) c.before (ended_by c.result c.after) e (λ q. k (told_short c.result.refusal q)); state = refl }

-- ---- demand 3
module _ (w input output w' : List ℕ) (f : AllFed lent_step (held w []) input output w') where
  pub fed_answered : state_words ≤ length w → Answered (model_of w) input output (model_of w')
  fed_answered l =
      let m = lent_as_model w [] input l in
      let a = inputs_answered (model_of w) input in
      record {
        run = a.run;
        claim = subst (λ (x : State). Claim (model_of w) (commands_in (cut input).lines) a.run x) (sym (ap model_of f.state ∙ m.same_state)) a.claim;
        written = rw (f.text, m.same_text, m.same_held) a.written;
      }

pub fresh_fed_answered : (behind input output w' : List ℕ) → AllFed lent_step (held (fresh_words behind) []) input output w' → FreshAnswered input output w'
fresh_fed_answered behind input output w' f =
    let any = fed_answered (fresh_words behind) input output w' f (zeros_long behind) in
    let a = subst (λ (x : State). Answered x input output (model_of w')) (zeros_fresh behind) any in
    record { answered = a; sound = a.claim.sound model_claim.fresh_sound; well = a.claim.well model_claim.fresh_sound }

-- of calls, by a stream that holds no byte
calls_all : (w : List ℕ) (s : Stream) (input output w' : List ℕ) → text_of s ≡ [] → Calls w s input output w' → AllFed lent_step (held w []) input output w'
calls_all w s input output w' none c = subst (λ (t : List ℕ). AllFed lent_step (held w t) input output w') none (calls_fed c)

pub calls_answered : CallsAnswered
calls_answered w s input output w' l none c = fed_answered w input output w' (calls_all w s input output w' none c) l

pub fresh_calls_answered : FreshCallsAnswered
fresh_calls_answered behind s input output w' none c = fresh_fed_answered behind input output w' (calls_all (fresh_words behind) s input output w' none c)
