-- What one turn of the loop leaves, on lent words. Assumes nothing.
use Prim.Native.Nat.{ℕ, ◌+◌, ◌-◌, ◌≤◌, ◌<◌}
use mathlib.Core.Bool.{Bool, true, false}
use mathlib.Core.Path.{◌≡◌, refl, sym, ap, ◌∙◌}
use mathlib.Core.List.{List, [], ◌++◌, append-nil}
use Rattle.std.specs.Prelude.{None as none, Some as some}
use native.Mathlib.Omega.{arith}
use borrow.Author.Tests.{le-ltb, leb-true, leb-false}
use lib.Dec.{leb}
use lib.ListN.{length, take, drop, set, length-append, length-drop, length-set, length-take}
use lib.Seq.{sets, sets-eq}
use Rattle.commands.specs.declared.command.Command.{Command}
use Rattle.commands.specs.Answers.{ModelAnswer, refused, numbers_of}
use Rattle.commands.specs.Model.{stepped}
use Rattle.sheet.specs.Words.{lent_step}
use Rattle.commands.specs.Fields.{command_of}
use Rattle.sheet.specs.Run.{SteppedAt, stepped_at, lent_step_at}
use Rattle.lines.specs.CommandLine.{numbers}
use Rattle.lines.proofs.columns.CommandLineLaws.{length_none}
use Rattle.stream.specs.Responses.{response}
use Rattle.stream.specs.Stream.{Held, held, consumed_of, fed_into}
use Rattle.stream.specs.Turns.{answered_at, answer_from, IsRun, IsIll, IsByte}
use Rattle.stream.proofs.turns.ConsumedLaws.{consumed_short, consumed_none}
use Rattle.stream.proofs.turns.HearLaws.{end_next}
use Rattle.stream.proofs.turns.FeedLaws.{Feeding, length_feeding, feeding_none, feeding_all, feeding_line, feeding_byte, push_more, push_full}

-- ---- what `step_at` leaves in six places
answer_put : (six : List ℕ) (x : ModelAnswer) → length six ≡ 6 → answer_from (sets six 0 (numbers_of x)) ≡ x
answer_put six x n = rw (sets-eq (numbers_of x) six 0 (omega arith))

pub step_answered : (w w' six six' : List ℕ) (c : Command) (k : ℕ) → length six ≡ 6 → stepped_at w' six' k ≡ lent_step_at w c six 0 → stepped w' (answer_from six') ≡ lent_step w c
unfolding lent_step_at
step_answered w w' six six' c k n e =
    let d : stepped_at w' six' k ≡ stepped_at (lent_step w c).state (sets six 0 (numbers_of (lent_step w c).answer)) (lent_step w c).answer.refusal =
    e ∙ rw (le-ltb (length six) 6 (omega arith)) refl in
    ap (λ (o : SteppedAt). stepped o.state (answer_from o.out)) d ∙ ap (stepped (lent_step w c).state) (answer_put six (lent_step w c).answer n)

-- a line that gives numbers is not long
line_short : (l ns : List ℕ) → numbers l ≡ some ns → length l ≤ 46
line_short l ns e = go (leb (length l) 46) refl
  where
    go : (x : Bool) → leb (length l) 46 ≡ x → length l ≤ 46
    go true h = leb-true _ _ h
    go false h =
        let lt : 46 < length l = leb-false _ _ h in
        let n : numbers l ≡ none = length_none l (λ q. omega (arith, q, lt)) in
        let z : ◌≡◌ {A = ℕ} 0 1 = cc in
        omega arith

-- ---- what holds at the loop's test, of the words that are lent and the held line that the loop owns
pub record Turning (h : Held (List ℕ)) (bytes before out : List ℕ) (size : ℕ) (w line : List ℕ) (len produced i : ℕ) : Type 0 where
  pub fed : Feeding lent_step h bytes before out (held w (take len line)) produced i
  pub short : len ≤ 46
  pub long : length line ≡ 46
  pub lent : length w ≡ size

pub turning_none : (bytes before w line : List ℕ) (len : ℕ) → len ≤ 46 → length line ≡ 46 → Turning (held w (take len line)) bytes before before (length w) w line len 0 0
turning_none bytes before w line len p q = record { fed = feeding_none lent_step (held w (take len line)) bytes before; short = p; long = q; lent = refl }

-- at the end, where no answer line has room or no byte is left
module _
    {w₀ text text₀ bytes before out : List ℕ} {size : ℕ} {w line : List ℕ} {len produced i : ℕ} (t : Turning (held w₀ text) bytes before out size w line len produced i) (e : text ≡ text₀) where
  turned : consumed_of (length before - produced) (drop i bytes) ≡ 0 → record { held = held w (take len line); consumed = i; produced = produced; out = out } ≡ fed_into lent_step (held w₀ text₀) bytes before
  turned z = feeding_all lent_step (held w₀ text) bytes before out (held w (take len line)) produced i t.fed z ∙ ap (λ (x : List ℕ). fed_into lent_step (held w₀ x) bytes before) e

  pub turned_full : length out - produced < 43 → record { held = held w (take len line); consumed = i; produced = produced; out = out } ≡ fed_into lent_step (held w₀ text₀) bytes before
  turned_full h = turned (consumed_short (length before - produced) (drop i bytes) (omega (arith, h, length_feeding t.fed)))

  pub turned_all : length bytes ≤ i → record { held = held w (take len line); consumed = i; produced = produced; out = out } ≡ fed_into lent_step (held w₀ text₀) bytes before
  turned_all h = turned (consumed_none (length before - produced) (drop i bytes) (omega (arith, h, length-drop i bytes)))

module _
    {h : Held (List ℕ)} {bytes before out : List ℕ} {size : ℕ} {w line : List ℕ} {len produced i : ℕ} (t : Turning h bytes before out size w line len produced i)
    (left : 43 ≤ length out - produced) where
  room : produced + 43 ≤ length before
  room = omega (arith, left, t.fed.fits, length_feeding t.fed)

  -- a line that gives a command
  pub turn_run : {f : List ℕ} {consumed : ℕ} → IsRun bytes i (take len line) f consumed → (w'' : List ℕ) (x : ModelAnswer) (out'' : List ℕ) → length w'' ≡ length w
      → stepped w'' x ≡ lent_step w (command_of f)
      → out'' ≡ answered_at produced x out
      → Turning h bytes before out'' size w'' line 0 (produced + 43) (i + consumed)
  unfolding response
  turn_run {f} {consumed} r w'' x out'' l p o =
      let n : length (take len line) + length r.rest ≤ 46 = omega (arith, length-append (take len line) r.rest, line_short (take len line ++ r.rest) f r.line) in
      record {
        fed = feeding_line lent_step h bytes before out w (take len line) produced i consumed r.rest (stepped w'' x) out'' t.fed r.ends n room (ap (response lent_step w) r.line ∙ sym p) o;
        short = omega arith;
        long = t.long;
        lent = l ∙ t.lent;
      }

  module _ (next : i < length bytes) where
    -- an ill formed one
    pub turn_ill : IsIll bytes i (take len line) → (out'' : List ℕ) → out'' ≡ answered_at produced (refused 1) out → Turning h bytes before out'' size w line 0 (produced + 43) (i + 1)
    unfolding response
    turn_ill r out'' o =
        let n : length (take len line) + length {A = ℕ} [] ≤ 46 = omega (arith, length-take len line, t.short) in
        record {
          fed =
              feeding_line lent_step h bytes before out w (take len line) produced i 1 [] (stepped w (refused 1)) out'' t.fed (end_next bytes i next r.at_line_feed) n room
              (rw (append-nil (take len line)) (ap (response lent_step w) r.no_numbers)) o;
          short = omega arith;
          long = t.long;
          lent = t.lent;
        }

    -- a byte of a line, and one past the 46 that are held
    pub turn_push : (b : ℕ) → IsByte bytes i b → len < 46 → Turning h bytes before out size w (set line len b) (len + 1) produced (i + 1)
    turn_push b r lt =
        record {
          fed = feeding_byte lent_step h bytes before out w (take len line) (take (len + 1) (set line len b)) produced i b t.fed next r room (push_more line len b t.long lt);
          short = omega arith;
          long = length-set line len b ∙ t.long;
          lent = t.lent;
        }

    pub turn_full : (b : ℕ) → IsByte bytes i b → 46 ≤ len → Turning h bytes before out size w line len produced (i + 1)
    turn_full b r le =
        record {
          fed = feeding_byte lent_step h bytes before out w (take len line) (take len line) produced i b t.fed next r room (push_full line len b t.long le);
          short = t.short;
          long = t.long;
          lent = t.lent;
        }
