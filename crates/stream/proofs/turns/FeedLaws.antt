-- Feeding bytes, some at a time: what holds between two turns of the loop, by any way of doing one command. Assumes nothing.
use Prim.Native.Nat.{ℕ, ◌+◌, ◌-◌, min, ◌≤◌, ◌<◌}
use mathlib.Core.Bool.{Bool, true, false}
use mathlib.Core.Path.{◌≡◌, refl, sym, ap, ◌∙◌}
use mathlib.Core.List.{List, [], ◌∷◌, ◌++◌, append_assoc}
use native.Mathlib.Omega.{arith}
use native.Mathlib.Numerals.{add-one}
use borrow.Author.Tests.{lt-ltb, ne_eqb, leb-true, leb-false}
use lib.Dec.{leb}
use lib.ListN.{length, get_or, take, drop, set, length-append, length-drop, length-take, take-append-drop}
use lib.Seq.{take_all, take-suc-set, length-take-le, take_at, take-add, drop-append-add, drop-drop, drop-cons}
use Rattle.commands.specs.declared.command.Command.{Command}
use Rattle.commands.specs.Model.{Stepped}
use Rattle.stream.specs.Responses.{line_response, answer_text}
use Rattle.stream.specs.Stream.{Held, held, pushed, byte_fed, feed_of, consumed_of, fed_into}
use Rattle.stream.specs.Turns.{answered_at, Ends, IsByte}
use Rattle.stream.proofs.inputs.PieceLaws.{feed_append_held, feed_append_text}
use Rattle.stream.proofs.turns.ConsumedLaws.{consumed_byte, consumed_line}
use Rattle.stream.proofs.turns.EndLaws.{answered, line_fed}
use Rattle.stream.proofs.turns.AnswerLaws.{length_text}

-- ---- the bytes of a line that are held
pub take_min : (l : List ℕ) (n k : ℕ) → length l ≡ k → take (min n k) l ≡ take n l
take_min l n k e = go (leb n k) refl
  where
    go : (x : Bool) → leb n k ≡ x → take (min n k) l ≡ take n l
    go true h = let m : min n k ≡ n = omega (arith, leb-true n k h) in rw m
    go false h =
        let lt : k < n = leb-false n k h in
        let m : min n k ≡ k = omega arith in
        rw (m, take_all k l (omega arith), take_all n l (omega arith))

pub push_more : (l : List ℕ) (at b : ℕ) → length l ≡ 46 → at < 46 → take (at + 1) (set l at b) ≡ pushed (take at l) b
unfolding pushed
push_more l at b e h =
    let lt : at < length l = omega arith in
    let le : at ≤ length l = omega arith in
    rw (length-take-le at l le, lt-ltb _ _ h, add-one at, take-suc-set l at b lt)

pub push_full : (l : List ℕ) (at b : ℕ) → length l ≡ 46 → 46 ≤ at → take at l ≡ pushed (take at l) b
unfolding pushed
push_full l at b e h =
    let n : length (take at l) ≡ 46 = length-take at l ∙ omega arith in
    rw (n)

-- ---- what holds at the loop's test: i bytes are fed, their answers are produced, and as many bytes more are consumed as the room that is left allows
pub record Feeding {S : Type 0} (step : S → Command → Stepped S) (h : Held S) (bytes before out : List ℕ) (h' : Held S) (produced i : ℕ) : Type 0 where
  pub part : i ≤ length bytes
  pub fits : produced ≤ length before
  pub consumed : consumed_of (length before) bytes ≡ i + consumed_of (length before - produced) (drop i bytes)
  pub now_held : h' ≡ (feed_of step h (take i bytes)).held
  pub count : produced ≡ length (feed_of step h (take i bytes)).text
  pub text : out ≡ (feed_of step h (take i bytes)).text ++ drop produced before

pub length_feeding : {S : Type 0} {step : S → Command → Stepped S} {h h' : Held S} {bytes before out : List ℕ} {produced i : ℕ}
    → Feeding step h bytes before out h' produced i → length out ≡ length before
length_feeding {S} {step} {h} {h'} {bytes} {before} {out} {produced} {i} f =
    omega (arith, ap length f.text, length-append (feed_of step h (take i bytes)).text (drop produced before), length-drop produced before, f.fits, f.count)

text_more : (p q before out out'' : List ℕ) (produced produced'' : ℕ) → length p ≡ produced → out ≡ p ++ drop produced before → produced'' ≡ produced + length q
    → out'' ≡ take produced out ++ (q ++ drop produced'' out) → out'' ≡ (p ++ q) ++ drop produced'' before
text_more p q before out out'' produced produced'' l e c o =
    rw (o, e, c, take_at p (drop produced before) produced l, ← l, drop-append-add p (drop (length p) before) (length q), drop-drop (length q) (length p) before)
    (sym (append_assoc p q (drop (length p + length q) before)))

take_one : (l : List ℕ) (i : ℕ) → i < length l → take 1 (drop i l) ≡ get_or l i 0 ∷ []
take_one l i h = rw (drop-cons l i 0 h)

module _ {S : Type 0} (step : S → Command → Stepped S) (h : Held S) (bytes before : List ℕ) where
  pub feeding_none : Feeding step h bytes before before h 0 0
  unfolding feed_of
  feeding_none =
      let z : length before - 0 ≡ length before = omega arith in
      record { part = omega arith; fits = omega arith; consumed = rw z (omega arith); now_held = refl; count = refl; text = refl }

  module _ (out : List ℕ) (h' : Held S) (produced i : ℕ) (f : Feeding step h bytes before out h' produced i) where
    -- no byte more is consumed
    pub feeding_all : consumed_of (length before - produced) (drop i bytes) ≡ 0 → record { held = h'; consumed = i; produced = produced; out = out } ≡ fed_into step h bytes before
    unfolding fed_into
    feeding_all z =
        let t : consumed_of (length before) bytes ≡ i = f.consumed ∙ omega (arith, z) in
        rw (t, f.text, f.now_held, ← f.count)

    -- k bytes more, which wrote q
    feeding_more :
        (k : ℕ) (out'' : List ℕ) (h'' : Held S) (q : List ℕ)
        → i + k ≤ length bytes
        → produced + length q ≤ length before
        → consumed_of (length before - produced) (drop i bytes) ≡ k + consumed_of (length before - (produced + length q)) (drop (i + k) bytes)
        → feed_of step h' (take k (drop i bytes)) ≡ record { held = h''; text = q }
        → out'' ≡ take produced out ++ (q ++ drop (produced + length q) out)
        → Feeding step h bytes before out'' h'' (produced + length q) (i + k)
    feeding_more k out'' h'' q le lt t e o =
        let first = feed_of step h (take i bytes) in
        let a : take (i + k) bytes ≡ take i bytes ++ take k (drop i bytes) = take-add i k bytes in
        let hd : (feed_of step h (take (i + k) bytes)).held ≡ h'' = rw (a, feed_append_held step h (take i bytes) (take k (drop i bytes)), ← f.now_held, e) in
        let tx : (feed_of step h (take (i + k) bytes)).text ≡ first.text ++ q =
        rw (a, feed_append_text step h (take i bytes) (take k (drop i bytes)), ← f.now_held, e) in
        record {
          part = le;
          fits = lt;
          consumed = omega (arith, f.consumed, t);
          now_held = sym hd;
          count = rw tx (omega (arith, f.count, length-append first.text q));
          text = rw tx (text_more first.text q before out out'' produced (produced + length q) (sym f.count) f.text refl o);
        }

  -- the end of a line, and its answer line
  pub feeding_line :
      (out : List ℕ) (s : S) (text : List ℕ) (produced i consumed : ℕ) (rest : List ℕ) (o : Stepped S) (out'' : List ℕ)
      → Feeding step h bytes before out (held s text) produced i
      → Ends bytes i consumed rest
      → length text + length rest ≤ 46
      → produced + 43 ≤ length before
      → line_response step s (text ++ rest) ≡ o
      → out'' ≡ answered_at produced o.answer out
      → Feeding step h bytes before out'' (held o.state []) (produced + 43) (i + consumed)
  feeding_line out s text produced i consumed rest o out'' f r short lt e w =
      let n : length (answer_text o.answer) ≡ 43 = length_text o.answer in
      let p : produced + 43 ≡ produced + length (answer_text o.answer) = omega arith in
      let room : length before - produced - 43 ≡ length before - (produced + length (answer_text o.answer)) = omega arith in
      rw p
      (feeding_more out (held s text) produced i f consumed out'' (held o.state []) (answer_text o.answer) r.part (omega arith)
      (rw (← room) (consumed_line (length before - produced) (omega arith) bytes i consumed rest r))
      (rw r.next (line_fed step s text rest r.no_line_feed short ∙ ap answered e))
      (rw (← p) w))

  -- a byte of a line that has not ended
  pub feeding_byte :
      (out : List ℕ) (s : S) (text text'' : List ℕ) (produced i b : ℕ)
      → Feeding step h bytes before out (held s text) produced i
      → i < length bytes
      → IsByte bytes i b
      → produced + 43 ≤ length before
      → text'' ≡ pushed text b
      → Feeding step h bytes before out (held s text'') produced (i + 1)
  unfolding feed_of byte_fed
  feeding_byte out s text text'' produced i b f lb r lt e =
      let z : produced + length {A = ℕ} [] ≡ produced = omega arith in
      let ne : get_or bytes i 0 ≡ 10 → ⊥ = λ q. r.other (r.byte ∙ q) in
      rw z at
      (feeding_more out (held s text) produced i f 1 out (held s text'') [] (omega arith) (omega (arith, f.fits))
      (rw z (consumed_byte (length before - produced) (omega arith) bytes i lb ne))
      (rw (take_one bytes i lb, ne_eqb _ _ ne, e, r.byte))
      (rw z (sym (take-append-drop produced out))))
