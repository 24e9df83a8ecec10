-- What a read answers, and the bytes of all reads, one after another. Assumes nothing.
use Prim.Native.Nat.{ℕ, zero, suc, ◌+◌, ◌*◌, ◌≤◌, ◌<◌}
use mathlib.Core.Bool.{Bool, true, false}
use mathlib.Core.Path.{◌≡◌, refl, sym, ap, ◌∙◌}
use mathlib.Core.List.{List, [], ◌++◌}
use native.Mathlib.Omega.{arith}
use lib.ListN.{length, take, length-append}
use lib.Seq.{length-take-le, take-take}
use Rattle.std.proofs.lemmas.Result.{IfOk-from_err}
use Rattle.std.specs.Prelude.{Option, Result, Ok, Err, IsErr}
use Rattle.commands.specs.declared.codes.Refusal.{Refusal}
use Rattle.bench.specs.Counts.{Moved, clamp_len}
use Rattle.sheet.specs.Words.{lent_step}
use Rattle.stream.specs.Stream.{Held, text_of, feed_of, EndedInto, ended_of}
use Rattle.stream.proofs.inputs.PieceLaws.{feed_append_held}
use Rattle.bench.specs.declared.answer.Session.{Session}
use Rattle.bench.specs.declared.standard.Failure.{Failure}
use Rattle.bench.specs.declared.standard.Failure.TheVariants.{Writing}
use Rattle.bench.specs.Feeding.{most, held_by, AllFed, status_of, consumed_by, LastHanded, GotFed, ReadFed, InputFed}

-- ---- what is done with the answer of a read
-- nothing, where it failed
pub got_failed : (got : Result ℕ Failure) (e : Failure) (chunk : List ℕ) (s : Session) (r : Result ℕ Failure) → got ≡ Err e → r ≡ Err e → GotFed (held_by s) got chunk s r
unfolding status_of feed_of
got_failed got e chunk s r g q = rw g (record { written = true; status = q; all = λ n. refl; fed = refl })

module _ (h : Held (List ℕ)) (got : Result ℕ Failure) (n : ℕ) (chunk : List ℕ) (s : Session) (r : Result ℕ Failure) (g : got ≡ Ok n) (m : Moved (length chunk) got) where
  brought : length (take n chunk) ≡ n
  brought = length-take-le n chunk (rw g at m)

  -- the first n bytes of the chunk are answered, all of them
  pub got_all : r ≡ Ok n → AllFed h (take n chunk) s (Ok tt) → GotFed h got chunk s r
  unfolding status_of
  got_all q f =
      let le : n ≤ length chunk = rw g at m in
      rw g
      (record {
        written = true;
        status = q ∙ status n;
        all = λ _. omega (arith, f.all, brought, le);
        fed = f.fed ∙ ap (λ (l : List ℕ). (feed_of lent_step h l).held) (take-take s.consumed n chunk (omega (arith, f.part, brought)));
      })
    where
      status : (n : ℕ) → Ok n ≡ status_of (Ok n) true
      status zero = refl
      status (suc k) = refl

  -- or up to a write that failed
  pub got_some : (e : Failure) → r ≡ Err e → AllFed h (take n chunk) s (Err e) → GotFed h got chunk s r
  unfolding status_of
  got_some e q f =
      let writing : r ≡ Err Writing = q ∙ ap Err f.failed.0 in
      rw g
      (record {
        written = false;
        status = writing ∙ status n (omega (arith, f.failed.1, brought));
        all = λ o. absurd (o writing);
        fed = f.fed ∙ ap (λ (l : List ℕ). (feed_of lent_step h l).held) (take-take s.consumed n chunk (omega (arith, f.part, brought)));
      })
    where
      status : (n : ℕ) → 0 < n → Err Writing ≡ status_of (Ok n) false
      status zero lt = absurd (omega (arith, lt))
      status (suc k) lt = refl

-- how many bytes it told, where it did not fail
got_told : (got : Result ℕ Failure) (written : Bool) (n m : ℕ) → Ok n ≡ status_of got written → Moved m got → (clamp_len got m ≡ n) × (n ≤ m)
unfolding status_of
got_told (Err e) written n m q v = absurd (cc)
got_told (Ok zero) written n m q v = let z : n ≡ 0 = cc in (omega (arith, z), omega (arith, z))
got_told (Ok (suc k)) true n m q v = let z : n ≡ suc k = cc in (omega (arith, z, v), omega (arith, z, v))
got_told (Ok (suc k)) false n m q v = absurd (cc)

-- ---- the bytes of all reads: at least one, and no more than the chunk has room for, each time
pub record Fed (h : Held (List ℕ)) (s : Session) (reads : ℕ) : Type 0 where
  pub input : List ℕ
  pub is_fed : held_by s ≡ (feed_of lent_step h input).held
  pub least : reads ≤ length input
  pub most_bytes : length input ≤ reads * most

pub nothing_read : (s : Session) → Fed (held_by s) s 0
unfolding feed_of
nothing_read s = record { input = []; is_fed = refl; least = omega arith; most_bytes = omega arith }

module _ {h : Held (List ℕ)} {s t : Session} {chunk : List ℕ} {reads : ℕ} {r : Result ℕ Failure} (f : Fed h s reads) (d : ReadFed (held_by s) chunk t r) where
  -- the bytes of one read more, those that were consumed
  abbrev pub joined : List ℕ
  joined = f.input ++ take (consumed_by d.got t) chunk

  pub joined_fed : held_by t ≡ (feed_of lent_step h joined).held
  joined_fed =
      d.answered.fed ∙ ap (λ (x : Held (List ℕ)). (feed_of lent_step x (take (consumed_by d.got t) chunk)).held) f.is_fed
      ∙ sym (feed_append_held lent_step h f.input (take (consumed_by d.got t) chunk))

  -- so many, where it did not fail
  joined_length : (n : ℕ) → r ≡ Ok n → (length joined ≡ length f.input + n) × (n ≤ length chunk)
  joined_length n e =
      let g = d.answered in
      let told = got_told d.got g.written n (length chunk) (sym e ∙ g.status) d.moved in
      let all : consumed_by d.got t ≡ clamp_len d.got (length chunk) = g.all (λ q. cc) in
      let size : length (take (consumed_by d.got t) chunk) ≡ consumed_by d.got t = length-take-le (consumed_by d.got t) chunk (omega (arith, all, told.0, told.1)) in
      (omega (arith, length-append f.input (take (consumed_by d.got t) chunk), size, all, told.0), told.1)

  pub read_more : (n : ℕ) → r ≡ Ok n → (n ≡ 0 → ⊥) → length chunk ≤ most → Fed h t (reads + 1)
  read_more n e some room =
      let l = joined_length n e in
      record { input = joined; is_fed = joined_fed; least = omega (arith, f.least, l.0, some); most_bytes = omega (arith, f.most_bytes, l.0, l.1, room) }

  -- and where the input has ended, none
  pub read_ended : r ≡ Ok 0 → Fed h t reads
  read_ended e =
      let l = joined_length 0 e in
      record { input = joined; is_fed = joined_fed; least = omega (arith, f.least, l.0); most_bytes = omega (arith, f.most_bytes, l.0) }

  -- the input is left there, on a failure of the read or of what comes after it
  pub input_left : (u : Session) (q : Result ℕ Failure) → held_by u ≡ held_by t → IsErr q → InputFed h u q
  input_left u q kept e =
      record {
        input = joined;
        fed = kept ∙ joined_fed;
        least_read = IfOk-from_err q (λ reads. reads ≤ length joined) e;
        most_read = IfOk-from_err q (λ reads. length joined ≤ reads * most) e;
        before_end = [];
        last = IfOk-from_err q (λ _. _) e;
      }

  -- its end: the answer of the bytes that are left lies in the lent ones
  pub input_ended : (u : Session) (before : List ℕ) (q : Result (Option Refusal) Failure) → r ≡ Ok 0 → held_by u ≡ held_by t → LastHanded (text_of t.stream) before u q → InputFed h u (Ok reads)
  input_ended u before q e kept l =
      let f = read_ended e in
      record {
        input = f.input;
        fed = kept ∙ f.is_fed;
        least_read = f.least;
        most_read = f.most_bytes;
        before_end = before;
        last = ap (λ (x : EndedInto). x.bytes) l.last ∙ ap (λ (x : Held (List ℕ)). (ended_of x.text before).bytes) (sym kept);
      }
