-- What the program does with the bytes that it reads: the stream consumes all of them, in order
-- and once, and the answers that they give are handed over (document 01, "Lines": "The program
-- reads standard input and answers each line, refused ones included"). No contract can say what
-- was read or written: the bytes of a read are those that lie in the chunk after it, and of a
-- write it can be said how many bytes of which answers `write_all` was given.
use Rattle.std.specs.Prelude.{ℕ, zero, suc, ◌+◌, ◌*◌, ◌<◌, ◌≤◌, ◌≡◌, Bool, cond, List, length, take, Option, Result, Ok, Err, IfOk, IfErr, OnOk, IsOkUnless}
use Rattle.bench.specs.Counts.{Moved, clamp_len}
use Rattle.commands.specs.declared.codes.Refusal.{Refusal}
use Rattle.sheet.specs.Words.{lent_step}
use Rattle.stream.specs.Stream.{Held, held, text_of, feed_of, FedInto, EndedInto, ended_of, told as told_number}
use Rattle.bench.specs.declared.answer.Session.{Session}
use Rattle.bench.specs.declared.standard.Failure.{Failure}
use Rattle.bench.specs.declared.standard.Failure.TheVariants.{Writing}

-- the most bytes of one read
abbrev pub most : ℕ
most = 65536

-- the sheet and the bytes that a session holds
abbrev pub held_by : Session → Held (List ℕ)
held_by s = held s.state (text_of s.stream)

-- what calls of `feed` have come to, whose answers were handed over: as many bytes as they produced
abbrev pub handed_by : Session → FedInto (List ℕ)
handed_by s = record { held = held_by s; consumed = s.consumed; produced = s.handed; out = s.out }

-- and with one call more
abbrev pub handed_more : Session → FedInto (List ℕ) → FedInto (List ℕ)
handed_more s o = record { held = o.held; consumed = s.consumed + o.consumed; produced = s.handed + o.produced; out = o.out }

-- what a call of `ended` has come to, whose answer was handed over, and its refusal
abbrev pub last_by : Session → ℕ → EndedInto
last_by s refusal = record { bytes = s.out; produced = s.handed; refusal = refusal }

-- the bytes up to the last that was consumed are fed and their answers handed over; these are all
-- the bytes, unless a write failed, which it does only where there are bytes
pub record AllFed (h : Held (List ℕ)) (bytes : List ℕ) (s : Session) (r : Result (Unit {0}) Failure) : Type 0 where
  pub part : s.consumed ≤ length bytes
  pub all : OnOk r (s.consumed ≡ length bytes)
  pub fed : held_by s ≡ (feed_of lent_step h (take s.consumed bytes)).held
  pub handed : s.handed ≡ length (feed_of lent_step h (take s.consumed bytes)).text
  pub failed : IfErr r (λ e. (e ≡ Writing) × (0 < length bytes))

-- the end of the input: its answer lies in the lent bytes and is handed over, and its refusal is
-- told, unless the write failed
pub record LastHanded (text out : List ℕ) (s : Session) (r : Result (Option Refusal) Failure) : Type 0 where
  pub last : last_by s (ended_of text out).refusal ≡ ended_of text out
  pub told : IfOk r (λ refusal. told_number refusal ≡ (ended_of text out).refusal)
  pub failed : IsOkUnless r Writing

-- a read that failed ends the answering with its failure, one of no byte is the end of the input,
-- and after any other there is more to read, unless a write failed
unfoldable pub status_of : Result ℕ Failure → Bool → Result ℕ Failure
status_of (Err e) written = Err e
status_of (Ok zero) written = Ok 0
status_of (Ok (suc k)) written = cond written (Ok (suc k)) (Err Writing)

-- how many bytes of the chunk were consumed: none of them where the read failed
abbrev pub consumed_by : Result ℕ Failure → Session → ℕ
consumed_by (Ok k) s = s.consumed
consumed_by (Err e) s = 0

-- what is done with the answer of a read, `got`: so many bytes at the start of the chunk are fed,
-- all of them unless a write failed
pub record GotFed (h : Held (List ℕ)) (got : Result ℕ Failure) (chunk : List ℕ) (s : Session) (r : Result ℕ Failure) : Type 0 where
  pub written : Bool
  pub status : r ≡ status_of got written
  pub all : (r ≡ Err Writing → ⊥) → consumed_by got s ≡ clamp_len got (length chunk)
  pub fed : held_by s ≡ (feed_of lent_step h (take (consumed_by got s) chunk)).held

-- the same of what `read` may answer: that it failed, or how many bytes it has put to the start of
-- the chunk
pub record ReadFed (h : Held (List ℕ)) (chunk : List ℕ) (s : Session) (r : Result ℕ Failure) : Type 0 where
  pub got : Result ℕ Failure
  pub moved : Moved (length chunk) got
  pub answered : GotFed h got chunk s r

-- the whole input, from what is held: the bytes of all reads, one after another, each of which
-- brought at least one; at the end the answer of the bytes that are left lies at the start of the
-- lent bytes
pub record InputFed (h : Held (List ℕ)) (s : Session) (r : Result ℕ Failure) : Type 0 where
  pub input : List ℕ
  pub fed : held_by s ≡ (feed_of lent_step h input).held
  pub least_read : IfOk r (λ reads. reads ≤ length input)
  pub most_read : IfOk r (λ reads. length input ≤ reads * most)
  pub before_end : List ℕ
  pub last : OnOk r (s.out ≡ (ended_of (text_of s.stream) before_end).bytes)
