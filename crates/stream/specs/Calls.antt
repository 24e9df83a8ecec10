-- The calls for an input, however its caller cuts it: `feed`, one call after another, and `ended`. What they write is the answer line of each line, by demand 3's
-- claim of the list of commands that the lines give (document 01, "Lines": "The program reads standard input and answers each line, refused ones included; input
-- without bytes gives no output").
use Rattle.std.specs.Prelude.{ℕ, ◌+◌, ◌≤◌, ◌<◌, ◌≡◌, Some, List, [], ◌++◌, length, take, drop}
use Rattle.commands.specs.declared.codes.Refusal.TheVariants.{LentTooShort}
use Rattle.commands.specs.Rows.{fresh}
use Rattle.commands.specs.Claim.{Sound, AllWell}
use Rattle.sheet.specs.Words.{state_words, model_of, fresh_words}
use Rattle.lines.specs.AnswerLine.{answer_length}
use Rattle.stream.specs.declared.Stream.{Stream}
use Rattle.stream.specs.declared.feed.Progress.{Progress}
use Rattle.stream.specs.declared.feed.Ended.{Ended}
use Rattle.stream.specs.Stream.{text_of, Feeds, EndsInput}
use Rattle.stream.specs.Inputs.{cut, commands_in, Answered}

-- ---- one call
-- of `feed`: the bytes that it is handed and the lent bytes before it; its result, and the words and the lent bytes after it
pub record FeedCall : Type 0 where
  pub bytes : List ℕ
  pub before : List ℕ
  pub result : Progress
  pub words : List ℕ
  pub after : List ℕ

-- of `ended`: the lent bytes before it; its result, and the lent bytes after it
pub record EndCall : Type 0 where
  pub before : List ℕ
  pub result : Ended
  pub after : List ℕ

-- their contracts, on words and a stream
abbrev pub FeedKept : List ℕ → Stream → FeedCall → Type 0
FeedKept w s c = Feeds w s c.bytes c.before c.result c.words c.after

abbrev pub EndKept : Stream → EndCall → Type 0
EndKept s c = EndsInput s c.before c.result c.after

-- ---- calls one after another, each on the words and the stream that the last one left
-- `Calls w s input output w'` goes from the words w and the stream s to the words w'. The input is the bytes that the calls consume, in order: what a call
-- leaves of its bytes the caller hands in again, in any pieces. The output is the bytes that they write, in order. The lent bytes of each call are any.
pub data Calls : List ℕ → Stream → List ℕ → List ℕ → List ℕ → Type 0 where
  feed :
      {w : List ℕ} {s : Stream} {input output w' : List ℕ} (c : FeedCall)
      → FeedKept w s c
      → Calls c.words c.result.stream input output w'
      → Calls w s (take c.result.consumed c.bytes ++ input) (take c.result.produced c.after ++ output) w'
  -- `ended`, refused by 9 since its answer line has no room: other calls follow
  short :
      {w : List ℕ} {s : Stream} {input output w' : List ℕ} (c : EndCall)
      → EndKept s c
      → c.result.refusal ≡ Some LentTooShort
      → Calls w s input output w'
      → Calls w s input (take c.result.produced c.after ++ output) w'
  -- `ended`, not refused by 9: the last call
  ended :
      {w : List ℕ} {s : Stream} (c : EndCall)
      → EndKept s c
      → (c.result.refusal ≡ Some LentTooShort → ⊥)
      → Calls w s [] (take c.result.produced c.after) w

-- ---- what they write: they answer the input that they consume
-- from any sheet, by a stream that holds no byte
abbrev pub CallsAnswered : Type 0
CallsAnswered =
    (w : List ℕ) (s : Stream) (input output w' : List ℕ) → state_words ≤ length w → text_of s ≡ [] → Calls w s input output w'
    → Answered (model_of w) input output (model_of w')

-- demand 3 itself: "run one after another from a fresh sheet"
pub record FreshAnswered (input output w' : List ℕ) : Type 0 where
  pub answered : Answered fresh input output (model_of w')
  -- "After the list every number in a row is finite and the exact squared length of every direction lies within 2^-18 of 1"
  pub sound : Sound (model_of w')
  -- what is demanded of each command
  pub well : AllWell fresh (commands_in (cut input).lines)

abbrev pub FreshCallsAnswered : Type 0
FreshCallsAnswered =
    (behind : List ℕ) (s : Stream) (input output w' : List ℕ) → text_of s ≡ [] → Calls (fresh_words behind) s input output w' → FreshAnswered input output w'

-- ---- what a call consumes
-- no byte is left where an answer line has room behind what is written; what is lent behind that stays as it was
pub record Consumes (c : FeedCall) : Type 0 where
  pub part : c.result.consumed ≤ length c.bytes
  pub fits : c.result.produced ≤ length c.before
  pub full : c.result.consumed < length c.bytes → length c.before < c.result.produced + answer_length
  pub behind : drop c.result.produced c.after ≡ drop c.result.produced c.before

abbrev pub CallsConsume : Type 0
CallsConsume = (w : List ℕ) (s : Stream) (c : FeedCall) → FeedKept w s c → Consumes c
