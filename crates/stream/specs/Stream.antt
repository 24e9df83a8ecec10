-- The bytes of an input, however they come (document 01, "Lines": "The program reads standard input and answers each line, refused ones included"), by any way
-- of doing one command.
use Rattle.std.specs.Prelude.{ℕ, suc, ◌-◌, ◌≡◌, cond, Option, Some, None, List, [], ◌∷◌, ◌++◌, eqb, ltb, length, take, drop}
use Rattle.commands.specs.declared.codes.Refusal.{Refusal}
use Rattle.commands.specs.RefusalNumbers.{number_of}
use Rattle.commands.specs.declared.command.Command.{Command}
use Rattle.commands.specs.Codes.{ill_formed, lent_too_short}
use Rattle.commands.specs.Answers.{refused}
use Rattle.commands.specs.Model.{Stepped}
use Rattle.sheet.specs.Words.{lent_step}
use Rattle.lines.specs.CommandLine.{line_length}
use Rattle.lines.specs.AnswerLine.{answer_length}
use Rattle.stream.specs.declared.Stream.{Stream}
use Rattle.stream.specs.declared.feed.Progress.{Progress}
use Rattle.stream.specs.declared.feed.Ended.{Ended}
use Rattle.stream.specs.Responses.{line_response, answer_text}

-- the sheet, and the bytes since the last line feed
pub record Held (S : Type 0) : Type 0 where
  pub state : S
  pub text : List ℕ

abbrev pub held : {S : Type 0} → S → List ℕ → Held S
held s t = record { state = s; text = t }

-- 46 bytes of a line are kept, since a longer one is no line of 45 all the same
abbrev pub kept_bytes : ℕ
kept_bytes = suc line_length

unfoldable pub pushed : List ℕ → ℕ → List ℕ
pushed text b = cond (ltb (length text) kept_bytes) (text ++ (b ∷ [])) text

-- what is held after some bytes, and the answer lines that they gave
pub record Fed (S : Type 0) : Type 0 where
  pub held : Held S
  pub text : List ℕ

abbrev pub line_feed : ℕ
line_feed = 10

unfoldable pub byte_fed : {S : Type 0} → (S → Command → Stepped S) → Held S → ℕ → Fed S
byte_fed step h b =
    let o = line_response step h.state h.text in
    cond (eqb b line_feed)
    (record { held = held o.state []; text = answer_text o.answer })
    (record { held = held h.state (pushed h.text b); text = [] })

unfoldable pub feed_of : {S : Type 0} → (S → Command → Stepped S) → Held S → List ℕ → Fed S
feed_of step h [] = record { held = h; text = [] }
feed_of step h (b ∷ l) =
    let first = byte_fed step h b in
    let rest = feed_of step first.held l in
    record { held = rest.held; text = first.text ++ rest.text }

-- ---- into lent bytes
-- how many bytes are consumed: each while an answer line has room
unfoldable pub consumed_of : ℕ → List ℕ → ℕ
consumed_of room [] = 0
consumed_of room (b ∷ l) = cond (ltb room answer_length) 0 (suc (consumed_of (cond (eqb b line_feed) (room - answer_length) room) l))

-- what is held, how many bytes were consumed and produced, and the lent bytes afterwards: the answers, and past them what was there
pub record FedInto (S : Type 0) : Type 0 where
  pub held : Held S
  pub consumed : ℕ
  pub produced : ℕ
  pub out : List ℕ

unfoldable pub fed_into : {S : Type 0} → (S → Command → Stepped S) → Held S → List ℕ → List ℕ → FedInto S
fed_into step h bytes out =
    let consumed = consumed_of (length out) bytes in
    let f = feed_of step h (take consumed bytes) in
    record { held = f.held; consumed = consumed; produced = length f.text; out = f.text ++ drop (length f.text) out }

-- ---- the program's
-- the bytes that a stream holds
abbrev pub text_of : Stream → List ℕ
text_of s = take s.len s.line

abbrev pub fed_by : List ℕ → Progress → List ℕ → FedInto (List ℕ)
fed_by w r out = record { held = held w (text_of r.stream); consumed = r.consumed; produced = r.produced; out = out }

-- `feed` of bytes with `out` lent, on the words w by the stream s: its result, and the words and the lent bytes afterwards
abbrev pub Feeds : List ℕ → Stream → List ℕ → List ℕ → Progress → List ℕ → List ℕ → Type 0
Feeds w s bytes out r w' out' = fed_by w' r out' ≡ fed_into lent_step (held w (text_of s)) bytes out

-- ---- the end of an input
-- "Bytes after the last line feed are a line too, refused by 1"
unfoldable pub end_of : List ℕ → List ℕ
end_of text = cond (eqb (length text) 0) [] (answer_text (refused ill_formed))

-- the lent bytes after it, how many of them are written, and the refusal: none where no byte is left, 9 where the answer line has no room
pub record EndedInto : Type 0 where
  pub bytes : List ℕ
  pub produced : ℕ
  pub refusal : ℕ

unfoldable pub ended_of : List ℕ → List ℕ → EndedInto
ended_of text out =
    cond (eqb (length text) 0)
    (record { bytes = out; produced = 0; refusal = 0 })
    (cond (ltb (length out) answer_length)
    (record { bytes = out; produced = 0; refusal = lent_too_short })
    (record { bytes = end_of text ++ drop answer_length out; produced = answer_length; refusal = ill_formed }))

-- the number of a refusal, 0 for none
abbrev pub told : Option Refusal → ℕ
told None = 0
told (Some k) = number_of k

abbrev pub ended_by : Ended → List ℕ → EndedInto
ended_by r out = record { bytes = out; produced = r.produced; refusal = told r.refusal }

-- `ended` with `out` lent, of the stream s: its result, and the lent bytes afterwards
abbrev pub EndsInput : Stream → List ℕ → Ended → List ℕ → Type 0
EndsInput s out r out' = ended_by r out' ≡ ended_of (text_of s) out
