-- Calls for document 01's first line, with too few bytes lent now and then: computed from the definitions.
use Rattle.std.specs.Prelude.{ℕ, Option, List, [], ◌∷◌, ◌++◌, take, replicate}
use Rattle.commands.specs.declared.codes.Refusal.{Refusal}
use Rattle.commands.specs.Codes.{ill_formed, lent_too_short}
use Rattle.sheet.specs.Words.{fresh_words}
use Rattle.stream.specs.declared.Stream.{Stream}
use Rattle.stream.specs.Calls.{FeedCall, EndCall, Calls}
use Rattle.stream.specs.Lives.{LineCall, LineCalls}
use Rattle.stream.specs.Corners.{point, point_answer, ill}

-- a stream that holds these bytes, so many of them
abbrev pub holds : List ℕ → ℕ → Stream
holds text n = record { line = text; len = n }

-- the words of a sheet with the point (3, 4, 0) in row 0: the other rows, the entry of one empty row 0, the rest of the ring, and the place that is next
abbrev pub point_words : List ℕ
point_words = 1 ∷ 1077936128 ∷ 1082130432 ∷ 0 ∷ 0 ∷ (replicate 315 0 ++ (0 ∷ 1 ∷ replicate 766 0) ++ (1 ∷ []))

abbrev pub fed : List ℕ → List ℕ → Stream → ℕ → ℕ → List ℕ → List ℕ → FeedCall
fed bytes before s consumed produced w after = record { bytes = bytes; before = before; result = record { stream = s; consumed = consumed; produced = produced }; words = w; after = after }

abbrev pub end : List ℕ → ℕ → Option Refusal → List ℕ → EndCall
end before produced refusal after = record { before = before; result = record { produced = produced; refusal = refusal }; after = after }

-- a line of `respond`, without its line feed
abbrev said : List ℕ → List ℕ → ℕ → List ℕ → List ℕ → LineCall
said line before refusal w after = record { line = line; before = before; refusal = refusal; words = w; after = after }

abbrev pub lent_less : LineCall
lent_less = said (take 45 point) (replicate 42 7) lent_too_short (fresh_words []) (replicate 42 7)

abbrev pub no_byte : LineCall
no_byte = said [] (replicate 43 7) ill_formed (fresh_words []) ill

abbrev pub lent_more : LineCall
lent_more = said (take 45 point) (replicate 45 7) 0 point_words (point_answer ++ (7 ∷ 7 ∷ []))

pub record CallCorners : Type 0 where
  -- the line and a blank after it
  pub in_pieces : Calls (fresh_words []) (holds [] 0) (point ++ (32 ∷ [])) (point_answer ++ ill) point_words
  -- the line with 42 bytes lent, a line without a byte, and the line with 45 bytes lent
  pub by_lines : LineCalls (fresh_words []) (lent_less ∷ no_byte ∷ lent_more ∷ []) point_words
