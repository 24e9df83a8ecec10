-- A fresh sheet in lent words (document 01, "The plain sheet": "Fresh: all empty"), and what the words then mean.
use Rattle.std.specs.Prelude.{ℕ, ◌≤◌, ◌≡◌, cond, List, ltb, length, drop}
use Rattle.commands.specs.Codes.{lent_too_short}
use Rattle.commands.specs.Rows.{fresh}
use Rattle.sheet.specs.Words.{state_words, model_of, fresh_words}

-- the words afterwards, and the refusal
pub record Freshened : Type 0 where
  pub state : List ℕ
  pub refusal : ℕ

abbrev pub freshened : List ℕ → ℕ → Freshened
freshened w k = record { state = w; refusal = k }

-- zeros over a sheet's words, and those behind them as they were; too few words are left as they are, by 9
unfoldable pub fresh_of : List ℕ → Freshened
fresh_of w = cond (ltb (length w) state_words) (freshened w lent_too_short) (freshened (fresh_words (drop state_words w)) 0)

-- what enough words mean afterwards, whatever they held: "Fresh: all empty"
abbrev pub FreshMeaning : Type 0
FreshMeaning = (w : List ℕ) → state_words ≤ length w → model_of (fresh_of w).state ≡ fresh
