-- What the definitions of Field mean: document 01's sentence about fields as a statement over bytes, and that writing and reading undo each other.
use Rattle.std.specs.Prelude.{◌≡◌, ℕ, ◌^◌, ◌<◌, ◌≤◌, true, ◌↔◌, List, ◌++◌, length, replicate, slice_index_or, Some}
use Rattle.lines.specs.Field.{blank, digits, decimal, value_from, number, written}

-- "decimal digits [..], at least one, no leading zero but in 0 alone"
pub record Numeral (ds : List ℕ) (n : ℕ) : Type 0 where
  pub decimals : decimal ds ≡ true
  pub some_digit : 0 < length ds
  pub zero_alone : slice_index_or ds 0 0 ≡ 48 → length ds ≡ 1
  pub value : value_from 0 ds ≡ n

-- "A field is blanks, then decimal digits to its right edge"; "ill formed above 4294967295"
pub record IsField (l : List ℕ) (n : ℕ) : Type 0 where
  pub blanks : ℕ
  pub figures : List ℕ
  pub text : l ≡ replicate blanks blank ++ figures
  pub numeral : Numeral figures n
  pub fits : n ≤ 4294967295

-- a field gives a number exactly if it is a field of that number
abbrev pub ReadsFields : Type 0
ReadsFields = (l : List ℕ) (n : ℕ) → (number (digits l) ≡ Some n) ↔ IsField l n

-- n has room in w columns
pub record HasRoom (w n : ℕ) : Type 0 where
  pub some_column : 0 < w
  pub room : n < 10 ^ w
  pub fits : n ≤ 4294967295

-- reading a written field gives the number back, whatever the width
abbrev pub ReadBack : Type 0
ReadBack = (w n : ℕ) → HasRoom w n → number (digits (written w n)) ≡ Some n

-- writing the number that a field gives gives its bytes back
abbrev pub WrittenBack : Type 0
WrittenBack = (l : List ℕ) (n : ℕ) → number (digits l) ≡ Some n → written (length l) n ≡ l
