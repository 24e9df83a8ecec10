-- What functions of this crate promise each other: a number up to the limit, a field written into a line, a test as a number, and the value of a byte.
use Rattle.std.specs.Prelude.{◌≡◌, ℕ, ◌+◌, ◌<◌, ◌≤◌, Bool, false, cond, List, ◌++◌, take, drop, nat_le, Option, None, Some}
use Rattle.lines.specs.Field.{is_digit, limit, written}

-- a number up to the limit
unfoldable pub limited : ℕ → Option ℕ
limited n = cond (nat_le n limit) (Some n) None

-- the bytes after n is written into the w columns from `at` on
unfoldable pub put_field : ℕ → ℕ → ℕ → List ℕ → List ℕ
put_field at w n out = take at out ++ (written w n ++ drop (at + w) out)

-- a test as a number: 1 where it holds, 0 where it does not
unfoldable pub bit : Bool → ℕ
bit x = cond x 1 0

-- the value r of the byte b: a digit's, or one above 9 where b is no digit
pub record DigitValue (b r : ℕ) : Type 0 where
  pub digit : r ≤ 9 → b ≡ 48 + r
  pub other : 9 < r → is_digit b ≡ false
