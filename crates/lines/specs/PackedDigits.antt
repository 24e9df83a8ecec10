-- Numbers side by side in one number: what the functions that write ten digits promise each other.
use Rattle.std.specs.Prelude.{◌≡◌, ℕ, ◌+◌, ◌*◌, ◌/◌, ◌%◌, ◌<◌}

-- a number of 64 bits by its halves, and by its quarters, the lowest first
abbrev pub halves : ℕ → ℕ → ℕ
halves a b = a + 4294967296 * b

abbrev pub quarters : ℕ → ℕ → ℕ → ℕ → ℕ
quarters a b c d = a + 65536 * (b + 65536 * (c + 65536 * d))

-- in r each half of x is divided by 100
abbrev pub Hundreds : ℕ → ℕ → Type 0
Hundreds x r = (a b : ℕ) → a < 10000 → b < 10000 → x ≡ halves a b → r ≡ halves (a / 100) (b / 100)

-- in r each quarter of x is divided by 10
abbrev pub Tens : ℕ → ℕ → Type 0
Tens x r = (a b c d : ℕ) → a < 100 → b < 100 → c < 100 → d < 100 → x ≡ quarters a b c d → r ≡ quarters (a / 10) (b / 10) (c / 10) (d / 10)

-- the two digits of a number below 100 as bytes, the first one lowest
abbrev pub two_digits : ℕ → ℕ
two_digits p = 48 + p / 10 + 256 * (48 + p % 10)

-- the eight digits of a number below 10 ^ 8 as bytes, the first one lowest
abbrev pub eight_digits : ℕ → ℕ
eight_digits n = quarters (two_digits (n / 1000000)) (two_digits (n / 10000 % 100)) (two_digits (n / 100 % 100)) (two_digits (n % 100))
