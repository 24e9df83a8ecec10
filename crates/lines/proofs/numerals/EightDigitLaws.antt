-- Eight digits made at once: what the hundreds and the tens leave fits, and the bytes are the digits. Assumes nothing.
use Rattle.std.proofs.Common.{◌≡◌, ℕ, ◌+◌, ◌-◌, ◌*◌, ◌/◌, ◌%◌, ◌<◌, ◌≤◌, refl, ◌∙◌, lt_of_lt_of_le, lt_of_le_of_lt, arith, lit≤}
use Rattle.lines.specs.PackedDigits.{Hundreds, Tens, halves, quarters, two_digits, eight_digits}
use Rattle.lines.proofs.numerals.PackedDigitLaws.{hundreds_below, twos_are, twos_below, tens_below, digits_are, digits_below}

-- the number n as two numbers of four digits
abbrev pub fours : ℕ → ℕ
fours n = n / 10000 + n % 10000 * 4294967296

small : (n : ℕ) → n < 100000000 → (n / 10000 / 100 < 100) × (n / 10000 < 10000)
small n h = (omega arith, omega arith)

below : (n : ℕ) → (n / 10000 % 100 < 100) × (n % 10000 / 100 < 100) × (n % 10000 % 100 < 100)
below n = (omega arith, omega arith, omega arith)

same : (n : ℕ) → quarters (two_digits (n / 10000 / 100)) (two_digits (n / 10000 % 100)) (two_digits (n % 10000 / 100)) (two_digits (n % 10000 % 100)) ≡ eight_digits n
same n =
    let a : n / 10000 / 100 ≡ n / 1000000 = omega arith in
    let b : n % 10000 / 100 ≡ n / 100 % 100 = omega arith in
    let c : n % 10000 % 100 ≡ n % 100 = omega arith in
    rw (a, b, c) refl

-- ---- four numbers of two digits, made with the hundreds q
module _ (n : ℕ) (h : n < 100000000) (q : ℕ) (divided : Hundreds (fours n) q) where
  abbrev pub twos : ℕ
  twos = (fours n - 100 * q) * 65536 + q

  hundreds : q ≡ halves (n / 10000 / 100) (n % 10000 / 100)
  hundreds = divided (n / 10000) (n % 10000) (small n h).1 (omega arith) (omega arith)

  pub hundreds_left : 100 * q ≤ fours n
  hundreds_left = hundreds_below _ _ _ hundreds

  pub hundreds_fit : 100 * q < 18446744073709551616
  hundreds_fit = lt_of_le_of_lt hundreds_left (omega arith)

  twos_told : twos ≡ quarters (n / 10000 / 100) (n / 10000 % 100) (n % 10000 / 100) (n % 10000 % 100)
  twos_told = twos_are _ _ _ hundreds

  pub twos_few : twos < 28147497671065600
  twos_few = rw twos_told (twos_below _ _ _ _ (small n h).0 (below n).0 (below n).1 (below n).2)

  -- ---- eight digits, made with the tens t
  module _ (t : ℕ) (by_ten : Tens twos t) where
    abbrev pub digits : ℕ
    digits = 256 * (twos - 10 * t) + t + 3472328296227680304

    tens : t ≡ quarters (n / 10000 / 100 / 10) (n / 10000 % 100 / 10) (n % 10000 / 100 / 10) (n % 10000 % 100 / 10)
    tens = by_ten _ _ _ _ (small n h).0 (below n).0 (below n).1 (below n).2 twos_told

    pub tens_left : 10 * t ≤ twos
    tens_left = rw (tens, twos_told) (tens_below _ _ _ _ (small n h).0 (below n).0 (below n).1 (below n).2)

    digits_told : digits ≡ quarters (two_digits (n / 10000 / 100)) (two_digits (n / 10000 % 100)) (two_digits (n % 10000 / 100)) (two_digits (n % 10000 % 100))
    digits_told = digits_are _ _ _ _ _ _ twos_told tens

    pub digits_fit : digits < 18446744073709551616
    digits_fit = rw digits_told (digits_below _ _ _ _ (small n h).0 (below n).0 (below n).1 (below n).2)

    pub tens_fit : 10 * t < 18446744073709551616
    tens_fit = lt_of_le_of_lt tens_left (lt_of_lt_of_le twos_few (lit≤ tt))

    pub digits_are_told : digits ≡ eight_digits n
    digits_are_told = digits_told ∙ same n
