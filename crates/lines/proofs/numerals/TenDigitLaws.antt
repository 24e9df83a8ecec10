-- Writing a field two digits at a time, and from digits side by side in one number: ten digits and a blank fill eleven columns. Assumes nothing.
use Rattle.std.proofs.Common.{◌≡◌, ℕ, ◌+◌, ◌-◌, ◌*◌, ◌/◌, ◌%◌, ◌<◌, ◌≤◌, List, length, set, sym, refl, ap, ◌∙◌, append-nil, arith, drop_of_length-le}
use native.Mathlib.Nat.{div-div-eq-div-mul}
use Rattle.lines.specs.Field.{glyph, lead, written}
use Rattle.lines.specs.PackedDigits.{quarters, two_digits, eight_digits}
use Rattle.lines.proofs.numerals.PackedDigitLaws.{first_byte, second_byte, bytes_above}
use Rattle.lines.proofs.numerals.WriteLaws.{Spelt, spelt_more, spelt_all}
use Rattle.lines.proofs.numerals.NumeralLaws.{glyph_digit, written_lead}

-- the digits of p from column i on
abbrev pair : List ℕ → ℕ → ℕ → List ℕ
pair f i p = set (set f (i + 1) (48 + p % 10)) i (48 + p / 10)

-- nothing is written yet
spelt_start : (f : List ℕ) (w n : ℕ) → length f ≡ w → 0 < n → Spelt w n f w n
spelt_start f w n e p =
    let z : length f ≤ w = omega (arith, e) in
    record { long = e; within = omega arith; text = written_lead w n p ∙ rw (drop_of_length-le f z, append-nil (lead w n)) refl }

-- two digits more
spelt_pair : (w n : ℕ) (f : List ℕ) (i rest : ℕ) → Spelt w n f (i + 2) rest → 10 ≤ rest → Spelt w n (pair f i (rest % 100)) i (rest / 100)
spelt_pair w n f i rest h g =
    let a : i + 2 - 1 ≡ i + 1 = omega arith in
    let b : i + 1 - 1 ≡ i = omega arith in
    let one : rest % 100 % 10 ≡ rest % 10 = omega arith in
    let ten : rest % 100 / 10 ≡ rest / 10 % 10 = omega arith in
    let left : rest / 10 / 10 ≡ rest / 100 = omega arith in
    let s = rw (a, glyph_digit rest (omega arith)) at (spelt_more w n f (i + 2) rest h (omega arith)) in
    let t = rw (b, glyph_digit (rest / 10) (omega arith), left) at (spelt_more w n _ (i + 1) (rest / 10) s (omega arith)) in
    rw (one, ten) t

-- the five pairs and the blank
ten_written : (f : List ℕ) (n : ℕ) → length f ≡ 11 → 1000000000 ≤ n → n < 4294967296
    → set (pair (pair (pair (pair (pair f 9 (n % 100)) 7 (n / 100 % 100)) 5 (n / 10000 % 100)) 3 (n / 1000000 % 100)) 1 (n / 100000000)) 0 (glyph 0) ≡ written 11 n
ten_written f n e g u =
    let b : n / 100 / 100 ≡ n / 10000 = omega arith in
    let c : n / 10000 / 100 ≡ n / 1000000 = omega arith in
    let d : n / 1000000 / 100 ≡ n / 100000000 = omega arith in
    let front : n / 100000000 % 100 ≡ n / 100000000 = omega arith in
    let none : n / 100000000 / 100 ≡ 0 = omega arith in
    let s1 = spelt_pair 11 n _ 9 n (spelt_start f 11 n e (omega arith)) (omega arith) in
    let s2 = rw b at (spelt_pair 11 n _ 7 (n / 100) s1 (omega arith)) in
    let s3 = rw c at (spelt_pair 11 n _ 5 (n / 10000) s2 (omega arith)) in
    let s4 = rw d at (spelt_pair 11 n _ 3 (n / 1000000) s3 (omega arith)) in
    let s5 = rw (front, none) at (spelt_pair 11 n _ 1 (n / 100000000) s4 (omega arith)) in
    spelt_all 11 n _ 0 0 (spelt_more 11 n _ 1 0 s5 (omega arith)) (omega arith)

-- ---- from bytes side by side

-- the two lowest bytes of x from column i on
abbrev bytes : List ℕ → ℕ → ℕ → List ℕ
bytes f i x = set (set f (i + 1) (x / 256 % 256)) i (x % 256)

-- nothing is above x
alone : (x : ℕ) → x ≡ x + 65536 * 0
alone x = omega arith

packed_pair : (f : List ℕ) (i p r x : ℕ) → p < 100 → x ≡ two_digits p + 65536 * r → bytes f i x ≡ pair f i p
packed_pair f i p r x h e = rw (e, first_byte p r h, second_byte p r h) refl

-- four pairs
packed_pairs : (f : List ℕ) (a b c d x : ℕ) → a < 100 → b < 100 → c < 100 → d < 100 → x ≡ quarters (two_digits a) (two_digits b) (two_digits c) (two_digits d)
    → bytes (bytes (bytes (bytes f 9 (x / 281474976710656)) 7 (x / 4294967296)) 5 (x / 65536)) 3 x ≡ pair (pair (pair (pair f 9 d) 7 c) 5 b) 3 a
packed_pairs f a b c d x i j k l e =
    let second : x / 65536 ≡ two_digits b + 65536 * (two_digits c + 65536 * two_digits d) = ap (λ (z : ℕ). z / 65536) e ∙ bytes_above a (two_digits b + 65536 * (two_digits c + 65536 * two_digits d)) i in
    let third : x / 4294967296 ≡ two_digits c + 65536 * two_digits d = sym (div-div-eq-div-mul x 65536 65536) ∙ (ap (λ (z : ℕ). z / 65536) second ∙ bytes_above b (two_digits c + 65536 * two_digits d) j) in
    let fourth : x / 281474976710656 ≡ two_digits d = sym (div-div-eq-div-mul x 4294967296 65536) ∙ (ap (λ (z : ℕ). z / 65536) third ∙ bytes_above c (two_digits d) k) in
    rw (
      packed_pair f 9 d 0 (x / 281474976710656) l (fourth ∙ alone (two_digits d)),
      packed_pair (pair f 9 d) 7 c (two_digits d) (x / 4294967296) k third,
      packed_pair (pair (pair f 9 d) 7 c) 5 b (two_digits c + 65536 * two_digits d) (x / 65536) j second,
      packed_pair (pair (pair (pair f 9 d) 7 c) 5 b) 3 a (two_digits b + 65536 * (two_digits c + 65536 * two_digits d)) x i e,
    )
    refl

-- the last eight digits of n by pairs
last_pairs : (n : ℕ) → eight_digits (n % 100000000) ≡ quarters (two_digits (n / 1000000 % 100)) (two_digits (n / 10000 % 100)) (two_digits (n / 100 % 100)) (two_digits (n % 100))
last_pairs n =
    let a : n % 100000000 / 1000000 ≡ n / 1000000 % 100 = omega arith in
    let b : n % 100000000 / 10000 % 100 ≡ n / 10000 % 100 = omega arith in
    let c : n % 100000000 / 100 % 100 ≡ n / 100 % 100 = omega arith in
    let d : n % 100000000 % 100 ≡ n % 100 = omega arith in
    rw (a, b, c, d) refl

pub packed_written : (f : List ℕ) (n x y : ℕ) → length f ≡ 11 → 1000000000 ≤ n → n < 4294967296 → x ≡ eight_digits (n % 100000000) → y ≡ two_digits (n / 100000000)
    → set (bytes (bytes (bytes (bytes (bytes f 9 (x / 281474976710656)) 7 (x / 4294967296)) 5 (x / 65536)) 3 x) 1 y) 0 (glyph 0) ≡ written 11 n
packed_written f n x y e g u is_x is_y =
    rw (
      packed_pairs f (n / 1000000 % 100) (n / 10000 % 100) (n / 100 % 100) (n % 100) x (below (n / 1000000)) (below (n / 10000)) (below (n / 100)) (below n) (is_x ∙ last_pairs n),
      packed_pair (pair (pair (pair (pair f 9 (n % 100)) 7 (n / 100 % 100)) 5 (n / 10000 % 100)) 3 (n / 1000000 % 100)) 1 (n / 100000000) 0 y (few n u) (is_y ∙ alone (two_digits (n / 100000000))),
    )
    (ten_written f n e g u)
  where
    below : (x : ℕ) → x % 100 < 100
    below x = omega arith

    few : (n : ℕ) → n < 4294967296 → n / 100000000 < 100
    few n u = omega arith
