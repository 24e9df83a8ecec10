-- A field of three columns: which part of it is its digits, and which number up to three digits give. Assumes nothing.
use Rattle.std.proofs.Common.{◌≡◌, ℕ, suc, ◌+◌, ◌-◌, ◌*◌, ◌/◌, ◌<◌, ◌≤◌, Bool, true, false, cond, eqb, List, [], ◌∷◌, length, get_or, drop, sym, refl, mul-le-mul, zero-mul, arith, lt-ltb, eq-eqb, ne_eqb}
use Rattle.std.specs.Prelude.{Option, None, Some}
use Rattle.lines.specs.Field.{digits, is_digit, decimal, value_from, value, leading_zero, number}
use Rattle.lines.specs.FieldMeaning.{Numeral}
use Rattle.lines.specs.ColumnParts.{bit}
use Rattle.lines.proofs.numerals.FieldMeaningLaws.{digit_is, numeral_read}
use Rattle.lines.proofs.numerals.ReadLaws.{cond_same, not_decimal}

-- ---- the part after the blanks

-- how many of three columns are blank and have blanks alone before them
abbrev pub blanks : ℕ → ℕ → ℕ → ℕ
blanks a b c = bit (eqb a 32) * (1 + bit (eqb b 32) * (1 + bit (eqb c 32)))

bytes_after : (a b c : ℕ) → drop (blanks a b c) (a ∷ b ∷ c ∷ []) ≡ digits (a ∷ b ∷ c ∷ [])
unfolding digits bit
bytes_after a b c = go (eqb a 32) (eqb b 32) (eqb c 32) refl refl refl
  where
    go : (x y z : Bool) → eqb a 32 ≡ x → eqb b 32 ≡ y → eqb c 32 ≡ z → drop (blanks a b c) (a ∷ b ∷ c ∷ []) ≡ digits (a ∷ b ∷ c ∷ [])
    go false y z p q r = rw (p, zero-mul) refl
    go true false z p q r = rw (p, q, zero-mul) refl
    go true true false p q r = rw (p, q, r) refl
    go true true true p q r = rw (p, q, r) refl

pub after_blanks : (l : List ℕ) → length l ≡ 3 → drop (blanks (get_or l 0 0) (get_or l 1 0) (get_or l 2 0)) l ≡ digits l
after_blanks [] h = absurd (omega arith)
after_blanks (a ∷ []) h = absurd (omega arith)
after_blanks (a ∷ b ∷ []) h = absurd (omega arith)
after_blanks (a ∷ b ∷ c ∷ []) h = bytes_after a b c
after_blanks (a ∷ b ∷ c ∷ d ∷ l) h = absurd (omega arith)

-- there are no more digits than columns
pub fewer_digits : (l : List ℕ) → length (digits l) ≤ length l
unfolding digits
fewer_digits [] = omega arith
fewer_digits (b ∷ l) = go (eqb b 32) (fewer_digits l)
  where
    go : (x : Bool) → length (digits l) ≤ length l → length (cond x (digits l) (b ∷ l)) ≤ suc (length l)
    go true h = omega arith
    go false h = omega arith

-- ---- ill formed

pub other_ill : (d : List ℕ) (i : ℕ) → i < length d → is_digit (get_or d i 0) ≡ false → None ≡ number d
unfolding number value
other_ill d i h e = rw (not_decimal d i h e, cond_same {A = Option ℕ} (leading_zero d) None) (sym (cond_same (eqb (length d) 0) None))

pub none_ill : (d : List ℕ) → length d ≡ 0 → None ≡ number d
unfolding number
none_ill d e = rw (eq-eqb _ _ e) refl

-- a first digit below 1 where others follow
pub zero_ill : (d : List ℕ) (a : ℕ) → length d ≤ 3 → get_or d 0 0 ≡ 48 + a → a < length d / 2 → None ≡ number d
unfolding number leading_zero
zero_ill d a three e lt =
    let some : length d ≡ 0 → ⊥ = λ z. omega arith in
    let two : 1 < length d = omega arith in
    let is_zero : get_or d 0 0 ≡ 48 = omega arith in
    rw (ne_eqb _ _ some, lt-ltb _ _ two, eq-eqb _ _ is_zero) refl

-- ---- one, two and three digits

-- the sum of n digits' values: c is the last's, b that of the one before it and a the first's, where there are as many
abbrev pub summed : ℕ → ℕ → ℕ → ℕ → ℕ
summed a b c n = a * 100 * ((n - 1) / 2) + b * 10 * (n / 2) + c

pub hundreds_below : (a n : ℕ) → a ≤ 9 → n ≤ 3 → a * 100 * ((n - 1) / 2) ≤ 900
hundreds_below a n p h =
    let s : a * 100 ≤ 900 = omega arith in
    let t : (n - 1) / 2 ≤ 1 = omega arith in
    mul-le-mul s t

pub tens_below : (b n : ℕ) → b ≤ 9 → n ≤ 3 → b * 10 * (n / 2) ≤ 90
tens_below b n q h =
    let s : b * 10 ≤ 90 = omega arith in
    let t : n / 2 ≤ 1 = omega arith in
    mul-le-mul s t

module _ (a b c : ℕ) (p : a ≤ 9) (q : b ≤ 9) (r : c ≤ 9) where
  decimal_value : (d : List ℕ) → 0 < length d → length d ≤ 3
      → get_or d 0 0 ≡ 48 + a → get_or d ((length d - 1) / 2) 0 ≡ 48 + b → get_or d (length d - 1) 0 ≡ 48 + c
      → (decimal d ≡ true) × (value_from 0 d ≡ summed a b c (length d))
  unfolding decimal value_from
  decimal_value [] some three is_a is_b is_c = absurd (omega arith)
  decimal_value (x ∷ []) some three is_a is_b is_c = (rw (digit_is x c is_c r) refl, omega arith)
  decimal_value (x ∷ y ∷ []) some three is_a is_b is_c = (rw (digit_is x b is_b q, digit_is y c is_c r) refl, omega arith)
  decimal_value (x ∷ y ∷ z ∷ []) some three is_a is_b is_c = (rw (digit_is x a is_a p, digit_is y b is_b q, digit_is z c is_c r) refl, omega arith)
  decimal_value (x ∷ y ∷ z ∷ w ∷ d) some three is_a is_b is_c = absurd (omega arith)

  pub digits_read : (d : List ℕ) → 0 < length d → length d ≤ 3
      → get_or d 0 0 ≡ 48 + a → get_or d ((length d - 1) / 2) 0 ≡ 48 + b → get_or d (length d - 1) 0 ≡ 48 + c → length d / 2 ≤ a
      → Some (summed a b c (length d)) ≡ number d
  digits_read d some three is_a is_b is_c first =
      let v = decimal_value d some three is_a is_b is_c in
      let numeral : Numeral d (summed a b c (length d)) = record { decimals = v.0; some_digit = some; zero_alone = λ e. omega arith; value = v.1 } in
      sym (numeral_read d (summed a b c (length d)) numeral (omega (arith, hundreds_below a (length d) p three, tens_below b (length d) q three)))
