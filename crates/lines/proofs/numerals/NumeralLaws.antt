-- Numerals: one digit more on the right, and the columns before a number's last digit. Assumes nothing.
use Rattle.std.proofs.Common.{◌≡◌, ℕ, zero, suc, ◌+◌, ◌-◌, ◌*◌, ◌/◌, ◌%◌, ◌<◌, ◌≤◌, true, List, [], ◌∷◌, ◌++◌, length, get_or, take, drop, set, replicate, sym, refl, ap, ◌∙◌, add-one, arith, length-append, length-take-le, drop_of_length-le, drop-cons, ne_eqb, le-leb}
use lib.ListN.{length-replicate, get_or-append, replicate-append-replicate}
use lib.Seq.{set_at}
use Rattle.lines.specs.Field.{is_digit, decimal, value_from, glyph, lead, written}
use Rattle.lines.specs.FieldMeaning.{Numeral}
use Rattle.lines.proofs.numerals.FieldMeaningLaws.{both_true}

-- ---- columns before the last

pub glyph_digit : (n : ℕ) → 0 < n → glyph n ≡ 48 + n % 10
unfolding glyph
glyph_digit n h = let ne : n ≡ 0 → ⊥ = λ e. omega (arith, e) in rw (ne_eqb _ _ ne) refl

pub lead_zero : (w : ℕ) → lead w 0 ≡ replicate w 32
unfolding lead glyph
lead_zero zero = refl
lead_zero (suc w) = ap (λ (l : List ℕ). l ++ (32 ∷ [])) (lead_zero w) ∙ (rw (add-one w) at (replicate-append-replicate {A = ℕ} w 1 32))

pub written_lead : (w n : ℕ) → 0 < n → written w n ≡ lead w n
unfolding written lead
written_lead zero n p = refl
written_lead (suc w) n p = rw (glyph_digit n p) refl

-- one digit after blanks: the last column is written behind a part that holds blanks
pub digit_written : (f l : List ℕ) (n : ℕ) → 0 < length f → l ≡ replicate (length (take (length f - 1) f)) 32 → n < 10
    → set (l ++ drop (length f - 1) f) (length f - 1) (48 + n) ≡ written (length f) n
unfolding written
digit_written f l n some q h =
    let k : length (take (length f - 1) f) ≡ length f - 1 = length-take-le (length f - 1) f (omega arith) in
    rw (q, k) (after_blanks (length f - 1) (omega arith))
  where
    after_blanks : (i : ℕ) → length f ≡ i + 1 → set (replicate i 32 ++ drop i f) i (48 + n) ≡ written (length f) n
    after_blanks i e =
        let lt : i < length f = omega arith in
        let le : length f ≤ i + 1 = omega arith in
        let first : n / 10 ≡ 0 = omega arith in
        let second : n % 10 ≡ n = omega arith in
        let none : drop (suc i) f ≡ [] = drop_of_length-le f (rw (add-one i) at le) in
        rw (drop-cons f i 0 lt, none, e, add-one i, first, second, lead_zero i) (set_at (replicate i 32) (get_or f i 0) [] (48 + n) i (length-replicate i 32))

-- ---- numerals

digit : (n : ℕ) → is_digit (48 + n % 10) ≡ true
digit n =
    let lo : 48 ≤ 48 + n % 10 = omega arith in
    let hi : 48 + n % 10 ≤ 57 = omega arith in
    rw (le-leb _ _ lo, le-leb _ _ hi) refl

pub numeral_one : (n : ℕ) → n / 10 ≡ 0 → Numeral ((48 + n % 10) ∷ []) n
unfolding decimal value_from
numeral_one n e = record { decimals = rw (digit n) refl; some_digit = omega arith; zero_alone = λ _. refl; value = omega arith }

value_append : (n : ℕ) (l : List ℕ) (b : ℕ) → value_from n (l ++ (b ∷ [])) ≡ value_from n l * 10 + (b - 48)
unfolding value_from
value_append n [] b = refl
value_append n (c ∷ l) b = value_append (n * 10 + (c - 48)) l b

decimal_append : (l : List ℕ) (b : ℕ) → decimal l ≡ true → is_digit b ≡ true → decimal (l ++ (b ∷ [])) ≡ true
unfolding decimal
decimal_append [] b h d = rw d refl
decimal_append (c ∷ l) b h d = let p = both_true (is_digit c) (decimal l) h in rw (p.0, decimal_append l b p.1 d) refl

-- a number above zero does not begin with a zero
front : (ds : List ℕ) (n : ℕ) → Numeral ds n → 0 < n → get_or ds 0 0 ≡ 48 → ⊥
unfolding value_from
front [] n h p e = omega (arith, e)
front (b ∷ []) n h p e = omega (arith, h.value, e)
front (b ∷ c ∷ ds) n h p e = omega (arith, h.zero_alone e)

pub numeral_more : (ds : List ℕ) (n : ℕ) → 0 < n / 10 → Numeral ds (n / 10) → Numeral (ds ++ ((48 + n % 10) ∷ [])) n
numeral_more ds n p h = record {
  decimals = decimal_append ds (48 + n % 10) h.decimals (digit n);
  some_digit = omega (arith, length-append ds ((48 + n % 10) ∷ []));
  zero_alone = λ e. absurd (front ds (n / 10) h p (sym (get_or-append ds ((48 + n % 10) ∷ []) 0 0 h.some_digit) ∙ e));
  value = value_append 0 ds (48 + n % 10) ∙ rw h.value (omega arith);
}
