-- Writing and reading a field undo each other. Assumes nothing.
use Rattle.std.proofs.Common.{◌≡◌, ℕ, zero, suc, ◌+◌, ◌-◌, ◌*◌, ◌/◌, ◌%◌, ◌^◌, ◌<◌, ◌≤◌, Bool, true, false, eqb, List, [], ◌∷◌, ◌++◌, length, replicate, sym, refl, ap, ◌∙◌, append_assoc, pow-suc, add-one, arith, length-append, eqb-true}
use borrow.Author.Tests.{eqb-false}
use lib.ListN.{length-replicate}
use Rattle.lines.specs.Field.{is_digit, decimal, value_from, lead, written}
use Rattle.lines.specs.FieldMeaning.{Numeral, IsField, ReadBack, WrittenBack}
use Rattle.lines.proofs.numerals.ReadLaws.{value_grows}
use Rattle.lines.proofs.numerals.FieldMeaningLaws.{digit_range, both_true, field_read, read_field}
use Rattle.lines.proofs.numerals.NumeralLaws.{glyph_digit, lead_zero, written_lead, numeral_one, numeral_more}

-- ---- what is written is a field

written_one : (w n : ℕ) → n / 10 ≡ 0 → n ≤ 4294967295 → IsField (written (suc w) n) n
unfolding written
written_one w n e s =
    record { blanks = w; figures = (48 + n % 10) ∷ []; text = rw (e, lead_zero w) refl; numeral = numeral_one n e; fits = s }

written_more : (w n : ℕ) → 0 < n / 10 → n ≤ 4294967295 → IsField (written w (n / 10)) (n / 10) → IsField (written (suc w) n) n
unfolding written
written_more w n p s h = record {
  blanks = h.blanks;
  figures = h.figures ++ last;
  text = ap (λ (l : List ℕ). l ++ last) (sym (written_lead w (n / 10) p) ∙ h.text) ∙ append_assoc (replicate h.blanks 32) h.figures last;
  numeral = numeral_more h.figures n p h.numeral;
  fits = s;
}
  where
    last : List ℕ
    last = (48 + n % 10) ∷ []

written_field : (w n : ℕ) → n < 10 ^ suc w → n ≤ 4294967295 → IsField (written (suc w) n) n
written_field zero n r s = written_one zero n (omega arith) s
written_field (suc w) n r s = go (λ t. written_field w (n / 10) t (omega arith)) (eqb (n / 10) 0) refl
  where
    go : (n / 10 < 10 ^ suc w → IsField (written (suc w) (n / 10)) (n / 10)) → (x : Bool) → eqb (n / 10) 0 ≡ x → IsField (written (suc (suc w)) n) n
    go ih true e = written_one (suc w) n (eqb-true _ _ e) s
    go ih false e =
        let ne : n / 10 ≡ 0 → ⊥ = eqb-false _ _ e in
        written_more (suc w) n (omega arith) s (ih (omega (arith, pow-suc 10 (suc w))))

pub read_back : ReadBack
read_back zero n h = absurd (omega (arith, h.some_column))
read_back (suc w) n h = field_read (written (suc w) n) n (written_field w n h.room h.fits)

-- ---- a field is what is written

lead_digit : (w n d : ℕ) → is_digit d ≡ true → 0 < n * 10 + (d - 48) → lead (suc w) (n * 10 + (d - 48)) ≡ lead w n ++ (d ∷ [])
unfolding lead
lead_digit w n d h p =
    let i = digit_range d h in
    let q : (n * 10 + (d - 48)) / 10 ≡ n = omega (arith, i.0, i.1) in
    let r : 48 + (n * 10 + (d - 48)) % 10 ≡ d = omega (arith, i.0, i.1) in
    rw (glyph_digit _ p, q, r) refl

-- digits after what is left of a number, the first of which makes it more than zero
lead_more : (w n d : ℕ) (ds : List ℕ) → decimal (d ∷ ds) ≡ true → 0 < n * 10 + (d - 48)
    → lead (w + suc (length ds)) (value_from n (d ∷ ds)) ≡ lead w n ++ (d ∷ ds)
unfolding decimal value_from
lead_more w n d [] h p = rw (add-one w) (lead_digit w n d (both_true (is_digit d) true h).0 p)
lead_more w n d (e ∷ ds) h p =
    let b = both_true (is_digit d) (decimal (e ∷ ds)) h in
    let k : w + suc (suc (length ds)) ≡ suc w + suc (length ds) = omega arith in
    rw k
    (lead_more (suc w) (n * 10 + (d - 48)) e ds b.1 (omega arith)
    ∙ (ap (λ (l : List ℕ). l ++ (e ∷ ds)) (lead_digit w n d b.0 p) ∙ append_assoc (lead w n) (d ∷ []) (e ∷ ds)))

zero_written : (k d n : ℕ) (ds : List ℕ) → d ≡ 48 → Numeral (d ∷ ds) n → written (k + suc (length ds)) n ≡ replicate k 32 ++ (d ∷ ds)
unfolding written value_from
zero_written k d n [] e h = let z : n ≡ 0 = omega (arith, h.value) in rw (e, z, add-one k, lead_zero k) refl
zero_written k d n (c ∷ ds) e h = absurd (omega (arith, h.zero_alone e))

numeral_written : (k n : ℕ) (ds : List ℕ) → Numeral ds n → written (k + length ds) n ≡ replicate k 32 ++ ds
unfolding decimal value_from
numeral_written k n [] h = absurd (omega (arith, h.some_digit))
numeral_written k n (d ∷ ds) h = go (eqb d 48) refl
  where
    go : (x : Bool) → eqb d 48 ≡ x → written (k + suc (length ds)) n ≡ replicate k 32 ++ (d ∷ ds)
    go true e = zero_written k d n ds (eqb-true _ _ e) h
    go false e =
        let ne : d ≡ 48 → ⊥ = eqb-false _ _ e in
        let i = digit_range d (both_true (is_digit d) (decimal ds) h.decimals).0 in
        let p : 0 < 0 * 10 + (d - 48) = omega (arith, i.0) in
        let q : 0 < n = omega (arith, value_grows (0 * 10 + (d - 48)) ds, h.value) in
        written_lead (k + suc (length ds)) n q
        ∙ (ap (λ (m : ℕ). lead (k + suc (length ds)) m) (sym h.value) ∙ (lead_more k 0 d ds h.decimals p ∙ rw (lead_zero k) refl))

field_written : (l : List ℕ) (n : ℕ) → IsField l n → written (length l) n ≡ l
field_written l n h =
    rw (h.text, length-append (replicate h.blanks 32) h.figures, length-replicate {A = ℕ} h.blanks 32) (numeral_written h.blanks n h.figures h.numeral)

pub written_back : WrittenBack
written_back l n e = field_written l n (read_field l n e)
