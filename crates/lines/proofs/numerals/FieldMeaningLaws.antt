-- A field gives a number exactly if it is blanks and that number's numeral. Assumes nothing.
use Rattle.std.proofs.Common.{◌≡◌, ℕ, zero, suc, ◌+◌, ◌<◌, ◌≤◌, Bool, true, false, cond, ◌&&◌, eqb, ltb, leb, List, [], ◌∷◌, ◌++◌, length, get_or, replicate, sym, refl, arith, ltb-false, eq-eqb, ne_eqb, eqb-true, le-leb, leb-true}
use Rattle.std.specs.Prelude.{Option, None, Some}
use borrow.Author.Tests.{eqb-false}
use Rattle.lines.specs.Field.{digits, is_digit, decimal, value_from, limit, value, leading_zero, number}
use Rattle.lines.specs.FieldMeaning.{Numeral, IsField, ReadsFields}

-- ---- digits

no : true ≡ false → ⊥
no e = let y : ◌≡◌ {A = ℕ} 0 1 = cc in omega arith

pub digit_range : (b : ℕ) → is_digit b ≡ true → (48 ≤ b) × (b ≤ 57)
digit_range b h = go (leb 48 b) refl h
  where
    go : (x : Bool) → leb 48 b ≡ x → x && leb b 57 ≡ true → (48 ≤ b) × (b ≤ 57)
    go true e h = (leb-true 48 b e, leb-true b 57 h)
    go false e h = absurd (no (sym h))

pub digit_is : (b a : ℕ) → b ≡ 48 + a → a ≤ 9 → is_digit b ≡ true
digit_is b a e h =
    let lo : 48 ≤ b = omega arith in
    let hi : b ≤ 57 = omega arith in
    rw (le-leb _ _ lo, le-leb _ _ hi) refl

pub no_digit : (b : ℕ) → (48 ≤ b → b ≤ 57 → ⊥) → is_digit b ≡ false
no_digit b h = go (leb 48 b) (leb b 57) refl refl
  where
    go : (x y : Bool) → leb 48 b ≡ x → leb b 57 ≡ y → is_digit b ≡ false
    go true true p q = absurd (h (leb-true 48 b p) (leb-true b 57 q))
    go true false p q = rw (p, q) refl
    go false y p q = rw p refl

pub and_false : (x : Bool) → x && false ≡ false
and_false true = refl
and_false false = refl

-- the parts of a conjunction
pub both_true : (x y : Bool) → x && y ≡ true → (x ≡ true) × (y ≡ true)
both_true true y e = (refl, e)
both_true false y e = absurd (no (sym e))

-- ---- a field is read

-- a numeral does not begin with a blank
numeral_bare : (ds : List ℕ) (n : ℕ) → Numeral ds n → digits ds ≡ ds
unfolding digits decimal
numeral_bare [] n h = refl
numeral_bare (b ∷ ds) n h =
    let r = digit_range b (both_true (is_digit b) (decimal ds) h.decimals).0 in
    let ne : b ≡ 32 → ⊥ = λ e. omega (arith, e, r.0) in
    rw (ne_eqb b 32 ne) refl

blanks_off : (k : ℕ) (ds : List ℕ) → digits (replicate k 32 ++ ds) ≡ digits ds
unfolding digits
blanks_off zero ds = refl
blanks_off (suc k) ds = blanks_off k ds

numeral_no_zero : (ds : List ℕ) (n : ℕ) → Numeral ds n → leading_zero ds ≡ false
unfolding leading_zero
numeral_no_zero ds n h = go (eqb (get_or ds 0 0) 48) refl
  where
    go : (x : Bool) → eqb (get_or ds 0 0) 48 ≡ x → ltb 1 (length ds) && eqb (get_or ds 0 0) 48 ≡ false
    go true e = rw (h.zero_alone (eqb-true _ _ e)) refl
    go false e = rw e (and_false (ltb 1 (length ds)))

pub numeral_read : (ds : List ℕ) (n : ℕ) → Numeral ds n → n ≤ 4294967295 → number ds ≡ Some n
unfolding number value
numeral_read ds n h s =
    let ne : length ds ≡ 0 → ⊥ = λ e. omega (arith, e, h.some_digit) in
    let fits : n ≤ limit = omega arith in
    rw (ne_eqb _ _ ne, numeral_no_zero ds n h, h.decimals, h.value, le-leb _ _ fits) refl

pub field_read : (l : List ℕ) (n : ℕ) → IsField l n → number (digits l) ≡ Some n
field_read l n h =
    rw (h.text, blanks_off h.blanks h.figures, numeral_bare h.figures n h.numeral) (numeral_read h.figures n h.numeral h.fits)

-- ---- what is read is a field

-- what a test passed on
not_ill : (x : Bool) (r : Option ℕ) (n : ℕ) → cond x None r ≡ Some n → (x ≡ false) × (r ≡ Some n)
not_ill true r n e = let y : ◌≡◌ {A = ℕ} 0 1 = cc in absurd (omega arith)
not_ill false r n e = (refl, e)

well : (x : Bool) (r : Option ℕ) (n : ℕ) → cond x r None ≡ Some n → (x ≡ true) × (r ≡ Some n)
well true r n e = (refl, e)
well false r n e = let y : ◌≡◌ {A = ℕ} 0 1 = cc in absurd (omega arith)

alone : (ds : List ℕ) → 0 < length ds → leading_zero ds ≡ false → get_or ds 0 0 ≡ 48 → length ds ≡ 1
unfolding leading_zero
alone ds s h e = go (ltb 1 (length ds)) refl
  where
    go : (x : Bool) → ltb 1 (length ds) ≡ x → length ds ≡ 1
    go true p = let z : true ≡ false = (rw (p, eq-eqb _ _ e) at h) in absurd (no z)
    go false p = omega (arith, ltb-false 1 (length ds) p)

read_numeral : (ds : List ℕ) (n : ℕ) → number ds ≡ Some n → Numeral ds n × (n ≤ 4294967295)
unfolding number value
read_numeral ds n e =
    let some = not_ill (eqb (length ds) 0) _ n e in
    let front = not_ill (leading_zero ds) _ n some.1 in
    let all = well (decimal ds) _ n front.1 in
    let small = well (leb (value_from 0 ds) limit) _ n all.1 in
    let is : value_from 0 ds ≡ n = cc in
    let ne : length ds ≡ 0 → ⊥ = eqb-false _ _ some.0 in
    let s : 0 < length ds = omega arith in
    (record { decimals = all.0; some_digit = s; zero_alone = alone ds s front.0; value = is }, omega (arith, leb-true (value_from 0 ds) limit small.0, is))

pub read_field : (l : List ℕ) (n : ℕ) → number (digits l) ≡ Some n → IsField l n
unfolding digits
read_field [] n e =
    let h = read_numeral [] n e in
    record { blanks = 0; figures = []; text = refl; numeral = h.0; fits = h.1 }
read_field (b ∷ l) n e = go (eqb b 32) refl e (λ t. read_field l n t)
  where
    go : (x : Bool) → eqb b 32 ≡ x → number (cond x (digits l) (b ∷ l)) ≡ Some n → (number (digits l) ≡ Some n → IsField l n) → IsField (b ∷ l) n
    go true p e ih =
        let h = ih e in
        let is : b ≡ 32 = eqb-true b 32 p in
        record { blanks = suc h.blanks; figures = h.figures; text = rw (is, h.text) refl; numeral = h.numeral; fits = h.fits }
    go false p e ih =
        let h = read_numeral (b ∷ l) n e in
        record { blanks = 0; figures = b ∷ l; text = refl; numeral = h.0; fits = h.1 }

pub reads_fields : ReadsFields
reads_fields l n = (read_field l n, field_read l n)
