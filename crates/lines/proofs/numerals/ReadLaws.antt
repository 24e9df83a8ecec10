-- Reading a field: the blanks before its digits, and the number of digits that are read one by one. Assumes nothing.
use Rattle.std.proofs.Common.{◌≡◌, ℕ, zero, suc, ◌+◌, ◌-◌, ◌*◌, ◌^◌, ◌<◌, ◌≤◌, Bool, true, false, cond, eqb, ltb, List, [], ◌∷◌, length, get_or, take, drop, sym, refl, ap, ◌∙◌, le_trans, mul-le-mul_right, mul_assoc, mul_comm, pow-suc, add-one, arith, length-drop, drop_of_length-le, take_all, drop-cons, ltb-false, ltb-true, lt-ltb, eq-eqb}
use Rattle.std.specs.Prelude.{None, not, unwrap_or, position}
use Rattle.std.specs.List.{position_or_len}
use Rattle.std.proofs.lemmas.List.Sums.{prefix_len-le-length}
use native.Mathlib.Nat.{pow-le-pow_right}
use borrow.Author.Tests.{lt-leb}
use Rattle.lines.specs.Field.{digits, is_digit, decimal, value_from, limit, value, leading_zero}
use Rattle.lines.specs.ColumnParts.{limited}
use Rattle.lines.proofs.numerals.FieldMeaningLaws.{digit_is, and_false}

-- ---- blanks

-- the part from i on is what is dropped to
pub part_from : (l : List ℕ) (i : ℕ) → take (length l - i) (drop i l) ≡ drop i l
part_from l i = take_all (length l - i) (drop i l) (omega (arith, length-drop i l))

-- the digits are what is behind the blanks
behind_blanks : (l : List ℕ) → drop (position_or_len (λ b. not (eqb b 32)) l) l ≡ digits l
unfolding digits
behind_blanks [] = refl
behind_blanks (b ∷ l) = go (eqb b 32) refl (behind_blanks l)
  where
    go : (x : Bool) → eqb b 32 ≡ x → drop (position_or_len (λ b. not (eqb b 32)) l) l ≡ digits l
        → drop (position_or_len (λ b. not (eqb b 32)) (b ∷ l)) (b ∷ l) ≡ digits (b ∷ l)
    go true e h = let more : 1 + position_or_len (λ b. not (eqb b 32)) l ≡ suc (position_or_len (λ b. not (eqb b 32)) l) = omega arith in rw (e, more) h
    go false e h = rw e refl

-- the part from the first column on that is not blank: i is that column, and where there is none, the end
pub part_behind : (l : List ℕ) (i : ℕ) → i ≡ unwrap_or (position (λ b. not (eqb b 32)) l) (length l) → take (length l - i) (drop i l) ≡ digits l
part_behind l i e = part_from l i ∙ (rw (e, place (ltb (position_or_len (λ b. not (eqb b 32)) l) (length l)) refl) (behind_blanks l))
  where
    place : (x : Bool) → ltb (position_or_len (λ b. not (eqb b 32)) l) (length l) ≡ x
        → unwrap_or (position (λ b. not (eqb b 32)) l) (length l) ≡ position_or_len (λ b. not (eqb b 32)) l
    place true p = rw p refl
    place false p = rw p (omega (arith, ltb-false _ _ p, prefix_len-le-length (λ b. not (not (eqb b 32))) l))

-- ---- digits

pub cond_same : {A : Type 0} (x : Bool) (a : A) → cond x a a ≡ a
cond_same true a = refl
cond_same false a = refl

-- a byte that is no digit
pub not_decimal : (d : List ℕ) (i : ℕ) → i < length d → is_digit (get_or d i 0) ≡ false → decimal d ≡ false
unfolding decimal
not_decimal [] i h e = absurd (omega arith)
not_decimal (b ∷ d) zero h e = rw e refl
not_decimal (b ∷ d) (suc i) h e = rw (not_decimal d i (omega arith) e) (and_false (is_digit b))

pub other_value : (l : List ℕ) (i : ℕ) → i < length l → is_digit (get_or l i 0) ≡ false → None ≡ value l
unfolding value
other_value l i h e = rw (not_decimal l i h e) refl

-- what is known of digits of which i are read, and gave n
pub record Reads (l : List ℕ) (n i : ℕ) : Type 0 where
  pub within : i ≤ length l
  pub below : n < 10 ^ i
  pub decimals : decimal l ≡ decimal (drop i l)
  pub number : value_from 0 l ≡ value_from n (drop i l)

module _ (l : List ℕ) (n i : ℕ) (h : Reads l n i) (lt : i < length l) where
  pub reads_more : (a : ℕ) → get_or l i 0 ≡ 48 + a → a ≤ 9 → Reads l (n * 10 + a) (i + 1)
  unfolding decimal value_from
  reads_more a e q =
      let next : n * 10 + (get_or l i 0 - 48) ≡ n * 10 + a = omega arith in
      record {
        within = omega arith;
        below = rw (add-one i) (omega (arith, pow-suc 10 i, h.below));
        decimals = h.decimals ∙ rw (add-one i, drop-cons l i 0 lt, digit_is _ a e q);
        number = h.number ∙ rw (add-one i, drop-cons l i 0 lt) (ap (λ (m : ℕ). value_from m (drop (suc i) l)) next);
      }

-- no digit is left
pub reads_all : (l : List ℕ) (n i : ℕ) → Reads l n i → length l ≤ i → limited n ≡ value l
unfolding decimal value_from value limited
reads_all l n i h e = rw (h.decimals, h.number, drop_of_length-le l e)

-- reading on never lowers the number
pub value_grows : (n : ℕ) (l : List ℕ) → n ≤ value_from n l
unfolding value_from
value_grows n [] = omega arith
value_grows n (b ∷ l) = omega (arith, value_grows (n * 10 + (b - 48)) l)

-- ---- more than ten digits

-- each digit more multiplies by ten at least
value_scaled : (n : ℕ) (l : List ℕ) → n * 10 ^ length l ≤ value_from n l
unfolding value_from
value_scaled n [] = omega arith
value_scaled n (b ∷ l) =
    let s : n * 10 * 10 ^ length l ≤ (n * 10 + (b - 48)) * 10 ^ length l = mul-le-mul_right (10 ^ length l) (omega arith) in
    let e : n * 10 ^ suc (length l) ≡ n * 10 * 10 ^ length l = rw (pow-suc 10 (length l), mul_comm (10 ^ length l) 10) (sym (mul_assoc n 10 (10 ^ length l))) in
    rw e (le_trans s (value_scaled (n * 10 + (b - 48)) l))

ten_more : (n : ℕ) (l : List ℕ) → 0 < n → 10 ≤ length l → limit < value_from n l
ten_more n l p q =
    let t : 10 ^ 10 ≤ 10 ^ length l = pow-le-pow_right {n = 10} (omega arith) q in
    let s : 1 * 10 ^ length l ≤ n * 10 ^ length l = mul-le-mul_right (10 ^ length l) p in
    omega (arith, value_scaled n l)

-- such digits are ill formed, if they do not begin with a zero
pub long_ill : (l : List ℕ) → 10 < length l → leading_zero l ≡ false → None ≡ value l
unfolding leading_zero value decimal value_from
long_ill [] p q = absurd (omega arith)
long_ill (b ∷ l) p q = go (ltb b 49) refl
  where
    no_zero : b ≡ 48 → ⊥
    no_zero e =
        let lt : 1 < length (b ∷ l) = omega arith in
        let z : true ≡ false = (rw (lt-ltb _ _ lt, eq-eqb _ _ e) at q) in
        let y : ◌≡◌ {A = ℕ} 0 1 = cc in
        omega arith

    go : (x : Bool) → ltb b 49 ≡ x → None ≡ value (b ∷ l)
    go true e =
        let ne : b ≡ 48 → ⊥ = no_zero in
        let lo : b < 48 = omega (arith, ltb-true b 49 e) in
        rw (lt-leb _ _ lo)
    go false e =
        let hi : 49 ≤ b = ltb-false b 49 e in
        let v : limit < value_from (0 * 10 + (b - 48)) l = ten_more (0 * 10 + (b - 48)) l (omega arith) (omega arith) in
        rw (lt-leb _ _ v) (sym (cond_same (decimal (b ∷ l)) None))
