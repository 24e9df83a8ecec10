-- The fields of a float's bit pattern, and the significand and the exponent that they give. Assumes nothing.
use mathlib.Core.Path.{◌≡◌, refl, sym, ap, ap₂, ◌∙◌, subst}
use mathlib.Core.Bool.{Bool, true, false, not, cond, true≢false}
use Prim.Native.Nat.{ℕ, zero, suc, ◌+◌, ◌-◌, ◌*◌, ◌/◌, ◌%◌, ◌^◌, ◌≤◌, ◌<◌}
use native.Mathlib.Nat.{add_comm}
use native.Mathlib.Omega.{arith}
use lib.Dec.{T, leb, ltb, eqb, eqb→eq, eqb_refl}
use lib.Ieee.{Float, nan, inf, fin, binary32, Format, prec, low, emax, odd, units, round, neg, fits, is_nan, to_bits, of_bits, of_fields}
use lib.Arith.{lt→nleb}
use lib.Ieee.Bits.{of_bits-to_bits, is_false}
use lib.Ieee.Scale.{finite}
use Rattle.laws.proofs.values.FiniteLaws.{finite_number}
use Rattle.scalar.specs.Parts.{Split}

-- ---- what the test for a NaN tells
pub no_nan : (x : Float) → is_nan x ≡ false → T (not (is_nan x))
no_nan x h = subst (λ (b : Bool). T (not b)) (sym h) tt

pub the_nan : (x : Float) → is_nan x ≡ true → x ≡ nan
unfolding is_nan
the_nan nan h = refl
the_nan (inf s) h = absurd (true≢false (sym h))
the_nan (fin s m e) h = absurd (true≢false (sym h))

pub nan_pattern : (x : Float) → is_nan x ≡ true → 2143289344 ≡ to_bits binary32 x
unfolding to_bits
nan_pattern x h = sym (ap (to_bits binary32) (the_nan x h))

-- ---- reading a pattern's fields
pub fields : (x : Float) → T (fits binary32 x)
    → x ≡ of_fields binary32 (leb 2147483648 (to_bits binary32 x)) (to_bits binary32 x % 2147483648 / 8388608) (to_bits binary32 x % 8388608)
unfolding of_bits
fields x h = sym (of_bits-to_bits binary32 x h)

pub at_255 : (x : Float) (s : Bool) (e t : ℕ) → x ≡ of_fields binary32 s e t → e ≡ 255 → T (not (is_nan x)) → x ≡ inf s
unfolding of_fields is_nan
at_255 x s e t h q n = let k : x ≡ cond (eqb t 0) (inf s) nan = h ∙ ap (λ (z : ℕ). of_fields binary32 s z t) q in k ∙ go (eqb t 0) (subst (λ (z : Float). T (not (is_nan z))) k n)
  where
    go : (b : Bool) → T (not (is_nan (cond b (inf s) nan))) → cond b (inf s) nan ≡ inf s
    go true m = refl
    go false m = absurd m

pub at_0 : (x : Float) (s : Bool) (e t : ℕ) → x ≡ of_fields binary32 s e t → e ≡ 0 → x ≡ odd 24 s t 0 149
unfolding of_fields
at_0 x s e t h q = h ∙ ap (λ (z : ℕ). of_fields binary32 s z t) q

at_suc : (s : Bool) (e t : ℕ) → (suc e ≡ 255 → ⊥) → of_fields binary32 s (suc e) t ≡ odd 24 s (t + 8388608) e 149
unfolding of_fields
at_suc s e t n = go (eqb (suc e) 255) (eqb→eq (suc e) 255) ∙ ap (λ (q : ℕ). odd 24 s q e 149) (add_comm 8388608 t)
  where
    go : (b : Bool) → (T b → suc e ≡ 255) → cond b (cond (eqb t 0) (inf s) nan) (odd 24 s (8388608 + t) e 149) ≡ odd 24 s (8388608 + t) e 149
    go true h = absurd (n (h tt))
    go false h = refl

pub at_mid : (x : Float) (s : Bool) (e t : ℕ) → x ≡ of_fields binary32 s e t → (e ≡ 0 → ⊥) → (e ≡ 255 → ⊥) → x ≡ odd 24 s (t + 8388608) (e - 1) 149
at_mid x s zero t h z n = absurd (z refl)
at_mid x s (suc e) t h z n = h ∙ at_suc s e t n ∙ ap (λ (k : ℕ). odd 24 s (t + 8388608) k 149) (one_less e)
  where
    one_less : (e : ℕ) → e ≡ suc e - 1
    one_less e = omega arith

pub split_0 : (b : ℕ) → Split (b % 8388608) 0
split_0 b = record { bits = omega arith; range = omega arith; least = λ h. refl }

pub split_mid : (b : ℕ) → (b % 2147483648 / 8388608 ≡ 255 → ⊥) → Split (b % 8388608 + 8388608) (b % 2147483648 / 8388608 - 1)
split_mid b n = record { bits = omega arith; range = omega arith; least = λ h. absurd (not_below b h) }
  where
    not_below : (b : ℕ) → b % 8388608 + 8388608 < 8388608 → ⊥
    not_below b h = omega arith

-- ---- a sign turned
odd_neg : (d : ℕ) (s : Bool) (q k l : ℕ) → neg (odd d s q k l) ≡ odd d (not s) q k l
unfolding odd neg
odd_neg d s zero k l = refl
odd_neg d s (suc q) k l = refl

units_neg : (f : Format) (s : Bool) (q k : ℕ) → neg (units f s q k) ≡ units f (not s) q k
unfolding units
units_neg f s q k = go (ltb (q * 2 ^ k) (2 ^ (low f + suc (emax f))))
  where
    go : (b : Bool) → neg (cond b (odd (suc (prec f)) s q k (low f)) (inf s)) ≡ cond b (odd (suc (prec f)) (not s) q k (low f)) (inf (not s))
    go true = odd_neg (suc (prec f)) s q k (low f)
    go false = unfold neg in refl

pub round_neg : (f : Format) (s : Bool) (a c : ℕ) → neg (round f s a c) ≡ round f (not s) a c
unfolding round
round_neg f s a c = units_neg f s _ _

-- ---- each finite value is a significand and its exponent
pub record PartsOf (x : Float) : Type 0 where
  pub s : Bool
  pub q : ℕ
  pub k : ℕ
  pub is : x ≡ odd 24 s q k 149
  pub split : Split q k

pub parts_of : (x : Float) → T (fits binary32 x) → T (finite x) → PartsOf x
parts_of x h f = go (eqb e 0) (eqb e 255) (eqb→eq e 0) (differ e 0) (eqb→eq e 255) (differ e 255)
  where
    b : ℕ
    b = to_bits binary32 x

    s : Bool
    s = leb 2147483648 (to_bits binary32 x)

    e : ℕ
    e = to_bits binary32 x % 2147483648 / 8388608

    differ : (m n : ℕ) → T (not (eqb m n)) → m ≡ n → ⊥
    differ m n t z = both (eqb n n) (eqb_refl n) (subst (λ (i : ℕ). T (not (eqb i n))) z t)
      where
        both : (c : Bool) → T c → T (not c) → ⊥
        both true p q = q
        both false p q = p

    go : (z i : Bool) → (T z → e ≡ 0) → (T (not z) → e ≡ 0 → ⊥) → (T i → e ≡ 255) → (T (not i) → e ≡ 255 → ⊥) → PartsOf x
    go true i p p' q q' = record { s = s; q = b % 8388608; k = 0; is = at_0 x s e (b % 8388608) (fields x h) (p tt); split = split_0 b }
    go false true p p' q q' = absurd (subst (λ (y : Float). T (finite y)) (at_255 x s e (b % 8388608) (fields x h) (q tt) (finite_number x f)) f)
    go false false p p' q q' = record { s = s; q = b % 8388608 + 8388608; k = e - 1; is = at_mid x s e (b % 8388608) (fields x h) (p' tt) (q' tt); split = split_mid b (q' tt) }

-- ---- a positive normal value, by its bits
pub record Normal (x : Float) (b : ℕ) : Type 0 where
  pub is : x ≡ odd 24 false (b % 8388608 + 8388608) (b / 8388608 - 1) 149
  pub bits : b % 8388608 + 8388608 < 2 ^ 24
  pub range : b / 8388608 - 1 < 254

pub normal : (x : Float) → T (fits binary32 x) → 8388608 ≤ to_bits binary32 x → to_bits binary32 x < 2139095040 → Normal x (to_bits binary32 x)
normal x h l u = record { is = whole (to_bits binary32 x) l u (fields x h); bits = omega arith; range = omega arith }
  where
    positive : (b : ℕ) → b < 2139095040 → leb 2147483648 b ≡ false
    positive b u = is_false (leb 2147483648 b) (lt→nleb 2147483648 b (omega arith))

    same : (b : ℕ) → b < 2139095040 → b % 2147483648 / 8388608 ≡ b / 8388608
    same b u = omega arith

    some : (b : ℕ) → 8388608 ≤ b → b / 8388608 ≡ 0 → ⊥
    some b l e = omega arith

    finite_field : (b : ℕ) → b < 2139095040 → b / 8388608 ≡ 255 → ⊥
    finite_field b u e = omega arith

    whole : (b : ℕ) → 8388608 ≤ b → b < 2139095040 → x ≡ of_fields binary32 (leb 2147483648 b) (b % 2147483648 / 8388608) (b % 8388608) → x ≡ odd 24 false (b % 8388608 + 8388608) (b / 8388608 - 1) 149
    whole b l u e = at_mid x false (b / 8388608) (b % 8388608) (e ∙ ap₂ (λ (s : Bool) (i : ℕ). of_fields binary32 s i (b % 8388608)) (positive b u) (same b u)) (some b l) (finite_field b u)

-- what `to_bits` of src/bits.rt uses
pub ruleset bits_read = (no_nan, nan_pattern)
