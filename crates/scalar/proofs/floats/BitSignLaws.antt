-- The sign functions on bit patterns agree with those on floats, wherever the sign comes from a number: at a NaN's sign the language is blind. Assumes nothing.
use mathlib.Core.Path.{◌≡◌, refl, sym, ap, ap₂, ◌∙◌, subst}
use mathlib.Core.Bool.{Bool, true, false, not, cond}
use Prim.Native.Nat.{ℕ, zero, suc, ◌+◌, ◌/◌, ◌%◌, ◌<◌}
use native.Mathlib.Nat.{zero-add}
use native.Mathlib.Omega.{arith}
use lib.Dec.{T, leb, eqb, le→leb}
use lib.Arith.{lt→nleb}
use lib.Ieee.{Float, nan, inf, fin, binary32, odd, neg, fits, of_fields, of_bits, to_bits, is_nan, nan_bits}
use lib.Ieee.Bits.{is_true, is_false, nan_bits_is, of_bits-to_bits}
use Rattle.laws.specs.Exact.{negative}
use Rattle.scalar.specs.Sign.{abs, copysign, sign_bit, copysign_bits}
use Rattle.scalar.proofs.floats.SignLaws.{sign_odd, copy}

sign_of_fields : (s : Bool) (e t : ℕ) → T (not (is_nan (of_fields binary32 s e t))) → negative (of_fields binary32 s e t) ≡ s
unfolding of_fields is_nan negative
sign_of_fields s zero t n = sym (sign_odd (odd 24 s t 0 149) 24 s t 0 149 refl)
sign_of_fields s (suc e) t n = go (eqb (suc e) 255) (eqb t 0) n
  where
    go : (a b : Bool) → T (not (is_nan (cond a (cond b (inf s) nan) (odd 24 s (8388608 + t) e 149)))) → negative (cond a (cond b (inf s) nan) (odd 24 s (8388608 + t) e 149)) ≡ s
    go true true n = refl
    go true false n = absurd n
    go false b n = sym (sign_odd (odd 24 s (8388608 + t) e 149) 24 s (8388608 + t) e 149 refl)

pub sign_of_bits : (b : ℕ) → T (not (is_nan (of_bits binary32 b))) → negative (of_bits binary32 b) ≡ sign_bit b
unfolding of_bits
sign_of_bits b n = sign_of_fields (sign_bit b) (b % 2147483648 / 8388608) (b % 8388608) n

-- a value of the sign u, from the one of the sign s
signed_odd : (u s : Bool) (q k : ℕ) → odd 24 u q k 149 ≡ cond u (neg (abs (odd 24 s q k 149))) (abs (odd 24 s q k 149))
unfolding odd abs neg
signed_odd true s zero k = refl
signed_odd false s zero k = refl
signed_odd true s (suc q) k = refl
signed_odd false s (suc q) k = refl

signed_fields : (u s : Bool) (e t : ℕ) → of_fields binary32 u e t ≡ cond u (neg (abs (of_fields binary32 s e t))) (abs (of_fields binary32 s e t))
unfolding of_fields abs neg
signed_fields u s zero t = signed_odd u s t 0
signed_fields u s (suc e) t = go (eqb (suc e) 255) (eqb t 0) u
  where
    go : (a b v : Bool)
        → cond a (cond b (inf v) nan) (odd 24 v (8388608 + t) e 149)
        ≡ cond v (neg (abs (cond a (cond b (inf s) nan) (odd 24 s (8388608 + t) e 149)))) (abs (cond a (cond b (inf s) nan) (odd 24 s (8388608 + t) e 149)))
    go true true true = refl
    go true true false = refl
    go true false true = refl
    go true false false = refl
    go false b v = signed_odd v s (8388608 + t) e

-- the fields of a pattern with another sign bit
fields_with : (s : Bool) (m : ℕ) → m < 2147483648 → of_bits binary32 (cond s 2147483648 0 + m) ≡ of_fields binary32 s (m / 8388608) (m % 8388608)
unfolding of_bits
fields_with true m h = λ i. of_fields binary32 (is_true (leb 2147483648 (2147483648 + m)) (le→leb 2147483648 (2147483648 + m) (omega arith)) i) (above m h i / 8388608) (significand m i)
  where
    above : (m : ℕ) → m < 2147483648 → (2147483648 + m) % 2147483648 ≡ m
    above m h = omega arith

    significand : (m : ℕ) → (2147483648 + m) % 8388608 ≡ m % 8388608
    significand m = omega arith
fields_with false m h = λ i. of_fields binary32 (is_false (leb 2147483648 (0 + m)) (lt→nleb 2147483648 (0 + m) (omega arith)) i) (below m h i / 8388608) (zero-add m i % 8388608)
  where
    below : (m : ℕ) → m < 2147483648 → (0 + m) % 2147483648 ≡ m
    below m h = omega arith

pub copysign_of_bits : (a b : ℕ) → T (not (is_nan (of_bits binary32 b))) → of_bits binary32 (copysign_bits a b) ≡ copysign (of_bits binary32 a) (of_bits binary32 b)
unfolding copysign
copysign_of_bits a b n =
    fields_with (sign_bit b) (a % 2147483648) (omega arith)
    ∙ ap (λ (t : ℕ). of_fields binary32 (sign_bit b) (a % 2147483648 / 8388608) t) (significand a)
    ∙ signed_fields (sign_bit b) (sign_bit a) (a % 2147483648 / 8388608) (a % 8388608)
    ∙ ap (λ (x : Float). cond (sign_bit b) (neg (abs x)) (abs x)) (plain a)
    ∙ ap (λ (s : Bool). cond s (neg (abs (of_bits binary32 a))) (abs (of_bits binary32 a))) (sym (sign_of_bits b n))
  where
    significand : (a : ℕ) → a % 2147483648 % 8388608 ≡ a % 8388608
    significand a = omega arith

    plain : (a : ℕ) → of_fields binary32 (sign_bit a) (a % 2147483648 / 8388608) (a % 8388608) ≡ of_bits binary32 a
    plain a = unfold of_bits in refl

-- ---- so the sign functions on floats are those on their patterns
pub copysign_by_bits : (w x : Float) → T (fits binary32 w) → T (fits binary32 x) → T (not (is_nan x)) → of_bits binary32 (copysign_bits (to_bits binary32 w) (to_bits binary32 x)) ≡ copysign w x
copysign_by_bits w x fw fx n =
    copysign_of_bits (to_bits binary32 w) (to_bits binary32 x) (subst (λ (y : Float). T (not (is_nan y))) (sym (of_bits-to_bits binary32 x fx)) n)
    ∙ ap₂ copysign (of_bits-to_bits binary32 w fw) (of_bits-to_bits binary32 x fx)

zero_plain : T (not (is_nan (of_bits binary32 0))) × (negative (of_bits binary32 0) ≡ false)
unfolding of_bits is_nan negative
zero_plain = (tt, refl)

pub abs_by_bits : (x : Float) → T (fits binary32 x) → of_bits binary32 (to_bits binary32 x % 2147483648) ≡ abs x
abs_by_bits x fx =
    ap (of_bits binary32) (sym (zero-add (to_bits binary32 x % 2147483648)))
    ∙ copysign_of_bits (to_bits binary32 x) 0 zero_plain.0
    ∙ copy (of_bits binary32 (to_bits binary32 x)) (of_bits binary32 0) false zero_plain.1
    ∙ ap abs (of_bits-to_bits binary32 x fx)

pub abs_number : (x : Float) → T (not (is_nan x)) → T (not (is_nan (abs x)))
unfolding is_nan abs
abs_number nan h = h
abs_number (inf s) h = tt
abs_number (fin s m e) h = tt

neg_number : (x : Float) → T (not (is_nan x)) → T (not (is_nan (neg x)))
unfolding is_nan neg
neg_number nan h = h
neg_number (inf s) h = tt
neg_number (fin s m e) h = tt

pub copysign_number : (w x : Float) → T (not (is_nan w)) → T (not (is_nan (copysign w x)))
unfolding copysign
copysign_number w x h = go w (negative x) h
  where
    go : (w : Float) (s : Bool) → T (not (is_nan w)) → T (not (is_nan (cond s (neg (abs w)) (abs w))))
    go w true h = neg_number (abs w) (abs_number w h)
    go w false h = abs_number w h

-- ---- and these patterns are no NaN's
pub abs_pattern : (x : Float) → T (fits binary32 x) → T (not (is_nan x)) → T (not (nan_bits binary32 (to_bits binary32 x % 2147483648)))
abs_pattern x fx n = subst (λ (b : Bool). T (not b)) (sym (nan_bits_is binary32 (to_bits binary32 x % 2147483648) ∙ ap is_nan (abs_by_bits x fx))) (abs_number x n)

pub copysign_pattern : (b : ℕ) (w x : Float) → b ≡ copysign_bits (to_bits binary32 w) (to_bits binary32 x) → T (fits binary32 w) → T (fits binary32 x) → T (not (is_nan w)) → T (not (is_nan x)) → T (not (nan_bits binary32 b))
copysign_pattern b w x e fw fx m n = subst (λ (c : Bool). T (not c)) (sym (nan_bits_is binary32 b ∙ ap is_nan (ap (of_bits binary32) e ∙ copysign_by_bits w x fw fx n))) (copysign_number w x m)

pub signed_pattern : (b : ℕ) (w x : Float) → b ≡ copysign_bits (to_bits binary32 w) (to_bits binary32 x) → T (fits binary32 w) → T (fits binary32 x) → T (not (is_nan x)) → of_bits binary32 b ≡ copysign w x
signed_pattern b w x e fw fx n = ap (of_bits binary32) e ∙ copysign_by_bits w x fw fx n

-- what `size` of src/integral.rt uses
pub ruleset abs_bits = (abs_by_bits, abs_pattern)
