-- The bits of a significand and its exponent, packed. Assumes nothing.
use mathlib.Core.Path.{◌≡◌, refl, sym, ap, ◌∙◌}
use mathlib.Core.Bool.{Bool, true, false, not, cond}
use Prim.Native.Nat.{ℕ, ◌+◌, ◌*◌, ◌%◌, ◌^◌, ◌≤◌, ◌<◌}
use native.Mathlib.Nat.{add_comm, add_assoc, zero-add, le_trans, le_of_eq, le_antisymm, lt_of_lt_of_le, lt_of_le_of_lt, mul-le-mul, mul-lt-mul_of_pos_right}
use native.Mathlib.Omega.{arith}
use lib.Dec.{T, ltb, ltb→lt, nltb→le}
use lib.Pow.{pow_pos, pow-add, pow_mono, pow-lt}
use lib.Ieee.{binary32, units, of_bits}
use Rattle.scalar.specs.Parts.{Packs}
use Rattle.laws.proofs.values.ValueLaws.{packed}
use Rattle.scalar.proofs.floats.SignLaws.{pattern_plain}

infinite : (s : Bool) → of_bits binary32 (cond s 2147483648 0 + 253 * 8388608 + 16777216) ≡ units binary32 s 16777216 253
unfolding of_bits units
infinite true = refl
infinite false = refl

pub pack_is : (s : Bool) (q k : ℕ) → Packs q k → of_bits binary32 (cond s 2147483648 0 + k * 8388608 + q) ≡ units binary32 s q k
pack_is s q k P = go (ltb k 253) (ltb q 16777216) (ltb→lt k 253) (nltb→le k 253) (ltb→lt q 16777216) (nltb→le q 16777216)
  where
    fine : q * 2 ^ k < 2 ^ 277 → of_bits binary32 (cond s 2147483648 0 + k * 8388608 + q) ≡ units binary32 s q k
    fine l = packed binary32 s q k P.most P.least l

    below : (k : ℕ) → k < 253 → 24 + k < 277
    below k h = omega arith

    upto : (k : ℕ) → k ≤ 253 → 24 + k ≤ 277
    upto k h = omega arith

    go : (a b : Bool) → (T a → k < 253) → (T (not a) → 253 ≤ k) → (T b → q < 16777216) → (T (not b) → 16777216 ≤ q) → of_bits binary32 (cond s 2147483648 0 + k * 8388608 + q) ≡ units binary32 s q k
    go true b x x' y y' = fine (lt_of_le_of_lt (mul-le-mul P.most (le_of_eq refl)) (lt_of_le_of_lt (le_of_eq (sym (pow-add 2 24 k))) (pow-lt (below k (x tt)))))
    go false true x x' y y' = fine (lt_of_lt_of_le (mul-lt-mul_of_pos_right (y tt) (pow_pos k)) (le_trans (le_of_eq (sym (pow-add 2 24 k))) (pow_mono (upto k P.range))))
    go false false x x' y y' =
        let eq : q ≡ 16777216 = le_antisymm P.most (y' tt) in
        let ek : k ≡ 253 = le_antisymm P.range (x' tt) in
        rw (eq, ek) (infinite s)

pub plain : (q k : ℕ) → Packs q k → (k * 8388608 + q) % 2147483648 ≤ 2139095040
plain q k P = let a = P.most in let b = P.range in omega arith

pub plain_top : (q k : ℕ) → Packs q k → (k * 8388608 + q + 2147483648) % 2147483648 ≤ 2139095040
plain_top q k P = let a = P.most in let b = P.range in omega arith

-- the bits that `pack` of src/bits.rt makes, by the sign
pub pack_minus : (s : Bool) (q k : ℕ) → Packs q k → s ≡ true → of_bits binary32 (k * 8388608 + q + 2147483648) ≡ units binary32 s q k
pack_minus s q k P h = ap (λ (b : ℕ). of_bits binary32 b) (add_comm (k * 8388608 + q) 2147483648 ∙ sym (add_assoc 2147483648 (k * 8388608) q)) ∙ pack_is true q k P ∙ ap (λ (s : Bool). units binary32 s q k) (sym h)

pub pack_plus : (s : Bool) (q k : ℕ) → Packs q k → s ≡ false → of_bits binary32 (k * 8388608 + q) ≡ units binary32 s q k
pack_plus s q k P h = ap (λ (b : ℕ). of_bits binary32 (b + q)) (sym (zero-add (k * 8388608))) ∙ pack_is false q k P ∙ ap (λ (s : Bool). units binary32 s q k) (sym h)

-- what `pack` of src/bits.rt uses
pub ruleset packing = (plain, plain_top, pack_minus, pack_plus, pattern_plain)
