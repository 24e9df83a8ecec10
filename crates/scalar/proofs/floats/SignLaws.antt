-- Signs and kinds of floats, by their parts and by their bits. Assumes nothing.
use mathlib.Core.Path.{◌≡◌, refl, sym, ap, ◌∙◌, subst}
use mathlib.Core.Bool.{Bool, true, false, not, ◌&&◌, ◌||◌, beq, cond, true≢false}
use mathlib.Core.Logic.{inl, inr}
use Prim.Native.Nat.{ℕ, zero, suc, ◌*◌, ◌%◌, ◌^◌, ◌<◌, ◌≤◌}
use lib.Dec.{T, eqb, eqb_refl, lt→ltb}
use lib.Arith.{le→nltb}
use lib.Ieee.{Float, nan, inf, fin, Format, binary32, up, down, odd, neg, level, ne, eq, mul, of_bits, nan_bits, is_nan}
use lib.Ieee.Exact.{HasValue}
use lib.Ieee.Scale.{finite}
use lib.Ieee.Bits.{nan_bits_is, nan_bits_above, is_true}
use Rattle.laws.specs.Exact.{negative}
use Rattle.scalar.specs.Sign.{abs, copysign, signum, one}
use Rattle.scalar.proofs.floats.PartsLaws.{Other, value_of_parts}

pub sign_nan : (x : Float) → x ≡ nan → false ≡ negative x
unfolding negative
sign_nan x e = sym (ap negative e)

pub sign_inf : (x : Float) (s : Bool) → x ≡ inf s → s ≡ negative x
unfolding negative
sign_inf x s e = sym (ap negative e)

pub sign_odd : (x : Float) (d : ℕ) (s : Bool) (q k l : ℕ) → x ≡ odd d s q k l → s ≡ negative x
unfolding negative odd
sign_odd x d s zero k l e = sym (ap negative e)
sign_odd x d s (suc q) k l e = sym (ap negative e)

pub abs_neg : (x : Float) → negative x ≡ true → neg x ≡ abs x
unfolding negative abs neg
abs_neg nan h = refl
abs_neg (inf s) h = ap (λ (b : Bool). inf (not b)) h
abs_neg (fin s m e) h = ap (λ (b : Bool). fin (not b) m e) h

pub abs_pos : (x : Float) → negative x ≡ false → x ≡ abs x
unfolding negative abs
abs_pos nan h = refl
abs_pos (inf s) h = ap inf h
abs_pos (fin s m e) h = ap (λ (b : Bool). fin b m e) h

pub abs_value : (x : Float) (s : Bool) (a c : ℕ) → HasValue x s a c → HasValue (abs x) false a c
unfolding abs
abs_value nan s a c h = h
abs_value (inf t) s a c h = h
abs_value (fin t m e) s a c h = (refl, h.1)

pub abs_sign : (x : Float) → negative (abs x) ≡ false
unfolding abs negative
abs_sign nan = refl
abs_sign (inf s) = refl
abs_sign (fin s m e) = refl

-- a number's square is that of its size
pub abs_square : (f : Format) (x : Float) → mul f (abs x) (abs x) ≡ mul f x x
unfolding abs mul
abs_square f nan = refl
abs_square f (inf true) = refl
abs_square f (inf false) = refl
abs_square f (fin true m e) = refl
abs_square f (fin false m e) = refl

pub copy : (x y : Float) (b : Bool) → negative y ≡ b → copysign x y ≡ cond b (neg (abs x)) (abs x)
unfolding copysign
copy x y b h = ap (λ (c : Bool). cond c (neg (abs x)) (abs x)) h

-- the bits of f32::NAN
pub nan_constant : of_bits binary32 2143289344 ≡ nan
unfolding of_bits
nan_constant = refl

pub pattern_nan : (b : ℕ) → 2139095040 < b % 2147483648 → of_bits binary32 b ≡ nan
pattern_nan b h = is_nan_lem (of_bits binary32 b) (subst T (nan_bits_is binary32 b) (subst T (sym (nan_bits_above binary32 b)) (lt→ltb 2139095040 (b % 2147483648) h)))
  where
    is_nan_lem : (x : Float) → T (is_nan x) → x ≡ nan
    is_nan_lem nan t = refl
    is_nan_lem (inf s) t = absurd (unfold is_nan in t)
    is_nan_lem (fin s m e) t = absurd (unfold is_nan in t)

pub pattern_plain : (b : ℕ) → b % 2147483648 ≤ 2139095040 → T (not (nan_bits binary32 b))
pattern_plain b h = subst (λ (c : Bool). T (not c)) (sym (nan_bits_above binary32 b)) (le→nltb 2139095040 (b % 2147483648) h)

pub sign_of_nan : (x : Float) → is_nan x ≡ true → x ≡ signum x
unfolding signum is_nan
sign_of_nan nan h = refl
sign_of_nan (inf s) h = absurd (true≢false (sym h))
sign_of_nan (fin s m e) h = absurd (true≢false (sym h))

pub sign_of_other : (x : Float) → is_nan x ≡ false → copysign one x ≡ signum x
unfolding signum is_nan
sign_of_other nan h = absurd (true≢false h)
sign_of_other (inf s) h = refl
sign_of_other (fin s m e) h = refl

-- ---- kinds
pub nan_differs : (x : Float) → ne x x ≡ is_nan x
unfolding ne eq is_nan
nan_differs nan = refl
nan_differs (inf true) = refl
nan_differs (inf false) = refl
nan_differs (fin s m e) = ap not (level_self s (m * up e * down e))
  where
    level_self : (s : Bool) (n : ℕ) → level s n s n ≡ true
    level_self s n = ap (λ (b : Bool). b && (beq s s || eqb n 0)) (is_true (eqb n n) (eqb_refl n)) ∙ same s (eqb n 0)
      where
        same : (s b : Bool) → true && (beq s s || b) ≡ true
        same true b = refl
        same false b = refl

pub other_infinite : (x : Float) → Other x → false ≡ finite x
other_infinite x (inl e) = sym (ap finite e)
other_infinite x (inr p) = sym (ap finite p.1)

pub parts_finite : (x : Float) (s : Bool) (q k : ℕ) → x ≡ odd 24 s q k 149 → true ≡ finite x
parts_finite x s q k e = value_finite x s (q * 2 ^ k) (2 ^ 149) (value_of_parts x s q k e)
  where
    value_finite : (x : Float) (s : Bool) (a c : ℕ) → HasValue x s a c → true ≡ finite x
    value_finite nan s a c h = absurd h
    value_finite (inf t) s a c h = absurd h
    value_finite (fin t m e) s a c h = refl

-- what `from_bits` of src/bits.rt uses
pub ruleset patterns = (pattern_nan, pattern_plain, nan_constant)

-- what `is_sign_negative` of src/sign.rt uses
pub ruleset negatives = (sign_nan, sign_inf, sign_odd)

-- what `signum` of src/sign.rt uses
pub ruleset signums = (sign_of_nan, sign_of_other)

-- what `abs` of src/sign.rt uses
pub ruleset sizes = (abs_neg, abs_pos)
