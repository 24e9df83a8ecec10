-- The size and the sign of a float, and the fraction that it is: each told by the other; and which sizes a format has. Assumes nothing.
use mathlib.Core.Path.{◌≡◌, refl, sym, ap, ◌∙◌, subst, subst₂}
use mathlib.Core.Bool.{Bool, true, false, ◌&&◌}
use Prim.Native.Nat.{ℕ, zero, suc, ◌+◌, ◌-◌, ◌*◌, ◌/◌, ◌%◌, ◌^◌, ◌≤◌, ◌<◌}
use native.Mathlib.Nat.{le_refl, lt_of_le_of_lt, lt_of_lt_of_le, lt_of_not-le, not-le_of_lt, zero-mul, one-mul, mul-one, mul_assoc, mul-div_cancel, mul-lt-mul_of_pos_right, lt_of_mul-lt-mul_right, mul_comm, mul_right_comm}
use native.Mathlib.Omega.{arith}
use lib.IntN.{ℤ, pos, negsuc}
use lib.Dec.{T, leb, ltb, eqb, leb→le, ltb→lt}
use lib.Pow.{pow-add, pow_pos, pow_mono, pow-lt, shl_lt}
use lib.Ieee.{Float, nan, inf, fin, Format, prec, emax, low, up, down, fits}
use lib.Ieee.Digits.{back}
use lib.Ieee.Fits.{two, two-le_pos, and_l, and_r, down_pos}
use lib.Ieee.Positive.{positive, positive-finite, value_pos}
use lib.Ieee.Scale.{overflow, finite}
use Rattle.laws.specs.Exact.{negative, size_in}
use Rattle.laws.proofs.values.ValueLaws.{Value, value_unique}

-- ---- N smallest values have the size N
pub size_of_value : (f : Format) (x : Float) (s : Bool) (N : ℕ) → Value f x s N → (size_in f x ≡ N) × (negative x ≡ s)
unfolding size_in negative
size_of_value f nan s N h = absurd h
size_of_value f (inf t) s N h = absurd h
size_of_value f (fin t m e) s N h = (ap (λ (x : ℕ). x / down e) h.1 ∙ mul-div_cancel N (down_pos e), h.0)

-- either zero
pub zero_size : (f : Format) (s : Bool) (e : ℤ) → size_in f (fin s 0 e) ≡ 0
zero_size f s e = (size_of_value f (fin s 0 e) s 0 (refl, ap (λ (n : ℕ). n * 2 ^ low f) (zero-mul (up e)) ∙ zero-mul (2 ^ low f) ∙ sym (zero-mul (down e)))).0

-- ---- the size of a finite value of the format: a significand below 2 ^ prec, shifted left
pow_below : (i j : ℕ) → 2 ^ i < 2 ^ j → i < j
pow_below i j h = lt_of_not-le (λ (g : j ≤ i). not-le_of_lt h (pow_mono g))

-- 2 ^ e is 2 ^ exponent / 2 ^ l
record Shift (l : ℕ) (e : ℤ) : Type 0 where
  exponent : ℕ
  same : up e * 2 ^ l ≡ 2 ^ exponent * down e

shift : (l : ℕ) (e : ℤ) → down e ≤ 2 ^ l → Shift l e
shift l (pos k) h = record { exponent = k + l; same = sym (mul-one (2 ^ (k + l)) ∙ pow-add 2 k l) }
shift l (negsuc k) h =
    record {
      exponent = l - suc k;
      same = one-mul (2 ^ l) ∙ ap (λ (x : ℕ). 2 ^ x) (sym (back l (suc k) (pow_below k l (lt_of_lt_of_le (pow-lt (le_refl (suc k))) h)))) ∙ pow-add 2 (l - suc k) (suc k);
    }

-- x is ±bits * 2 ^ exponent smallest values
pub record Significand (f : Format) (x : Float) : Type 0 where
  pub bits : ℕ
  pub exponent : ℕ
  pub few : bits < 2 ^ prec f
  pub value : Value f x (negative x) (bits * 2 ^ exponent)
  pub below : bits * 2 ^ exponent < overflow f

pub significand : (f : Format) (x : Float) → T (fits f x) → T (finite x) → Significand f x
unfolding negative fits
significand f nan h t = absurd t
significand f (inf s) h t = absurd t
significand f (fin s zero e) h t =
    record {
      bits = 0;
      exponent = 0;
      few = pow_pos (prec f);
      value = (refl, ap (λ (x : ℕ). x * 2 ^ low f) (zero-mul (up e)) ∙ zero-mul (2 ^ low f) ∙ sym (zero-mul (down e)));
      below = pow_pos (low f + suc (emax f));
    }
significand f (fin s (suc m) e) h t =
    let odd = eqb (suc m % 2) 1 in
    let short = ltb (suc m) (2 ^ prec f) in
    let fine = leb (down e) (2 ^ low f) in
    let h3 = and_l (odd && short && fine) (ltb (suc m * up e) (2 ^ suc (emax f) * down e)) h in
    let r = shift (low f) e (leb→le (down e) (2 ^ low f) (and_r (odd && short) fine h3)) in
    let v : suc m * up e * 2 ^ low f ≡ suc m * 2 ^ r.exponent * down e =
    mul_assoc (suc m) (up e) (2 ^ low f) ∙ ap (λ (x : ℕ). suc m * x) r.same ∙ sym (mul_assoc (suc m) (2 ^ r.exponent) (down e)) in
    record {
      bits = suc m;
      exponent = r.exponent;
      few = ltb→lt (suc m) (2 ^ prec f) (and_r odd short (and_l (odd && short) fine h3));
      value = (refl, v);
      below =
          under (suc m * 2 ^ r.exponent) (suc m * up e) (down e) (2 ^ low f) (2 ^ suc (emax f)) (overflow f) (pow_pos (low f)) v
          (ltb→lt (suc m * up e) (2 ^ suc (emax f) * down e) (and_r (odd && short && fine) (ltb (suc m * up e) (2 ^ suc (emax f) * down e)) h))
          (pow-add 2 (low f) (suc (emax f)));
    }
  where
    under : (N a d l b t : ℕ) → 0 < l → a * l ≡ N * d → a < b * d → t ≡ l * b → N < t
    under N a d l b t L v h e =
        let g : b * d * l ≡ t * d = mul_right_comm b d l ∙ ap (λ (x : ℕ). x * d) (mul_comm b l ∙ sym e) in
        lt_of_mul-lt-mul_right d (subst₂ (λ (x y : ℕ). x < y) v g (mul-lt-mul_of_pos_right h L))

-- so a finite value is its size in smallest values
pub value_of_size : (f : Format) (x : Float) → T (fits f x) → T (finite x) → Value f x (negative x) (size_in f x)
value_of_size f x h t =
    let d = significand f x h t in
    subst (λ (N : ℕ). Value f x (negative x) N) (sym (size_of_value f x (negative x) (d.bits * 2 ^ d.exponent) d.value).0) d.value

-- one whose sign is clear
pub unsigned_value : (f : Format) (x : Float) → T (fits f x) → T (finite x) → negative x ≡ false → Value f x false (size_in f x)
unsigned_value f x h t p = subst (λ (s : Bool). Value f x s (size_in f x)) p (value_of_size f x h t)

-- one above zero
pub positive_sign : (x : Float) → T (positive x) → negative x ≡ false
unfolding negative
positive_sign nan p = refl
positive_sign (inf s) p = absurd p
positive_sign (fin true m e) p = absurd p
positive_sign (fin false m e) p = refl

pub positive_size : (f : Format) (x : Float) → T (fits f x) → T (positive x) → 0 < size_in f x
positive_size f x h p = value_pos x (size_in f x) (2 ^ low f) p (pow_pos (low f)) (unsigned_value f x h (positive-finite x p) (positive_sign x p))

pub size_below : (f : Format) (x : Float) → T (fits f x) → T (finite x) → size_in f x < overflow f
size_below f x h t =
    let d = significand f x h t in
    subst (λ (N : ℕ). N < overflow f) (sym (size_of_value f x (negative x) (d.bits * 2 ^ d.exponent) d.value).0) d.below

-- the sign and the size tell the value
pub size_unique : (f : Format) (x y : Float) → T (fits f x) → T (fits f y) → T (finite x) → T (finite y) → negative x ≡ negative y → size_in f x ≡ size_in f y → x ≡ y
size_unique f x y h k t u e d =
    value_unique f x y (negative x) (size_in f x) h k (value_of_size f x h t)
    (subst₂ (λ (b : Bool) (N : ℕ). Value f y b N) (sym e) (sym d) (value_of_size f y k u))

-- a large size is a multiple of a large power of two
pub coarse : (f : Format) (x : Float) (j : ℕ) → T (fits f x) → T (finite x) → 2 ^ (prec f - 1 + j) ≤ size_in f x → (w : ℕ) × (size_in f x ≡ w * 2 ^ j)
coarse f x j h t l =
    (m * 2 ^ (z - j), is ∙ ap (λ (i : ℕ). m * 2 ^ i) (sym (back z j enough)) ∙ ap (λ (y : ℕ). m * y) (pow-add 2 (z - j) j) ∙ sym (mul_assoc m (2 ^ (z - j)) (2 ^ j)))
  where
    m : ℕ
    m = (significand f x h t).bits

    z : ℕ
    z = (significand f x h t).exponent

    is : size_in f x ≡ m * 2 ^ z
    is = (size_of_value f x (negative x) (m * 2 ^ z) (significand f x h t).value).0

    enough : j ≤ z
    enough =
        room (prec f) j z (two-le_pos (prec f) (two f))
        (pow_below (prec f - 1 + j) (prec f + z) (lt_of_le_of_lt l (subst (λ (N : ℕ). N < 2 ^ (prec f + z)) (sym is) (shl_lt (prec f) z (significand f x h t).few))))
      where
        room : (p j z : ℕ) → 0 < p → p - 1 + j < p + z → j ≤ z
        room p j z P h = omega arith
