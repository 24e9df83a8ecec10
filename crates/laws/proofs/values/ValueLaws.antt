-- A value of a format is told by its sign and its count of smallest values: its bit pattern, and so the value itself. Assumes nothing.
use mathlib.Core.Path.{◌≡◌, refl, sym, ap, ◌∙◌, subst}
use mathlib.Core.Bool.{Bool, true, false, not, cond}
use Prim.Native.Nat.{ℕ, suc, ◌+◌, ◌-◌, ◌*◌, ◌/◌, ◌^◌, ◌≤◌, ◌<◌}
use native.Mathlib.Nat.{le_refl, le_trans, le_of_eq, lt_of_lt_of_le, lt_of_le_of_lt, le_antisymm, lt_of_not-le, not-le_of_lt, mul-one, suc-add, add-mul, mul_assoc, mul_right_comm, mul-div_cancel, mul-lt-mul_of_pos_right, mul-le-mul_right, eq_of_mul-eq-mul_right}
use native.Mathlib.Omega.{arith}
use lib.Dec.{T, ltb, lit<, ltb→lt, nltb→le, lt→ltb}
use lib.Pow.{pow_pos, pow-add, pow_mono, pow-lt, shl-shr}
use lib.Ieee.{Float, nan, inf, fin, Format, binary32, binary64, prec, emax, low, up, down, hid, top, size, odd, units, fits, to_bits, of_bits}
use lib.Ieee.Digits.{size-lt, size-le}
use lib.Ieee.Exact.{HasValue, units_val}
use lib.Ieee.Fits.{down_pos, odd-fits}
use lib.Ieee.Bits.{of_bits-to_bits}
use lib.Ieee.Scale.{finite}

-- x is ±N of the format's smallest values
abbrev pub Value : Format → Float → Bool → ℕ → Type 0
Value f x s N = HasValue x s N (2 ^ low f)

-- what is a fraction is finite
pub value_finite : (x : Float) (s : Bool) (a c : ℕ) → HasValue x s a c → T (finite x)
value_finite nan s a c h = absurd h
value_finite (inf t) s a c h = absurd h
value_finite (fin t m e) s a c h = tt

-- the same size, as another fraction
pub value_same : (x : Float) (s : Bool) (a c b d : ℕ) → 0 < c → a * d ≡ b * c → HasValue x s a c → HasValue x s b d
value_same nan s a c b d C h v = v
value_same (inf t) s a c b d C h v = v
value_same (fin t m e) s a c b d C h v = (
  v.0,
  eq_of_mul-eq-mul_right c C (m * up e * d) (b * down e)
      (mul_right_comm (m * up e) d c ∙ ap (λ (z : ℕ). z * d) v.1 ∙ mul_right_comm a (down e) d ∙ ap (λ (z : ℕ). z * down e) h ∙ mul_right_comm b c (down e)),
)

-- ---- the bit pattern of a count N
abbrev pub pattern : Format → Bool → ℕ → ℕ
pattern f s N = cond s (top f) 0 + (size N - prec f) * hid f + N / 2 ^ (size N - prec f)

pub to_bits_value : (f : Format) (v : Float) (s : Bool) (N : ℕ) → Value f v s N → to_bits f v ≡ pattern f s N
unfolding to_bits
to_bits_value f nan s N h = absurd h
to_bits_value f (inf t) s N h = absurd h
to_bits_value f (fin t m e) s N h =
    ap (λ (b : Bool). pattern f b (m * up e * 2 ^ low f / down e)) h.0
    ∙ ap (λ (n : ℕ). pattern f s n) (ap (λ (n : ℕ). n / down e) h.1 ∙ mul-div_cancel N (down_pos e))

pub value_unique : (f : Format) (x y : Float) (s : Bool) (N : ℕ) → T (fits f x) → T (fits f y) → Value f x s N → Value f y s N → x ≡ y
value_unique f x y s N p q h k =
    sym (of_bits-to_bits f x p) ∙ ap (of_bits f) (to_bits_value f x s N h ∙ sym (to_bits_value f y s N k)) ∙ of_bits-to_bits f y q

-- ---- how many bits a number has
pub size_more : (n j : ℕ) → 2 ^ j ≤ n → j < size n
size_more n j h = lt_of_not-le (λ (g : size n ≤ j). not-le_of_lt (lt_of_lt_of_le (size-lt n) (pow_mono g)) h)

pub size_is : (n j : ℕ) → 2 ^ j ≤ n → n < 2 ^ suc j → size n ≡ suc j
size_is n j h k = le_antisymm (size-le n (suc j) k) (size_more n j h)

-- ---- a significand q and its exponent k, packed
first : (f : Format) → 2 ^ prec f ≡ hid f * 2
first binary32 = refl
first binary64 = refl

prec_pos : (f : Format) → suc (prec f - 1) ≡ prec f
prec_pos binary32 = refl
prec_pos binary64 = refl

pattern_low : (f : Format) (s : Bool) (q : ℕ) → q < hid f → pattern f s (q * 2 ^ 0) ≡ cond s (top f) 0 + 0 * hid f + q
pattern_low f s q h =
    ap (pattern f s) (mul-one q)
    ∙ ap (λ (k : ℕ). cond s (top f) 0 + k * hid f + q / 2 ^ k) (none (size q) (prec f) (prec f - 1) (prec_pos f) (size-le q (prec f - 1) h))
    ∙ ap (λ (x : ℕ). cond s (top f) 0 + 0 * hid f + x) (sym (ap (λ (x : ℕ). x / 1) (mul-one q)) ∙ mul-div_cancel q (pow_pos 0))
  where
    none : (z p r : ℕ) → suc r ≡ p → z ≤ r → z - p ≡ 0
    none z p r e h = omega arith

pattern_mid : (f : Format) (s : Bool) (q k : ℕ) → hid f ≤ q → q < 2 ^ prec f → pattern f s (q * 2 ^ k) ≡ cond s (top f) 0 + k * hid f + q
pattern_mid f s q k h l =
    ap (λ (j : ℕ). cond s (top f) 0 + j * hid f + q * 2 ^ k / 2 ^ j) (drops (size (q * 2 ^ k)) (prec f) (prec f - 1) k (prec_pos f) z)
    ∙ ap (λ (x : ℕ). cond s (top f) 0 + k * hid f + x) (shl-shr q k)
  where
    drops : (z p r k : ℕ) → suc r ≡ p → z ≡ suc (r + k) → z - p ≡ k
    drops z p r k e h = omega arith

    wide : (q : ℕ) → q < 2 ^ prec f → q * 2 ^ k < 2 ^ suc (prec f - 1 + k)
    wide q l = lt_of_lt_of_le (mul-lt-mul_of_pos_right l (pow_pos k)) (le_of_eq (sym (pow-add 2 (prec f) k) ∙ ap (λ (x : ℕ). 2 ^ x) (ap (λ (x : ℕ). x + k) (sym (prec_pos f)) ∙ suc-add (prec f - 1) k)))

    z : size (q * 2 ^ k) ≡ suc (prec f - 1 + k)
    z = size_is (q * 2 ^ k) (prec f - 1 + k) (le_trans (le_of_eq (pow-add 2 (prec f - 1) k)) (mul-le-mul_right (2 ^ k) h)) (wide q l)

pattern_high : (f : Format) (s : Bool) (k : ℕ) → pattern f s (2 ^ prec f * 2 ^ k) ≡ cond s (top f) 0 + k * hid f + 2 ^ prec f
pattern_high f s k =
    ap (pattern f s) (ap (λ (x : ℕ). x * 2 ^ k) (first f) ∙ mul_assoc (hid f) 2 (2 ^ k) ∙ ap (λ (x : ℕ). hid f * x) (sym (pow-add 2 1 k)))
    ∙ pattern_mid f s (hid f) (1 + k) (le_refl (hid f)) (pow-lt (lower f))
    ∙ carry (cond s (top f) 0) (hid f) k
    ∙ ap (λ (x : ℕ). cond s (top f) 0 + k * hid f + x) (sym (first f))
  where
    lower : (f : Format) → prec f - 1 < prec f
    lower binary32 = lit< tt
    lower binary64 = lit< tt

    carry : (t h k : ℕ) → t + (1 + k) * h + h ≡ t + k * h + h * 2
    carry t h k = omega (arith, add-mul 1 k h)

pub pattern_is : (f : Format) (s : Bool) (q k : ℕ) → q ≤ 2 ^ prec f → (q < hid f → k ≡ 0) → pattern f s (q * 2 ^ k) ≡ cond s (top f) 0 + k * hid f + q
pattern_is f s q k h z = go (ltb q (hid f)) (ltb q (2 ^ prec f)) (ltb→lt q (hid f)) (nltb→le q (hid f)) (ltb→lt q (2 ^ prec f)) (nltb→le q (2 ^ prec f))
  where
    go : (a b : Bool) → (T a → q < hid f) → (T (not a) → hid f ≤ q) → (T b → q < 2 ^ prec f) → (T (not b) → 2 ^ prec f ≤ q) → pattern f s (q * 2 ^ k) ≡ cond s (top f) 0 + k * hid f + q
    go true b x x' y y' = subst (λ (j : ℕ). pattern f s (q * 2 ^ j) ≡ cond s (top f) 0 + j * hid f + q) (sym (z (x tt))) (pattern_low f s q (x tt))
    go false true x x' y y' = pattern_mid f s q k (x' tt) (y tt)
    go false false x x' y y' = subst (λ (r : ℕ). pattern f s (r * 2 ^ k) ≡ cond s (top f) 0 + k * hid f + r) (le_antisymm (y' tt) h) (pattern_high f s k)

-- ---- and unpacked: the bits of a significand and its exponent are the value that `round` makes of them
units_is : (f : Format) (s : Bool) (q k : ℕ) → q * 2 ^ k < 2 ^ (low f + suc (emax f)) → units f s q k ≡ odd (suc (prec f)) s q k (low f)
unfolding units
units_is f s q k h = cond_yes (ltb (q * 2 ^ k) (2 ^ (low f + suc (emax f)))) (odd (suc (prec f)) s q k (low f)) (inf s) (lt→ltb (q * 2 ^ k) (2 ^ (low f + suc (emax f))) h)
  where
    cond_yes : (b : Bool) (x y : Float) → T b → cond b x y ≡ x
    cond_yes true x y t = refl
    cond_yes false x y t = absurd t

units_fits : (f : Format) (s : Bool) (q k : ℕ) → q ≤ 2 ^ prec f → q * 2 ^ k < 2 ^ (low f + suc (emax f)) → T (fits f (units f s q k))
units_fits f s q k h l = subst (λ (v : Float). T (fits f v)) (sym (units_is f s q k l)) (odd-fits f (suc (prec f)) s q k (lt_of_le_of_lt h (pow-lt (le_refl (suc (prec f))))) h l)

pub packed : (f : Format) (s : Bool) (q k : ℕ) → q ≤ 2 ^ prec f → (q < hid f → k ≡ 0) → q * 2 ^ k < 2 ^ (low f + suc (emax f))
    → of_bits f (cond s (top f) 0 + k * hid f + q) ≡ units f s q k
packed f s q k h z l =
    ap (of_bits f) (sym (to_bits_value f (units f s q k) s (q * 2 ^ k) (units_val f s q k l) ∙ pattern_is f s q k h z))
    ∙ of_bits-to_bits f (units f s q k) (units_fits f s q k h l)
