-- Of n / c rounded to p bits: how large the kept number is, and from where on the result reaches 2 ^ (p + 1 + e). Assumes nothing.
use mathlib.Core.Path.{◌≡◌, sym, ap, ◌∙◌, subst}
use mathlib.Core.Logic.{inl, inr}
use Prim.Native.Nat.{ℕ, zero, suc, ◌+◌, ◌-◌, ◌*◌, ◌/◌, ◌%◌, ◌^◌, ◌≤◌, ◌<◌, compare}
use native.Mathlib.Nat.{eq-zero-or-pos, lt_irrefl, le_trans, le_of_eq, le_of_suc-le-suc, le-add_left, lt_of_not-le, eq-or-lt_of_le, suc-add, add-suc, suc-mul, mul_assoc, mul_comm, mul_left_comm, mul_right_comm, mul-le-mul_right, mul-pos, mul-mod_left, lt_of_mul-lt-mul_right, pow-suc, le-div_iff_mul-le, div-lt_iff_lt-mul, div-div-eq-div-mul}
use native.Mathlib.Omega.{arith}
use lib.Pow.{pow-add, pow_pos, pow_mono}
use lib.Ieee.{size}
use lib.Ieee.Digits.{size-le, size_reaches}
use lib.Ieee.Fits.{kept-lt, nearest-le}
use lib.Ieee.Nearest.{nearest-ge}
use lib.Ieee.Order.{drop, kept}
use Rattle.laws.specs.Within.{distance, Within}
use Rattle.laws.proofs.rounding.ClosestLaws.{closest_near, closest_tie}
use Rattle.laws.proofs.values.ValueLaws.{size_more}

-- ---- the kept number: at most 2 ^ p, and where any bits are dropped at least 2 ^ (p - 1)
pub kept_le : (p n c : ℕ) → kept p n c ≤ 2 ^ p
kept_le p n c =
    let u = c * 2 ^ drop p n c in
    le_trans (nearest-le (n / u) (compare (n % u * 2) u)) (subst (λ (x : ℕ). x < 2 ^ p) (div-div-eq-div-mul n c (2 ^ drop p n c)) (kept-lt p (n / c)))

pub whole_reaches : (p n c : ℕ) → 0 < p → 0 < c → 0 < drop p n c → 2 ^ (p - 1) * (c * 2 ^ drop p n c) ≤ n
whole_reaches p n c P C K =
    le_trans (le_of_eq (regroup (2 ^ (p - 1)) c (2 ^ drop p n c) ∙ ap (λ (x : ℕ). x * c) (sym (pow-add 2 (p - 1) (drop p n c)))))
    ((le-div_iff_mul-le C).0 (size_reaches (n / c) (p - 1 + drop p n c) (all_in_use (size (n / c)) p P K)))
  where
    all_in_use : (z p : ℕ) → 0 < p → 0 < z - p → p - 1 + (z - p) < z
    all_in_use z p P h = omega arith

    regroup : (x c y : ℕ) → x * (c * y) ≡ x * y * c
    regroup x c y = simp (mul_assoc, mul_comm)

pub kept_ge : (p n c : ℕ) → 0 < p → 0 < c → 0 < drop p n c → 2 ^ (p - 1) ≤ kept p n c
kept_ge p n c P C K =
    let u = c * 2 ^ drop p n c in
    le_trans ((le-div_iff_mul-le (mul-pos C (pow_pos (drop p n c)))).1 (whole_reaches p n c P C K)) (nearest-ge (n / u) (compare (n % u * 2) u))

-- ---- so is any w that is at most half a unit in the last place from n / c, as the kept one is
module _ (p n c w : ℕ) (C : 0 < c) (near : Within (w * (c * 2 ^ drop p n c) * 2) (n * 2) (c * 2 ^ drop p n c)) where
  u : ℕ
  u = c * 2 ^ drop p n c

  U : 0 < u
  unfolding u
  U = mul-pos C (pow_pos (drop p n c))

  pub near_le : w ≤ 2 ^ p
  unfolding u
  near_le = le_of_suc-le-suc (lt_of_not-le (past (2 ^ p) u ((div-lt_iff_lt-mul U).0 (subst (λ (x : ℕ). x < 2 ^ p) (div-div-eq-div-mul n c (2 ^ drop p n c)) (kept-lt p (n / c)))) near.0))
    where
      past : (b u : ℕ) → n < b * u → w * u * 2 ≤ n * 2 + u → suc b ≤ w → ⊥
      past b u l h g = let t = mul-le-mul_right u g in omega (arith, suc-mul b u)

  pub near_few : 0 < p → w < 2 ^ (p - 1) → drop p n c ≡ 0
  unfolding u
  near_few P h = elim (eq-zero-or-pos (drop p n c)) [ inl z ↦ z | inr z ↦ absurd (short (2 ^ (p - 1)) u U (whole_reaches p n c P C z) near.1 h) ]
    where
      short : (b u : ℕ) → 0 < u → b * u ≤ n → n * 2 ≤ w * u * 2 + u → suc w ≤ b → ⊥
      short b u U l h g = let t = mul-le-mul_right u g in omega (arith, suc-mul w u)

-- ---- the result is below 2 ^ (p + 1 + e) up to half a unit in the last place before it, the unit being 2 ^ (e + 1)
pub kept_under : (p e n c : ℕ) → 0 < c → n + 2 ^ e * c < 2 ^ (suc p + e) * c → kept p n c * 2 ^ drop p n c < 2 ^ (suc p + e)
kept_under p e n c C h =
    lt_of_mul-lt-mul_right c
    (sums (kept p n c) (2 ^ drop p n c) (2 ^ e) (2 ^ (suc p + e)) n c h unit (closest_near n (c * 2 ^ drop p n c) (mul-pos C (pow_pos (drop p n c)))).0)
  where
    few : (z p e : ℕ) → z ≤ suc p + e → z - p ≤ suc e
    few z p e h = omega arith

    less : (n x y : ℕ) → n + x < y → n < y
    less n x y h = omega arith

    unit : 2 ^ drop p n c ≤ 2 ^ e * 2
    unit =
        le_trans (pow_mono (few (size (n / c)) p e (size-le (n / c) (suc p + e) ((div-lt_iff_lt-mul C).1 (less n (2 ^ e * c) (2 ^ (suc p + e) * c) h)))))
        (le_of_eq (pow-suc 2 e))

    sums : (q x h t n c : ℕ) → n + h * c < t * c → x ≤ h * 2 → q * (c * x) * 2 ≤ n * 2 + c * x → q * x * c < t * c
    sums q x h t n c l u w =
        let e : q * (c * x) ≡ q * x * c = simp (mul_assoc, mul_comm) in
        let d = mul_comm x c in
        let g = mul-le-mul_right c u in
        let k = mul_right_comm h 2 c in
        omega arith

-- ---- from there on it is not: it drops more than e bits
many_dropped : (p e n c : ℕ) → 0 < c → 2 ^ (suc p + e) * c ≤ n + 2 ^ e * c → suc e ≤ drop p n c
many_dropped p e n c C h =
    dropped p e (size (n / c))
    (size_more (n / c) (p + e)
    ((le-div_iff_mul-le C).1 (at_least (2 ^ (suc p + e)) (2 ^ (p + e)) (2 ^ e) n c (ap (λ (i : ℕ). 2 ^ i) (suc-add p e) ∙ pow-suc 2 (p + e)) (pow_mono (le-add_left e p)) h)))
  where
    dropped : (p e z : ℕ) → p + e < z → suc e ≤ z - p
    dropped p e z h = omega arith

    at_least : (t x y n c : ℕ) → t ≡ x * 2 → y ≤ x → t * c ≤ n + y * c → x * c ≤ n
    at_least t x y n c e l h =
        let a : t * c ≡ x * 2 * c = ap (λ (z : ℕ). z * c) e in
        let b = mul_right_comm x 2 c in
        let d = mul-le-mul_right c l in
        omega arith

-- at half a unit before m, an even number of units, the tie goes up to m
to_even : (n u m q : ℕ) → 0 < u → m % 2 ≡ 0 → ((q ≡ m → ⊥) → distance (q * u) n ≡ distance (m * u) n → q % 2 ≡ 0)
    → m * u * 2 ≤ n * 2 + u → n * 2 ≤ q * u * 2 + u → m ≤ q
to_even n u m q U even tie lo hi = le_of_suc-le-suc (lt_of_not-le below)
  where
    below : suc q ≤ m → ⊥
    below l =
        let s = suc-mul q u in
        elim (eq-or-lt_of_le l) [
          | inl e ↦ let g : suc q * u ≡ m * u = ap (λ (x : ℕ). x * u) e in let t = tie (λ (d : q ≡ m). omega arith) (omega arith) in omega arith
          | inr g ↦ let k = mul-le-mul_right u g in let t = suc-mul (suc q) u in omega arith
        ]

pow_even : (p : ℕ) → 0 < p → 2 ^ p % 2 ≡ 0
pow_even zero h = absurd (lt_irrefl 0 h)
pow_even (suc p) h = ap (λ (x : ℕ). x % 2) (pow-suc 2 p) ∙ mul-mod_left (2 ^ p) 2

pub kept_over : (p e n c : ℕ) → 0 < p → 0 < c → 2 ^ (suc p + e) * c ≤ n + 2 ^ e * c → 2 ^ (suc p + e) ≤ kept p n c * 2 ^ drop p n c
kept_over p e n c P C h =
    elim (eq-or-lt_of_le (many_dropped p e n c C h)) [
      | inl g ↦ le_trans (le_of_eq (step g)) (mul-le-mul_right (2 ^ k) (full g))
      | inr g ↦ le_trans (pow_mono (past p e k P g)) (le_trans (le_of_eq (pow-add 2 (p - 1) k)) (mul-le-mul_right (2 ^ k) (kept_ge p n c P C (some e k g))))
    ]
  where
    k : ℕ
    k = drop p n c

    u : ℕ
    u = c * 2 ^ k

    U : 0 < u
    U = mul-pos C (pow_pos k)

    some : (e k : ℕ) → suc e < k → 0 < k
    some e k h = omega arith

    past : (p e k : ℕ) → 0 < p → suc e < k → suc p + e ≤ p - 1 + k
    past p e k P h = omega arith

    step : suc e ≡ k → 2 ^ (suc p + e) ≡ 2 ^ p * 2 ^ k
    step g = ap (λ (i : ℕ). 2 ^ i) (suc-add p e ∙ sym (add-suc p e) ∙ ap (λ (i : ℕ). p + i) g) ∙ pow-add 2 p k

    half : (t m x y n c : ℕ) → t ≡ m * x → x ≡ y * 2 → t * c ≤ n + y * c → m * (c * x) * 2 ≤ n * 2 + c * x
    half t m x y n c e d h =
        let a : t * c ≡ m * (c * x) = ap (λ (z : ℕ). z * c) e ∙ simp (mul_assoc, mul_comm) in
        let b : c * x ≡ y * c * 2 = ap (λ (z : ℕ). c * z) d ∙ mul_left_comm c y 2 ∙ sym (mul_assoc y c 2) in
        omega arith

    full : suc e ≡ k → 2 ^ p ≤ kept p n c
    full g =
        to_even n u (2 ^ p) (kept p n c) U (pow_even p P) (closest_tie n u (2 ^ p) U)
        (half (2 ^ (suc p + e)) (2 ^ p) (2 ^ k) (2 ^ e) n c (step g) (ap (λ (i : ℕ). 2 ^ i) (sym g) ∙ pow-suc 2 e) h) (closest_near n u U).1
