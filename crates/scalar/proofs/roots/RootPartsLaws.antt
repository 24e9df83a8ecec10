-- The steps of a root: the shift of the significand, the whole number nearest to the root, and the two packed into the rounded root.
-- Assumes nothing.
use mathlib.Core.Path.{◌≡◌, refl, sym, ap, ◌∙◌, subst}
use mathlib.Core.Bool.{Bool, true, false, not}
use Prim.Native.Nat.{ℕ, zero, suc, ◌+◌, ◌-◌, ◌*◌, ◌/◌, ◌%◌, ◌^◌, ◌≤◌, ◌<◌}
use native.Mathlib.Nat.{le_trans, le_of_eq, lt_of_lt_of_le, lt_of_le_of_lt, lt_of_not-le, not-le_of_lt, le-mul_of_pos_right, mul_comm, mul_assoc, mul-le-mul_right, mul-lt-mul_of_pos_right, mod-eq_of_lt}
use native.Mathlib.Omega.{arith}
use lib.Dec.{T, ltb, ltb→lt, nltb→le, lit≤}
use lib.Pow.{pow_pos, pow-add, pow_mono, pow-lt}
use lib.Count.{count_leading_zeros, leading_top}
use lib.Ieee.{Float, binary32, units, fits}
use lib.Ieee.Exact.{HasValue, units_val}
use lib.Ieee.Fits.{round-fits}
use Rattle.laws.specs.WholeRoot.{WholeRoot, whole_root}
use Rattle.scalar.specs.Root.{twice_root, root_sign, root_units}
use Rattle.scalar.specs.RootParts.{Positive, Shift, NearRoot}
use Rattle.laws.proofs.numbers.WholeRootLaws.{root_lt, root_ge, next_square, odd_square, whole_root_is}
use Rattle.scalar.proofs.floats.PartsLaws.{parts_under}
use Rattle.scalar.proofs.roots.RootLaws.{root_rounded}
use Rattle.scalar.proofs.roots.RootCases.{root_of_nan, root_positive}
use Rattle.scalar.proofs.floats.BitsLaws.{no_nan, normal}

-- ---- the shift: q has j + 1 bits, and 31 - j leading zeros in a word of 32
abbrev Leading : ℕ → ℕ → Type 0
Leading q z = (j : ℕ) × (z + suc j ≡ 32) × (2 ^ j ≤ q) × (q < 2 ^ suc j) × (j < 24)

zeros : (q : ℕ) → 0 < q → q < 2 ^ 24 → Leading q (count_leading_zeros 32 q)
zeros q h l =
    let t = leading_top 32 q h (lt_of_lt_of_le l (lit≤ tt)) in
    (t.0, t.1, t.2, t.3, lt_of_not-le (λ (g : 24 ≤ t.0). not-le_of_lt l (le_trans (pow_mono g) t.2)))

pub zeros_in : (q : ℕ) → 0 < q → q < 2 ^ 24 → (8 ≤ count_leading_zeros 32 q) × (count_leading_zeros 32 q ≤ 31)
zeros_in q h l = let t = zeros q h l in omega (arith, t.1, t.4)

shift_by : (q k z : ℕ) → Leading q z → Shift q k (15 + z + (k + 149 - (15 + z)) % 2)
shift_by q k z t = go t.0 (15 + z + (k + 149 - (15 + z)) % 2) t.2 t.3 (sums z t.0 ((k + 149 - (15 + z)) % 2) t.1) (sums' z t.0 k t.1) t.4 (even_left k z t.0 t.1)
  where
    sums : (z j b : ℕ) → z + suc j ≡ 32 → 46 ≤ j + (15 + z + b)
    sums z j b h = omega arith

    sums' : (z j k : ℕ) → z + suc j ≡ 32 → suc j + (15 + z + (k + 149 - (15 + z)) % 2) ≤ 48
    sums' z j k h = omega arith

    even_left : (k z j : ℕ) → z + suc j ≡ 32 → (k + 149 - (15 + z + (k + 149 - (15 + z)) % 2)) % 2 ≡ 0
    even_left k z j h = omega arith

    go : (j r : ℕ) → 2 ^ j ≤ q → q < 2 ^ suc j → 46 ≤ j + r → suc j + r ≤ 48 → j < 24 → (k + 149 - r) % 2 ≡ 0 → Shift q k r
    go j r a b c d e f = record {
      low = le_trans (pow_mono c) (le_trans (le_of_eq (pow-add 2 j r)) (mul-le-mul_right (2 ^ r) a));
      high = lt_of_lt_of_le (mul-lt-mul_of_pos_right b (pow_pos r)) (le_trans (le_of_eq (sym (pow-add 2 (suc j) r))) (pow_mono d));
      least = omega arith;
      most = omega arith;
      even = f;
    }

pub shift_is : (q k : ℕ) → 0 < q → q < 2 ^ 24 → Shift q k (15 + count_leading_zeros 32 q + (k + 149 - (15 + count_leading_zeros 32 q)) % 2)
shift_is q k h l = shift_by q k (count_leading_zeros 32 q) (zeros q h l)

-- 24 bits are shifted left by 23 or 24
pub shift_normal : (q k : ℕ) → 2 ^ 23 ≤ q → q < 2 ^ 24 → Shift q k (23 + k % 2)
shift_normal q k h l = go (k % 2) (bit k) refl
  where
    bit : (k : ℕ) → k % 2 ≤ 1
    bit k = omega arith

    go : (b : ℕ) → b ≤ 1 → k % 2 ≡ b → Shift q k (23 + b)
    go zero i e = record { low = omega arith; high = omega arith; least = omega arith; most = omega arith; even = omega arith }
    go (suc zero) i e = record { low = omega arith; high = omega arith; least = omega arith; most = omega arith; even = omega arith }
    go (suc (suc b)) i e = absurd (omega arith)

-- ---- from the whole root to the nearest
pub root_small : (n r : ℕ) → n < 2 ^ 48 → WholeRoot n r → r < 2 ^ 24
root_small n r h w = root_lt n r 16777216 w h

pub near_up : (n r : ℕ) → 2 ^ 46 ≤ n → n < 2 ^ 48 → WholeRoot n r → r < n - r * r → NearRoot n (r + 1)
near_up n r h l w u =
    let c = root_ge n r 8388608 w h in
    let d = root_small n r l w in
    record { above = omega (arith, next_square r); below = omega (arith, w.above, next_square r, odd_square (r + 1)); least = omega arith; most = omega arith }

pub near_stays : (n r : ℕ) → 2 ^ 46 ≤ n → n < 2 ^ 48 → WholeRoot n r → n - r * r ≤ r → NearRoot n r
near_stays n r h l w u =
    let c = root_ge n r 8388608 w h in
    let d = root_small n r l w in
    record { above = omega (arith, w.below); below = omega (arith, odd_square r); least = omega arith; most = omega arith }

not_zero : (n r : ℕ) → NearRoot n r → r ≡ r - 1 + 1
not_zero n r k = omega (arith, k.least)

pub nearest_root : (n : ℕ) → 2 ^ 46 ≤ n → n < 2 ^ 48 → (p : ℕ) × NearRoot n (p + 1)
nearest_root n h l = go (ltb r (n - r * r)) (ltb→lt r (n - r * r)) (nltb→le r (n - r * r))
  where
    r : ℕ
    r = whole_root 24 n

    go : (b : Bool) → (T b → r < n - r * r) → (T (not b) → n - r * r ≤ r) → (p : ℕ) × NearRoot n (p + 1)
    go true u v = (r, near_up n r h l (whole_root_is 24 n l) (u tt))
    go false u v = let k = near_stays n r h l (whole_root_is 24 n l) (v tt) in (r - 1, subst (NearRoot n) (not_zero n r k) k)

-- ---- packed: q * 2 ^ k * 2 ^ 149 is q * 2 ^ a times 4 ^ h, and its root 2 ^ h times as large
abbrev pub half : ℕ → ℕ → ℕ
half k a = (k + 149 - a) / 2

pub radicand_is : (q k a : ℕ) → Shift q k a → q * 2 ^ k * 2 ^ 149 ≡ q * 2 ^ a * (2 ^ half k a * 2 ^ half k a)
radicand_is q k a S =
    mul_assoc q (2 ^ k) (2 ^ 149)
    ∙ ap (λ (x : ℕ). q * x) (sym (pow-add 2 k 149) ∙ ap (λ (x : ℕ). 2 ^ x) (sums k a S.most S.even) ∙ pow-add 2 a (half k a + half k a) ∙ ap (λ (x : ℕ). 2 ^ a * x) (pow-add 2 (half k a) (half k a)))
    ∙ sym (mul_assoc q (2 ^ a) (2 ^ half k a * 2 ^ half k a))
  where
    sums : (k a : ℕ) → a ≤ 47 → (k + 149 - a) % 2 ≡ 0 → k + 149 ≡ a + (half k a + half k a)
    sums k a h e = omega arith

pub root_units_lem : (q k a r : ℕ) → q * 2 ^ k < 2 ^ 277 → Shift q k a → NearRoot (q * 2 ^ a) r → root_units (q * 2 ^ k) ≡ units binary32 root_sign r (half k a)
unfolding root_units
root_units_lem q k a r Q S N =
    root_rounded (q * 2 ^ k * 2 ^ 149) (q * 2 ^ a) (half k a - 1) (r - 1)
    (radicand_is q k a S ∙ ap (λ (h : ℕ). q * 2 ^ a * (2 ^ h * 2 ^ h)) (sym h_is)) (subst (NearRoot (q * 2 ^ a)) (not_zero (q * 2 ^ a) r N) N) S.low S.high
    (lt_of_lt_of_le (mul-lt-mul_of_pos_right Q (pow_pos 149)) (lit≤ tt)) root_sign
    ∙ ap (λ (n : ℕ). units binary32 root_sign n (suc (half k a - 1))) (sym (not_zero (q * 2 ^ a) r N))
    ∙ ap (units binary32 root_sign r) h_is
  where
    h_is : suc (half k a - 1) ≡ half k a
    h_is = omega (arith, S.most)

-- as the machine word has it
pub root_all : (q k a r : ℕ) → Positive q k → Shift q k a → NearRoot (q * 2 ^ a % 2 ^ 64) r → root_units (q * 2 ^ k) ≡ units binary32 root_sign r (half k a)
root_all q k a r P S N = root_units_lem q k a r (parts_under q k P.bits P.range) S (subst (λ (x : ℕ). NearRoot x r) (mod-eq_of_lt (lt_of_lt_of_le S.high (lit≤ tt))) N)

pub units_fit : (n : ℕ) → T (fits binary32 (root_units n))
unfolding root_units
units_fit n = round-fits binary32 root_sign (twice_root (n * 2 ^ 149)) (2 ^ 150)

-- ---- so the root is a whole number of 24 bits, or 2 ^ 24, shifted
pub record ShiftedRoot (q k a : ℕ) : Type 0 where
  pub p : ℕ
  pub near : NearRoot (q * 2 ^ a) (p + 1)
  pub is : root_units (q * 2 ^ k) ≡ units binary32 root_sign (p + 1) (half k a)
  pub value : HasValue (root_units (q * 2 ^ k)) root_sign ((p + 1) * 2 ^ half k a) (2 ^ 149)

pub shifted_root : (q k a : ℕ) → 0 < q → q * 2 ^ k < 2 ^ 277 → Shift q k a → ShiftedRoot q k a
shifted_root q k a some under S =
    record { p = near.0; near = near.1; is = is; value = subst (λ (y : Float). HasValue y root_sign ((near.0 + 1) * 2 ^ half k a) (2 ^ 149)) (sym is) (units_val binary32 root_sign (near.0 + 1) (half k a) small) }
  where
    near : (p : ℕ) × NearRoot (q * 2 ^ a) (p + 1)
    near = nearest_root (q * 2 ^ a) S.low S.high

    is : root_units (q * 2 ^ k) ≡ units binary32 root_sign (near.0 + 1) (half k a)
    is = root_units_lem q k a (near.0 + 1) under S near.1

    short : k < 277
    short = lt_of_not-le (λ (g : 277 ≤ k). not-le_of_lt under (le_trans (pow_mono g) (le_trans (le-mul_of_pos_right (2 ^ k) some) (le_of_eq (mul_comm (2 ^ k) q)))))

    less : (k a : ℕ) → k < 277 → 23 ≤ a → 24 + half k a < 277
    less k a h l = omega arith

    small : (near.0 + 1) * 2 ^ half k a < 2 ^ 277
    small = lt_of_le_of_lt (mul-le-mul_right (2 ^ half k a) near.1.most) (lt_of_le_of_lt (le_of_eq (sym (pow-add 2 24 (half k a)))) (pow-lt (less k a short S.least)))

-- what `sqrt` of src/root.rt uses
pub ruleset normal_roots = (no_nan, normal, root_of_nan, root_positive, shift_normal)
