-- The fused multiply-add, from floats to whole numbers: its factors and its term taken apart, and the arguments that are no numbers. Assumes nothing.
use mathlib.Core.Path.{◌≡◌, refl, sym, ap, ap₂, ◌∙◌, subst}
use mathlib.Core.Bool.{Bool, true, false, not}
use mathlib.Core.Logic.{◌⊎◌, inl, inr}
use mathlib.Core.List.{[], ◌∷◌}
use Prim.Native.Nat.{ℕ, ◌+◌, ◌-◌, ◌*◌, ◌%◌, ◌^◌, ◌≤◌, ◌<◌}
use native.Mathlib.Nat.{lt_of_lt_of_le, lt_of_le_of_lt, zero-mul, mul-zero, mul-one, mul_assoc, mul-pos, mul-le-mul, mod-eq_of_lt}
use native.Mathlib.Omega.{arith}
use lib.Dec.{T, leb, leb→le, nleb→lt, lit≤, lit<}
use lib.IntN.{ℤ, pos}
use lib.Pow.{pow-add}
use lib.Count.{count_leading_zeros}
use lib.Ieee.{Float, nan, inf, fin, binary32, up, down, unlike, odd, round, sum, add, mul}
use lib.Ieee.Exact.{HasValue}
use lib.Ieee.Fits.{down_pos}
use lib.Ieee.Scale.{round_same}
use Rattle.laws.proofs.solvers.Ring.{var, lit, ◌⊗◌}
use Rattle.laws.proofs.solvers.RingNat.{ring}
use Rattle.laws.proofs.numbers.LeadingLaws.{leading_shift}
use Rattle.laws.proofs.operations.SumSame.{sum_same}
use Rattle.scalar.specs.Fused.{fused_multiply_add}
use Rattle.scalar.specs.Parts.{Split, Decoded}
use Rattle.scalar.specs.FusedParts.{Plain, Normal, Terms}
use Rattle.scalar.specs.declared.bits.Parts.TheVariants.{Fin}
use Rattle.scalar.proofs.floats.PartsLaws.{Other, other, value_of_parts}
use Rattle.scalar.proofs.roots.RootPartsLaws.{zeros_in}
use Rattle.scalar.proofs.products.FusedSum.{fused_at}

-- ---- a factor
pub plain_other : (x : Float) → Other x → Plain x
plain_other x (inl e) = subst Plain (sym e) tt
plain_other x (inr e) = subst Plain (sym e.1) tt

pub plain_zero : (x : Float) (s : Bool) (q k : ℕ) → x ≡ odd 24 s q k 149 → q ≡ 0 → Plain x
unfolding odd
plain_zero x s q k e z = subst Plain (sym (e ∙ ap (λ (n : ℕ). odd 24 s n k 149) z)) refl

module _ (x : Float) (s : Bool) (q k : ℕ) (X : x ≡ odd 24 s q k 149) (K : Split q k) where
  pub factor_full : 8388608 ≤ q → Normal x s q (k + 23)
  factor_full h = record {
    size = q * 2 ^ k;
    value = value_of_parts x s q k X;
    same = ap (λ (n : ℕ). q * n) (pow-add 2 k 23) ∙ sym (mul_assoc q (2 ^ k) (2 ^ 23));
    low = h;
    high = K.bits;
    range = let r = K.range in omega arith;
  }

  module _ (P : q ≡ 0 → ⊥) (h : q < 8388608) where
    some : 0 < q
    some = omega arith

    word : q < 2 ^ 32
    word = omega arith

    pub zeros_left : (8 ≤ count_leading_zeros 32 q) × (count_leading_zeros 32 q - 8 ≤ 23)
    zeros_left = let z = zeros_in q some K.bits in omega arith

    pub factor_short : Normal x s (q * 2 ^ (count_leading_zeros 32 q - 8) % 4294967296) (23 - (count_leading_zeros 32 q - 8))
    factor_short =
        let b = leading_shift 32 q some word (count_leading_zeros 32 q - 8) 8 (let z = zeros_left in omega arith) in
        subst (λ (n : ℕ). Normal x s n (23 - (count_leading_zeros 32 q - 8))) (sym (mod-eq_of_lt (lt_of_lt_of_le b.1 (lit≤ tt))))
        (record {
          size = q * 2 ^ k;
          value = value_of_parts x s q k X;
          same = shifted (count_leading_zeros 32 q - 8) zeros_left.1;
          low = b.0;
          high = b.1;
          range = omega arith;
        })
      where
        back : (z : ℕ) → z ≤ 23 → z + (23 - z) ≡ 23
        back z l = omega arith

        shifted : (z : ℕ) → z ≤ 23 → q * 2 ^ z * 2 ^ (23 - z) ≡ q * 2 ^ k * 2 ^ 23
        shifted z l =
            mul_assoc q (2 ^ z) (2 ^ (23 - z))
            ∙ ap (λ (n : ℕ). q * n) (sym (pow-add 2 z (23 - z)) ∙ ap (λ (n : ℕ). 2 ^ n) (back z l))
            ∙ ap (λ (n : ℕ). n * 2 ^ 23) (sym (ap (λ (n : ℕ). q * 2 ^ n) (K.least h) ∙ mul-one q))

-- ---- numbers: the product and the term, in 2 ^ -426
product_in : (m n : ℕ) → 8388608 ≤ m → m < 16777216 → 8388608 ≤ n → n < 16777216 → (2 ^ 46 ≤ m * n) × (m * n < 2 ^ 48)
product_in m n a b c d = (mul-le-mul a c, lt_of_le_of_lt (mul-le-mul (under m b) (under n d)) (lit< tt))
  where
    under : (x : ℕ) → x < 16777216 → x ≤ 16777215
    under x h = omega arith

module _ (x y z : Float) (s t u : Bool) (m k n d q g : ℕ) (M : Normal x s m k) (N : Normal y t n d) (K : Decoded (Fin u q g) z) where
  p_in : (2 ^ 46 ≤ m * n) × (m * n < 2 ^ 48)
  p_in = product_in m n M.low M.high N.low N.high

  p_word : m * n * 16384 % 18446744073709551616 ≡ m * n * 16384
  p_word = let b = p_in in mod-eq_of_lt (omega arith)

  q_word : q * 274877906944 % 18446744073709551616 ≡ q * 274877906944
  q_word = let b = K.1.bits in mod-eq_of_lt (omega arith)

  pub terms : Terms (m * n * 16384 % 18446744073709551616) (k + d + 68) (q * 274877906944 % 18446744073709551616) (g + 239)
  terms = rw (p_word, q_word) (record {
    x_low = omega (arith, p_in.0);
    x_high = omega (arith, p_in.1);
    x_zeros = omega arith;
    y_low = go (leb 8388608 q) (leb→le 8388608 q) (nleb→lt 8388608 q);
    y_high = omega (arith, K.1.bits);
    y_zeros = omega arith;
  })
    where
      go : (b : Bool) → (T b → 8388608 ≤ q) → (T (not b) → q < 8388608) → (2 ^ 60 ≤ q * 274877906944) ⊎ (g + 239 ≤ 275)
      go true f f' = let l = f tt in inl (omega arith)
      go false f f' = let z = K.1.least (f' tt) in inr (omega arith)

  product_is : m * n * 16384 % 18446744073709551616 * 2 ^ (k + d + 68) ≡ M.size * N.size * 2 ^ 128
  product_is =
      ap₂ ◌*◌ p_word (pow-add 2 (k + d) 68 ∙ ap (λ (x : ℕ). x * 2 ^ 68) (pow-add 2 k d))
      ∙ ring (m ∷ n ∷ 2 ^ k ∷ 2 ^ d ∷ []) (var 0 ⊗ var 1 ⊗ lit 16384 ⊗ (var 2 ⊗ var 3 ⊗ lit (2 ^ 68))) (var 0 ⊗ var 2 ⊗ (var 1 ⊗ var 3) ⊗ lit (2 ^ 82)) refl
      ∙ ap₂ (λ (a b : ℕ). a * b * 2 ^ 82) M.same N.same
      ∙ ring (M.size ∷ N.size ∷ []) (var 0 ⊗ lit (2 ^ 23) ⊗ (var 1 ⊗ lit (2 ^ 23)) ⊗ lit (2 ^ 82)) (var 0 ⊗ var 1 ⊗ lit (2 ^ 128)) refl

  term_is : q * 274877906944 % 18446744073709551616 * 2 ^ (g + 239) ≡ q * 2 ^ g * 2 ^ 277
  term_is =
      ap₂ ◌*◌ q_word (pow-add 2 g 239)
      ∙ ring (q ∷ 2 ^ g ∷ []) (var 0 ⊗ lit 274877906944 ⊗ (var 1 ⊗ lit (2 ^ 239))) (var 0 ⊗ var 1 ⊗ lit (2 ^ 277)) refl

  pub number_sum : sum binary32 (unlike s t) (m * n * 16384 % 18446744073709551616 * 2 ^ (k + d + 68)) u (q * 274877906944 % 18446744073709551616 * 2 ^ (g + 239)) (2 ^ 426) ≡ fused_multiply_add x y z
  number_sum =
      ap₂ (λ (a b : ℕ). sum binary32 (unlike s t) a u b (2 ^ 426)) product_is term_is
      ∙ sym (fused_at x y z s t u M.size N.size (q * 2 ^ g) M.value N.value (value_of_parts z u q g K.0))

-- ---- a factor that makes the product exact: two operations round as one
zero_round : (s : Bool) (n c : ℕ) → 0 < c → n ≡ 0 → round binary32 s n c ≡ fin s 0 (pos 0)
zero_round s n c C h = ap (λ (x : ℕ). round binary32 s x c) h ∙ round_same binary32 s 0 c 0 1 C (lit< tt) (sym (zero-mul c)) ∙ none s
  where
    none : (s : Bool) → round binary32 s 0 1 ≡ fin s 0 (pos 0)
    none s = unfold round in refl

zero_product : (s : Bool) (m : ℕ) (e : ℤ) (t : Bool) (n : ℕ) (d : ℤ) (z : Float) → m * up e * (n * up d) ≡ 0
    → add binary32 (mul binary32 (fin s m e) (fin t n d)) z ≡ fused_multiply_add (fin s m e) (fin t n d) z
unfolding fused_multiply_add mul add
zero_product s m e t n d z h = ap (λ (w : Float). add binary32 w z) (zero_round (unlike s t) (m * up e * (n * up d)) (down e * down d) (mul-pos (down_pos e) (down_pos d)) h) ∙ go z
  where
    go : (z : Float) → add binary32 (fin (unlike s t) 0 (pos 0)) z ≡ fused_multiply_add (fin s m e) (fin t n d) z
    go nan = refl
    go (inf u) = refl
    go (fin u w g) =
        sum_same binary32 (0 * down g) (w * up g * 1) (1 * down g) (m * up e * (n * up d) * down g) (w * up g * (down e * down d)) (down e * down d * down g)
        (mul-pos (lit< tt) (down_pos g)) (mul-pos (mul-pos (down_pos e) (down_pos d)) (down_pos g))
        (ring (down g ∷ down e * down d ∷ []) (lit 0 ⊗ var 0 ⊗ (var 1 ⊗ var 0)) (lit 0 ⊗ var 0 ⊗ (lit 1 ⊗ var 0)) refl ∙ ap (λ (x : ℕ). x * down g * (1 * down g)) (sym h))
        (ring (w * up g ∷ down g ∷ down e * down d ∷ []) (var 0 ⊗ lit 1 ⊗ (var 2 ⊗ var 1)) (var 0 ⊗ var 2 ⊗ (lit 1 ⊗ var 1)) refl)
        (unlike s t) u

pub plain_first : (x y z : Float) → Plain x → add binary32 (mul binary32 x y) z ≡ fused_multiply_add x y z
unfolding fused_multiply_add mul add
plain_first nan y z p = refl
plain_first (inf s) y z p = refl
plain_first (fin s m e) nan z p = refl
plain_first (fin s m e) (inf t) z p = refl
plain_first (fin s m e) (fin t n d) z p = zero_product s m e t n d z (ap (λ (x : ℕ). x * up e * (n * up d)) p ∙ ap (λ (x : ℕ). x * (n * up d)) (zero-mul (up e)) ∙ zero-mul (n * up d))

pub plain_second : (x y z : Float) (s : Bool) (p : ℕ) → HasValue x s p (2 ^ 149) → Plain y → add binary32 (mul binary32 x y) z ≡ fused_multiply_add x y z
unfolding fused_multiply_add mul add
plain_second nan y z s p h k = absurd h
plain_second (inf t) y z s p h k = absurd h
plain_second (fin t m e) nan z s p h k = refl
plain_second (fin t m e) (inf u) z s p h k = refl
plain_second (fin t m e) (fin u n d) z s p h k = zero_product t m e u n d z (ap (λ (x : ℕ). m * up e * (x * up d)) k ∙ ap (λ (x : ℕ). m * up e * x) (zero-mul (up d)) ∙ mul-zero (m * up e))

-- ---- a term that is no number stays
pub other_term : (x y z : Float) (s t : Bool) (p q : ℕ) → HasValue x s p (2 ^ 149) → HasValue y t q (2 ^ 149) → Other z → z ≡ fused_multiply_add x y z
unfolding fused_multiply_add
other_term nan y z s t p q h k o = absurd h
other_term (inf a) y z s t p q h k o = absurd h
other_term (fin a m e) nan z s t p q h k o = absurd k
other_term (fin a m e) (inf b) z s t p q h k o = absurd k
other_term (fin a m e) (fin b n d) z s t p q h k (inl o) = o ∙ sym (ap (λ (w : Float). fused_multiply_add (fin a m e) (fin b n d) w) o)
other_term (fin a m e) (fin b n d) z s t p q h k (inr o) = o.1 ∙ sym (ap (λ (w : Float). fused_multiply_add (fin a m e) (fin b n d) w) o.1)

-- what `factor_of` and `mul_add` of src/fused.rt use
pub ruleset factors = (plain_zero, factor_full, factor_short, zeros_left)

pub ruleset multiply_adds = (other, plain_first, plain_second, other_term, number_sum)
