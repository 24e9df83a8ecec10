-- Whether a root is exact, by the parts of its argument and the significand in the root's bits. Assumes nothing.
use mathlib.Core.Path.{◌≡◌, refl, sym, ap, ◌∙◌, subst}
use mathlib.Core.Bool.{Bool, true, false, not, cond}
use mathlib.Core.List.{[], ◌∷◌}
use mathlib.Core.Logic.{inl, inr}
use Prim.Native.Nat.{ℕ, ◌+◌, ◌*◌, ◌/◌, ◌%◌, ◌^◌, ◌≤◌, ◌<◌}
use native.Mathlib.Nat.{lt_of_lt_of_le, lt_of_le_of_lt, mul-le-mul, mul-pos, mul-div_cancel, mod-eq_of_lt}
use native.Mathlib.Omega.{arith}
use lib.IntN.{pos}
use lib.Dec.{T, eqb, eqb→eq, eqb_refl, ltb, ltb→lt, nltb→le, lit≤, lit<}
use lib.Pow.{pow_pos}
use lib.Ieee.{Float, nan, inf, fin, binary32, odd, is_nan, of_bits, to_bits}
use lib.Ieee.Bits.{to_bits-of_bits}
use lib.Ieee.Exact.{HasValue}
use Rattle.laws.specs.Exact.{size_in}
use Rattle.laws.proofs.solvers.Ring.{var, ◌⊗◌}
use Rattle.laws.proofs.solvers.RingNat.{ring}
use Rattle.laws.proofs.values.ValueLaws.{value_finite}
use Rattle.laws.proofs.values.FiniteLaws.{finite_number}
use Rattle.laws.proofs.values.SizeLaws.{size_of_value}
use Rattle.laws.proofs.values.ValueOrderLaws.{same_bool}
use Rattle.scalar.specs.Parts.{Packs}
use Rattle.scalar.specs.Root.{root_sign, root, root_units}
use Rattle.scalar.specs.ExactRoot.{square_is, exact_root}
use Rattle.scalar.specs.RootParts.{Positive, Shift, NearRoot}
use Rattle.scalar.proofs.floats.PackLaws.{pack_is}
use Rattle.scalar.proofs.floats.PartsLaws.{Other, parts_under, value_of_parts}
use Rattle.scalar.proofs.roots.RootPartsLaws.{half, radicand_is, ShiftedRoot, shifted_root}
use Rattle.scalar.proofs.roots.RootCases.{some_significand, root_value}

-- ---- two tests that say the same
same_test : (a b c d : ℕ) → (a ≡ b → c ≡ d) → (c ≡ d → a ≡ b) → eqb a b ≡ eqb c d
same_test a b c d f g =
    same_bool (eqb a b) (eqb c d) (λ t. subst (λ (n : ℕ). T (eqb c n)) (f (eqb→eq a b t)) (eqb_refl c)) (λ t. subst (λ (n : ℕ). T (eqb a n)) (g (eqb→eq c d t)) (eqb_refl a))

-- ---- the squares of r and of the root, 2 ^ h times as large
scaled_test : (r m u : ℕ) → 0 < u → eqb (r * r) m ≡ eqb (r * u * (r * u)) (m * (u * u))
scaled_test r m u h = same_test (r * r) m (r * u * (r * u)) (m * (u * u)) (λ e. square ∙ ap (λ (n : ℕ). n * (u * u)) e) (λ e. less (sym square ∙ e))
  where
    square : r * u * (r * u) ≡ r * r * (u * u)
    square = ring (r ∷ u ∷ []) (var 0 ⊗ var 1 ⊗ (var 0 ⊗ var 1)) (var 0 ⊗ var 0 ⊗ (var 1 ⊗ var 1)) refl

    less : r * r * (u * u) ≡ m * (u * u) → r * r ≡ m
    less e = sym (mul-div_cancel (r * r) (mul-pos h h)) ∙ ap (λ (n : ℕ). n / (u * u)) e ∙ mul-div_cancel m (mul-pos h h)

-- ---- the bits of a float below the exponent, with the leading one
abbrev pub significand_bits : Float → ℕ
significand_bits x = to_bits binary32 x % 8388608 + 8388608

pub significand_square : (x : Float) → significand_bits x * significand_bits x < 2 ^ 64
significand_square x = lt_of_le_of_lt (mul-le-mul (most (to_bits binary32 x)) (most (to_bits binary32 x))) (lit< tt)
  where
    most : (b : ℕ) → b % 8388608 + 8388608 ≤ 16777216
    most b = omega arith

-- packed, with a sign bit or none, r is its own significand, or 2 ^ 24, whose significand is 2 ^ 23; the square of neither is n then
same_mark : (n r h sign : ℕ) → NearRoot n r → n < 2 ^ 48 → sign % 8388608 ≡ 0 → let m = (sign + h * 8388608 + r) % 8388608 + 8388608 in eqb (m * m) n ≡ eqb (r * r) n
same_mark n r h sign N l z = go (ltb r 16777216) (ltb→lt r 16777216) (nltb→le r 16777216)
  where
    m : ℕ
    m = (sign + h * 8388608 + r) % 8388608 + 8388608

    own : r < 16777216 → m ≡ r
    own k = let a = N.least in omega arith

    top : 16777216 ≤ r → r ≡ 16777216
    top k = let a = N.most in omega arith

    other : r ≡ 16777216 → m ≡ 8388608
    other e = omega arith

    not_low : 8388608 * 8388608 ≡ n → 4 * (16777216 * 16777216) + 1 < 4 * n + 4 * 16777216 → ⊥
    not_low k a = omega arith

    not_high : 16777216 * 16777216 ≡ n → ⊥
    not_high k = omega arith

    neither : r ≡ 16777216 → m ≡ 8388608 → eqb (m * m) n ≡ eqb (r * r) n
    neither e d =
        same_test (m * m) n (r * r) n
        (λ k. absurd (not_low (sym (ap (λ (i : ℕ). i * i) d) ∙ k) (subst (λ (i : ℕ). 4 * (i * i) + 1 < 4 * n + 4 * i) e N.above)))
        (λ k. absurd (not_high (sym (ap (λ (i : ℕ). i * i) e) ∙ k)))

    go : (b : Bool) → (T b → r < 16777216) → (T (not b) → 16777216 ≤ r) → eqb (m * m) n ≡ eqb (r * r) n
    go true f g = ap (λ (i : ℕ). eqb (i * i) n) (own (f tt))
    go false f g = let e = top (g tt) in neither e (other e)

-- ---- the root of q times 2 ^ k of the smallest values
module _ (q k a : ℕ) (P : Positive q k) (S : Shift q k a) where
  found : ShiftedRoot q k a
  found = shifted_root q k a P.some (parts_under q k P.bits P.range) S

  abbrev r : ℕ
  r = found.p + 1

  abbrev h : ℕ
  h = half k a

  packs : Packs r h
  packs = record { most = found.near.most; range = less k a P.range S.least; least = λ l. absurd (full r found.near.least l) }
    where
      less : (k a : ℕ) → k < 254 → 23 ≤ a → half k a ≤ 253
      less k a h l = omega arith

      full : (r : ℕ) → 2 ^ 23 ≤ r → r < 2 ^ 23 → ⊥
      full r h l = omega arith

  -- its bits
  abbrev sign : ℕ
  sign = cond root_sign 2147483648 0

  packed : root_units (q * 2 ^ k) ≡ of_bits binary32 (sign + h * 8388608 + r)
  packed = found.is ∙ sym (pack_is root_sign r h packs)

  pub root_no_nan : T (not (is_nan (root_units (q * 2 ^ k))))
  root_no_nan = finite_number (root_units (q * 2 ^ k)) (value_finite (root_units (q * 2 ^ k)) root_sign (r * 2 ^ h) (2 ^ 149) found.value)

  bits_are : to_bits binary32 (root_units (q * 2 ^ k)) ≡ sign + h * 8388608 + r
  bits_are = ap (to_bits binary32) packed ∙ to_bits-of_bits binary32 (sign + h * 8388608 + r) (few sign h r (lit≤ tt) packs.range packs.most) (subst (λ (y : Float). T (not (is_nan y))) packed root_no_nan)
    where
      few : (s h r : ℕ) → s ≤ 2147483648 → h ≤ 253 → r ≤ 2 ^ 24 → s + h * 8388608 + r < 2 * 2147483648
      few s h r k l m = omega arith

  mark : eqb (r * r) (q * 2 ^ a) ≡ square_is (root_units (q * 2 ^ k)) (q * 2 ^ k)
  mark =
      scaled_test r (q * 2 ^ a) (2 ^ h) (pow_pos h)
      ∙ ap (eqb (r * 2 ^ h * (r * 2 ^ h))) (sym (radicand_is q k a S))
      ∙ ap (λ (n : ℕ). eqb (n * n) (q * 2 ^ k * 2 ^ 149)) (sym (size_of_value binary32 (root_units (q * 2 ^ k)) root_sign (r * 2 ^ h) found.value).0)

  -- the word n is q * 2 ^ a
  pub significand_exact : let m = significand_bits (root_units (q * 2 ^ k)) in eqb (m * m) (q * 2 ^ a % 2 ^ 64) ≡ square_is (root_units (q * 2 ^ k)) (q * 2 ^ k)
  significand_exact =
      ap (λ (b : ℕ). eqb ((b % 8388608 + 8388608) * (b % 8388608 + 8388608)) (q * 2 ^ a % 2 ^ 64)) bits_are
      ∙ ap (eqb (((sign + h * 8388608 + r) % 8388608 + 8388608) * ((sign + h * 8388608 + r) % 8388608 + 8388608))) (mod-eq_of_lt (lt_of_lt_of_le S.high (lit≤ tt)))
      ∙ same_mark (q * 2 ^ a) r h sign found.near S.high refl
      ∙ mark

-- ---- by the parts of the argument
pub exact_other : (x : Float) → Other x → false ≡ exact_root x
unfolding exact_root
exact_other x (inl e) = sym (ap exact_root e)
exact_other x (inr (s, e)) = sym (ap exact_root e)

pub exact_zero : (x : Float) (s : Bool) (q k : ℕ) → x ≡ odd 24 s q k 149 → q ≡ 0 → true ≡ exact_root x
unfolding exact_root odd
exact_zero x s q k e h = let z : x ≡ fin s 0 (pos 0) = e ∙ ap (λ (n : ℕ). odd 24 s n k 149) h in sym (ap exact_root z)

exact_value : (x : Float) (s : Bool) (N : ℕ) → 0 < N → HasValue x s N (2 ^ 149) → exact_root x ≡ cond s false (square_is (root_units N) N)
unfolding exact_root
exact_value nan s N h v = absurd v
exact_value (inf t) s N h v = absurd v
exact_value (fin t m e) s N h v = go (eqb m 0) (eqb→eq m 0) ∙ ap (λ (b : Bool). cond b false own) v.0 ∙ by_sign s v
  where
    own : Bool
    own = square_is (root (fin t m e)) (size_in binary32 (fin t m e))

    go : (b : Bool) → (T b → m ≡ 0) → cond b true (cond t false own) ≡ cond t false own
    go true f = absurd (some_significand t m e s N h v (f tt))
    go false f = refl

    by_sign : (s : Bool) → HasValue (fin t m e) s N (2 ^ 149) → cond s false own ≡ cond s false (square_is (root_units N) N)
    by_sign true v = refl
    by_sign false v = λ i. square_is (root_value (fin t m e) false N h v i) ((size_of_value binary32 (fin t m e) false N v).0 i)

exact_some : (x : Float) (s : Bool) (q k : ℕ) → x ≡ odd 24 s q k 149 → 0 < q → exact_root x ≡ cond s false (square_is (root_units (q * 2 ^ k)) (q * 2 ^ k))
exact_some x s q k e h = exact_value x s (q * 2 ^ k) (mul-pos h (pow_pos k)) (value_of_parts x s q k e)

pub exact_negative : (x : Float) (s : Bool) (q k : ℕ) → x ≡ odd 24 s q k 149 → 0 < q → s ≡ true → false ≡ exact_root x
exact_negative x s q k e h t = sym (exact_some x s q k e h ∙ ap (λ (b : Bool). cond b false (square_is (root_units (q * 2 ^ k)) (q * 2 ^ k))) t)

pub exact_positive : (x : Float) (s : Bool) (q k : ℕ) → x ≡ odd 24 s q k 149 → 0 < q → s ≡ false → square_is (root_units (q * 2 ^ k)) (q * 2 ^ k) ≡ exact_root x
exact_positive x s q k e h t = sym (exact_some x s q k e h ∙ ap (λ (b : Bool). cond b false (square_is (root_units (q * 2 ^ k)) (q * 2 ^ k))) t)
