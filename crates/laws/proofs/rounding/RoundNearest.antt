-- `round` is IEEE 754's rounding: to nearest, ties to even, overflow to infinity, in any format and for any fraction. Assumes nothing.
use mathlib.Core.Path.{◌≡◌, refl, sym, ap, ◌∙◌, subst}
use mathlib.Core.Bool.{Bool, true, false, not, beq, cond}
use mathlib.Core.Logic.{inl, inr}
use Prim.Native.Nat.{ℕ, ◌+◌, ◌*◌, ◌/◌, ◌%◌, ◌^◌, ◌≤◌, ◌<◌}
use native.Mathlib.Nat.{mul_assoc, mul-pos}
use native.Mathlib.Omega.{arith}
use lib.Dec.{T}
use lib.Pow.{pow_pos}
use lib.Ieee.{Float, Format, binary32, binary64, prec, low, hid, top, round, fits, is_nan, to_bits}
use lib.Ieee.Fits.{two, two-le_pos, round-fits}
use lib.Ieee.Order.{drop, kept}
use lib.Ieee.Scale.{grid, finite}
use Rattle.laws.specs.Within.{distance}
use Rattle.laws.specs.Exact.{negative, size_in}
use Rattle.laws.specs.RoundsTo.{gap, off, RoundsTo}
use Rattle.laws.proofs.numbers.BoolLaws.{beq_same}
use Rattle.laws.proofs.rounding.ClosestLaws.{closest_near}
use Rattle.laws.proofs.values.FiniteLaws.{finite_number}
use Rattle.laws.proofs.rounding.KeptLaws.{kept_le, near_few}
use Rattle.laws.proofs.rounding.OverflowLaws.{round_finite, round_infinite, round_either}
use Rattle.laws.proofs.rounding.RoundingError.{finite_round}
use Rattle.laws.proofs.values.ValueLaws.{Value, to_bits_value, pattern_is}
use Rattle.laws.proofs.values.SizeLaws.{size_of_value, size_unique}
use Rattle.laws.proofs.rounding.GridLaws.{grid_best, grid_tie}

-- ---- the last bit of a float's pattern is that of the number kept
parity : (t k h q : ℕ) → t % 2 ≡ 0 → h % 2 ≡ 0 → (t + k * h + q) % 2 ≡ q % 2
parity t k h q e d =
    let g : k * h ≡ k * (h / 2) * 2 = ap (λ (x : ℕ). k * x) (halves h d) ∙ sym (mul_assoc k (h / 2) 2) in
    omega arith
  where
    halves : (h : ℕ) → h % 2 ≡ 0 → h ≡ h / 2 * 2
    halves h d = omega arith

hid_even : (f : Format) → hid f % 2 ≡ 0
hid_even binary32 = refl
hid_even binary64 = refl

sign_even : (f : Format) (s : Bool) → cond s (top f) 0 % 2 ≡ 0
sign_even binary32 true = refl
sign_even binary32 false = refl
sign_even binary64 true = refl
sign_even binary64 false = refl

pub last_bit : (f : Format) (x : Float) (s : Bool) (q k : ℕ) → Value f x s (q * 2 ^ k) → q ≤ 2 ^ prec f → (q < hid f → k ≡ 0) → to_bits f x % 2 ≡ q % 2
last_bit f x s q k v l z =
    ap (λ (n : ℕ). n % 2) (to_bits_value f x s (q * 2 ^ k) v ∙ pattern_is f s q k l z)
    ∙ parity (cond s (top f) 0) k (hid f) q (sign_even f s) (hid_even f)

-- ---- how far off a float of the fraction's sign is
gap_same : (s : Bool) (x y : ℕ) → gap s x s y ≡ distance x y
gap_same true x y = refl
gap_same false x y = refl

pub off_same : (f : Format) (x : Float) (s : Bool) (a c : ℕ) → negative x ≡ s → off f x s a c ≡ distance (size_in f x * c) (a * 2 ^ low f)
off_same f x s a c e = ap (λ (b : Bool). gap b (size_in f x * c) s (a * 2 ^ low f)) e ∙ gap_same s (size_in f x * c) (a * 2 ^ low f)

module _ (f : Format) (s : Bool) (a c : ℕ) (C : 0 < c) where
  n : ℕ
  n = a * 2 ^ low f

  q : ℕ
  q = kept (prec f) n c

  r : Float
  r = round f s a c

  not_nan : T (not (is_nan r))
  unfolding r is_nan
  not_nan = elim (round_either f s a c C) [ inl t ↦ finite_number r t | inr e ↦ subst (λ (x : Float). T (not (is_nan x))) (sym e) tt ]

  sign_is : negative r ≡ s
  unfolding r negative
  sign_is = elim (round_either f s a c C) [ inl t ↦ (size_of_value f r s (grid f a c) (finite_round f s a c t)).1 | inr e ↦ ap negative e ]

  pub round_off : T (finite (round f s a c)) → off f (round f s a c) s a c ≡ distance (grid f a c * c) (a * 2 ^ low f)
  unfolding r
  round_off t =
      off_same f r s a c sign_is ∙ ap (λ (N : ℕ). distance (N * c) (a * 2 ^ low f)) (size_of_value f r s (grid f a c) (finite_round f s a c t)).0

  same : T (finite r) → (y : Float) → T (fits f y) → T (finite y) → T (beq (negative y) s) → grid f a c ≡ size_in f y → r ≡ y
  unfolding r
  same t y h u b g =
      size_unique f r y (round-fits f s a c) h t u (sign_is ∙ sym (beq_same (negative y) s b)) ((size_of_value f r s (grid f a c) (finite_round f s a c t)).0 ∙ g)

  last_kept : T (finite r) → to_bits f r % 2 ≡ q % 2
  unfolding r q n
  last_kept t =
      let k = drop (prec f) n c in
      let near = closest_near n (c * 2 ^ k) (mul-pos C (pow_pos k)) in
      last_bit f r s q k (finite_round f s a c t) (kept_le (prec f) n c) (near_few (prec f) n c q C near (two-le_pos (prec f) (two f)))

  pub round_nearest : RoundsTo f s a c (round f s a c)
  unfolding r q n
  round_nearest = record {
    value = round-fits f s a c;
    number = not_nan;
    sign = sign_is;
    below = round_finite f s a c C;
    beyond = round_infinite f s a c C;
    nearest = λ t y h u. subst (λ (x : ℕ). x ≤ off f y s a c) (sym (round_off t)) (grid_best f a c C y h u (beq (negative y) s));
    even = λ t y h u e d. last_kept t ∙ grid_tie f a c C y h u (beq (negative y) s) (λ b g. d (same t y h u b g)) (sym (round_off t) ∙ e);
  }
