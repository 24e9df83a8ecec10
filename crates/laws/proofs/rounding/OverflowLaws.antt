-- Where `round` overflows: from `limit f` on the result is an infinity, below it is finite. Assumes nothing.
use mathlib.Core.Path.{◌≡◌, refl, sym, ap, ◌∙◌, subst}
use mathlib.Core.Bool.{Bool, true, false, not}
use mathlib.Core.List.{[], ◌∷◌}
use mathlib.Core.Logic.{◌⊎◌, inl, inr}
use Prim.Native.Nat.{ℕ, suc, ◌+◌, ◌-◌, ◌*◌, ◌^◌, ◌≤◌, ◌<◌}
use native.Mathlib.Nat.{lt_of_not-le, le_trans, le_of_eq, not-le_of_lt, mul-le-mul_right, mul-lt-mul_of_pos_right}
use native.Mathlib.Numerals.{add-one}
use native.Mathlib.Omega.{arith}
use lib.Dec.{T, ltb, ltb→lt, nltb→le, not_T}
use lib.Pow.{pow-add, pow_pos, suc_ones}
use lib.Ieee.{Float, inf, Format, binary32, binary64, prec, emax, low, odd, units, round, fits}
use lib.Ieee.Fits.{two, two-le_pos, round_is}
use lib.Ieee.Bits.{cond_no}
use lib.Ieee.Exact.{units_val}
use lib.Ieee.Order.{drop, kept}
use lib.Ieee.Scale.{grid, overflow, finite}
use Rattle.laws.specs.Exact.{size_in}
use Rattle.laws.specs.RoundsTo.{limit}
use Rattle.laws.proofs.solvers.Ring.{var, lit, ◌⊕◌, ◌⊗◌}
use Rattle.laws.proofs.solvers.RingNat.{ring}
use Rattle.laws.proofs.values.ValueLaws.{value_finite}
use Rattle.laws.proofs.rounding.KeptLaws.{kept_under, kept_over}
use Rattle.laws.proofs.values.SizeLaws.{size_below}
use Rattle.laws.proofs.rounding.GridLaws.{grid_of_size}

-- ---- `limit` is half a unit in the last place, 2 ^ half f smallest values, before the overflow
abbrev half : Format → ℕ
half f = emax f - prec f + low f

overflow_is : (f : Format) → 2 ^ (suc (prec f) + half f) ≡ overflow f
overflow_is f = ap (λ (i : ℕ). 2 ^ i) (sum f)
  where
    sum : (f : Format) → suc (prec f) + half f ≡ low f + suc (emax f)
    sum binary32 = refl
    sum binary64 = refl

limit_is : (f : Format) (c : ℕ) → limit f * c * 2 ^ low f + 2 ^ half f * c ≡ 2 ^ (suc (prec f) + half f) * c
limit_is f c =
    ap (λ (x : ℕ). limit f * c * 2 ^ low f + x * c) (pow-add 2 (emax f - prec f) (low f))
    ∙ sums (2 ^ suc (prec f) - 1) (2 ^ (emax f - prec f)) (2 ^ low f) c
    ∙ ap (λ (x : ℕ). x * (2 ^ (emax f - prec f) * 2 ^ low f) * c) (add-one (2 ^ suc (prec f) - 1) ∙ suc_ones (suc (prec f)))
    ∙ ap (λ (x : ℕ). 2 ^ suc (prec f) * x * c) (sym (pow-add 2 (emax f - prec f) (low f)))
    ∙ ap (λ (x : ℕ). x * c) (sym (pow-add 2 (suc (prec f)) (half f)))
  where
    sums : (m x l c : ℕ) → m * x * c * l + x * l * c ≡ (m + 1) * (x * l) * c
    sums m x l c = ring (m ∷ x ∷ l ∷ c ∷ []) (var 0 ⊗ var 1 ⊗ var 3 ⊗ var 2 ⊕ var 1 ⊗ var 2 ⊗ var 3) ((var 0 ⊕ lit 1) ⊗ (var 1 ⊗ var 2) ⊗ var 3) refl

grid_under : (f : Format) (a c : ℕ) → 0 < c → a < limit f * c → grid f a c < overflow f
grid_under f a c C h =
    subst (λ (x : ℕ). grid f a c < x) (overflow_is f)
    (kept_under (prec f) (half f) (a * 2 ^ low f) c C
    (step (a * 2 ^ low f) (limit f * c * 2 ^ low f) (2 ^ half f * c) (2 ^ (suc (prec f) + half f) * c) (mul-lt-mul_of_pos_right h (pow_pos (low f))) (limit_is f c)))
  where
    step : (x y z t : ℕ) → x < y → y + z ≡ t → x + z < t
    step x y z t h e = omega arith

grid_over : (f : Format) (a c : ℕ) → 0 < c → limit f * c ≤ a → overflow f ≤ grid f a c
grid_over f a c C h =
    subst (λ (x : ℕ). x ≤ grid f a c) (overflow_is f)
    (kept_over (prec f) (half f) (a * 2 ^ low f) c (two-le_pos (prec f) (two f)) C
    (step (a * 2 ^ low f) (limit f * c * 2 ^ low f) (2 ^ half f * c) (2 ^ (suc (prec f) + half f) * c) (mul-le-mul_right (2 ^ low f) h) (limit_is f c)))
  where
    step : (x y z t : ℕ) → y ≤ x → y + z ≡ t → t ≤ x + z
    step x y z t h e = omega arith

-- every finite value of the format is below it
pub size_under : (f : Format) (x : Float) → T (fits f x) → T (finite x) → size_in f x < limit f * 2 ^ low f
size_under f x h t =
    lt_of_not-le (λ (g : limit f * 2 ^ low f ≤ size_in f x).
    not-le_of_lt (size_below f x h t) (le_trans (grid_over f (size_in f x) (2 ^ low f) (pow_pos (low f)) g) (le_of_eq (grid_of_size f x h t))))

-- ---- the rounded value is finite, or the infinity of its sign
units_inf : (f : Format) (s : Bool) (q k : ℕ) → overflow f ≤ q * 2 ^ k → units f s q k ≡ inf s
unfolding units
units_inf f s q k h =
    cond_no (ltb (q * 2 ^ k) (overflow f)) (odd (suc (prec f)) s q k (low f)) (inf s)
    (not_T (ltb (q * 2 ^ k) (overflow f)) (λ (t : T (ltb (q * 2 ^ k) (overflow f))). not-le_of_lt (ltb→lt (q * 2 ^ k) (overflow f) t) h))

module _ (f : Format) (s : Bool) (a c : ℕ) (C : 0 < c) where
  pub round_finite : a < limit f * c → T (finite (round f s a c))
  round_finite h =
      let n = a * 2 ^ low f in
      let q = kept (prec f) n c in
      let k = drop (prec f) n c in
      subst (λ (x : Float). T (finite x)) (sym (round_is f s a c)) (value_finite (units f s q k) s (grid f a c) (2 ^ low f) (units_val f s q k (grid_under f a c C h)))

  pub round_infinite : limit f * c ≤ a → round f s a c ≡ inf s
  round_infinite h = round_is f s a c ∙ units_inf f s (kept (prec f) (a * 2 ^ low f) c) (drop (prec f) (a * 2 ^ low f) c) (grid_over f a c C h)

  pub round_either : T (finite (round f s a c)) ⊎ (round f s a c ≡ inf s)
  round_either = go (ltb a (limit f * c)) (ltb→lt a (limit f * c)) (nltb→le a (limit f * c))
    where
      go : (b : Bool) → (T b → a < limit f * c) → (T (not b) → limit f * c ≤ a) → T (finite (round f s a c)) ⊎ (round f s a c ≡ inf s)
      go true h g = inl (round_finite (h tt))
      go false h g = inr (round_infinite (g tt))
