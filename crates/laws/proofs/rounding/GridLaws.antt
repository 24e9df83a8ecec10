-- The count of smallest values that a / c rounds to, `grid f a c`: the size of no finite value of the format is nearer to a / c,
-- and where another one is as near, the kept number is even. Assumes nothing.
use mathlib.Core.Path.{◌≡◌, sym, ap, ◌∙◌, subst, subst₂}
use mathlib.Core.Bool.{Bool, true, false, not, cond}
use mathlib.Core.Logic.{◌⊎◌, inl, inr}
use Prim.Native.Nat.{ℕ, ◌+◌, ◌-◌, ◌*◌, ◌%◌, ◌^◌, ◌≤◌, ◌<◌}
use native.Mathlib.Nat.{eq-zero-or-pos, le_trans, le_of_eq, le_of_lt, le-add_left, zero-mul, mul-one, mul_assoc, mul_comm, mul-lt-mul_of_pos_right, mul-pos, eq_of_mul-eq-mul_right}
use native.Mathlib.Omega.{arith}
use lib.Dec.{T, leb, leb→le, nleb→lt}
use lib.Pow.{pow-add, pow_pos}
use lib.Ieee.{Float, Format, prec, low, fits}
use lib.Ieee.Fits.{two, two-le_pos}
use lib.Ieee.Order.{drop, kept}
use lib.Ieee.Scale.{grid, finite}
use Rattle.laws.specs.Within.{distance}
use Rattle.laws.specs.Exact.{size_in}
use Rattle.laws.proofs.rounding.ClosestLaws.{closest_best, closest_tie}
use Rattle.laws.proofs.rounding.KeptLaws.{whole_reaches}
use Rattle.laws.proofs.values.SizeLaws.{coarse}

module _ (f : Format) (a c : ℕ) (C : 0 < c) where
  n : ℕ
  n = a * 2 ^ low f

  k : ℕ
  k = drop (prec f) n c

  U : 0 < c * 2 ^ k
  U = mul-pos C (pow_pos k)

  swap : (w : ℕ) → w * (c * 2 ^ k) ≡ w * 2 ^ k * c
  swap w = simp (mul_assoc, mul_comm)

  -- ---- no multiple of 2 ^ k is nearer
  multiple_best : (w : ℕ) → distance (grid f a c * c) n ≤ distance (w * 2 ^ k * c) n
  unfolding k n
  multiple_best w = subst₂ (λ (x y : ℕ). distance x n ≤ distance y n) (swap (kept (prec f) n c)) (swap w) (closest_best n (c * 2 ^ k) w U)

  multiple_tie : (w : ℕ) → (kept (prec f) n c ≡ w → ⊥) → distance (grid f a c * c) n ≡ distance (w * 2 ^ k * c) n → kept (prec f) n c % 2 ≡ 0
  unfolding k n
  multiple_tie w d e =
      closest_tie n (c * 2 ^ k) w U d
      (subst₂ (λ (x y : ℕ). distance x n ≡ distance y n) (sym (swap (kept (prec f) n c))) (sym (swap w)) e)

  -- zero is one of them
  from_zero : distance (0 * 2 ^ k * c) n ≡ n
  from_zero = ap (λ (N : ℕ). distance (N * c) n) (zero-mul (2 ^ k)) ∙ ap (λ (x : ℕ). distance x n) (zero-mul c) ∙ at n
    where
      at : (n : ℕ) → distance 0 n ≡ n
      at n = omega arith

  pub zero_best : distance (grid f a c * c) (a * 2 ^ low f) ≤ a * 2 ^ low f
  unfolding n
  zero_best = le_trans (multiple_best 0) (le_of_eq from_zero)

  zero_tie : distance (grid f a c * c) n ≡ n → kept (prec f) n c % 2 ≡ 0
  zero_tie e =
      elim (eq-zero-or-pos (kept (prec f) n c)) [
        | inl z ↦ ap (λ (x : ℕ). x % 2) z
        | inr z ↦ multiple_tie 0 (λ (g : kept (prec f) n c ≡ 0). not_both (kept (prec f) n c) z g) (e ∙ sym from_zero)
      ]
    where
      not_both : (x : ℕ) → 0 < x → x ≡ 0 → ⊥
      not_both x z g = omega arith

  reached : 0 < k → 2 ^ (prec f - 1) * 2 ^ k * c ≤ n
  unfolding k
  reached z = le_trans (le_of_eq (sym (swap (2 ^ (prec f - 1))))) (whole_reaches (prec f) n c (two-le_pos (prec f) (two f)) C z)

  -- ---- no size of the format is nearer
  module _ (y : Float) (h : T (fits f y)) (t : T (finite y)) where
    -- it is such a multiple, or it is farther, being below the power of two that a / c has reached
    beats : (distance (grid f a c * c) n < distance (size_in f y * c) n) ⊎ ((w : ℕ) × (size_in f y ≡ w * 2 ^ k))
    beats = go (leb (2 ^ (prec f - 1 + k)) (size_in f y)) (leb→le (2 ^ (prec f - 1 + k)) (size_in f y)) (nleb→lt (2 ^ (prec f - 1 + k)) (size_in f y)) (eq-zero-or-pos k)
      where
        b : ℕ
        b = 2 ^ (prec f - 1)

        farther : (d b y n : ℕ) → d ≤ distance b n → b ≤ n → y < b → d < distance y n
        farther d b y n l r s = omega arith

        go : (x : Bool) → (T x → 2 ^ (prec f - 1 + k) ≤ size_in f y) → (T (not x) → size_in f y < 2 ^ (prec f - 1 + k)) → (k ≡ 0) ⊎ (0 < k)
            → (distance (grid f a c * c) n < distance (size_in f y * c) n) ⊎ ((w : ℕ) × (size_in f y ≡ w * 2 ^ k))
        go true l g z = inr (coarse f y k h t (l tt))
        go false l g (inl z) = inr (size_in f y, sym (ap (λ (i : ℕ). size_in f y * 2 ^ i) z ∙ mul-one (size_in f y)))
        go false l g (inr z) =
            inl
            (farther (distance (grid f a c * c) n) (b * 2 ^ k * c) (size_in f y * c) n (multiple_best b) (reached z)
            (mul-lt-mul_of_pos_right (subst (λ (x : ℕ). size_in f y < x) (pow-add 2 (prec f - 1) k) (g tt)) C))

    best : distance (grid f a c * c) n ≤ distance (size_in f y * c) n
    best = elim beats [ inl l ↦ le_of_lt l | inr w ↦ le_trans (multiple_best w.0) (le_of_eq (ap (λ (N : ℕ). distance (N * c) n) (sym w.1))) ]

    -- what is as near is such a multiple
    pub grid_level : distance (grid f a c * c) (a * 2 ^ low f) ≡ distance (size_in f y * c) (a * 2 ^ low f) → (w : ℕ) × (size_in f y ≡ w * 2 ^ drop (prec f) (a * 2 ^ low f) c)
    unfolding k n
    grid_level e = elim beats [ inl l ↦ absurd (differ (distance (grid f a c * c) n) (distance (size_in f y * c) n) e l) | inr w ↦ w ]
      where
        differ : (x y : ℕ) → x ≡ y → x < y → ⊥
        differ x y e l = omega arith

    tie : (grid f a c ≡ size_in f y → ⊥) → distance (grid f a c * c) n ≡ distance (size_in f y * c) n → kept (prec f) n c % 2 ≡ 0
    unfolding k n
    tie d e =
        let w = grid_level e in
        multiple_tie w.0 (λ (g : kept (prec f) n c ≡ w.0). d (ap (λ (x : ℕ). x * 2 ^ k) g ∙ sym w.1)) (e ∙ ap (λ (N : ℕ). distance (N * c) n) w.1)

    -- ---- nor is a value of either sign: b says whether the signs are the same
    pub grid_best : (b : Bool) → distance (grid f a c * c) (a * 2 ^ low f) ≤ cond b (distance (size_in f y * c) (a * 2 ^ low f)) (size_in f y * c + a * 2 ^ low f)
    unfolding n
    grid_best true = best
    grid_best false = le_trans zero_best (le-add_left n (size_in f y * c))

    pub grid_tie : (b : Bool) → (T b → grid f a c ≡ size_in f y → ⊥)
        → distance (grid f a c * c) (a * 2 ^ low f) ≡ cond b (distance (size_in f y * c) (a * 2 ^ low f)) (size_in f y * c + a * 2 ^ low f) → kept (prec f) (a * 2 ^ low f) c % 2 ≡ 0
    unfolding n
    grid_tie true d e = tie (d tt) e
    grid_tie false d e = zero_tie (squeezed (distance (grid f a c * c) n) n (size_in f y * c) e zero_best)
      where
        squeezed : (x n y : ℕ) → x ≡ y + n → x ≤ n → x ≡ n
        squeezed x n y e h = omega arith

-- ---- so a size of the format stays as it is
pub grid_of_size : (f : Format) (x : Float) → T (fits f x) → T (finite x) → grid f (size_in f x) (2 ^ low f) ≡ size_in f x
grid_of_size f x h t =
    eq_of_mul-eq-mul_right (2 ^ low f) (pow_pos (low f)) (grid f (size_in f x) (2 ^ low f)) (size_in f x)
    (none (grid f (size_in f x) (2 ^ low f) * 2 ^ low f) (size_in f x * 2 ^ low f) (grid_best f (size_in f x) (2 ^ low f) (pow_pos (low f)) x h t true))
  where
    none : (x y : ℕ) → distance x y ≤ distance y y → x ≡ y
    none x y h = omega arith
