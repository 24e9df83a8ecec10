-- How far rounding goes, in sizes: n / d of a format's smallest values, rounded, against n / d. Assumes nothing.
use mathlib.Core.Path.{◌≡◌, sym, ap, ◌∙◌, subst, subst₂}
use mathlib.Core.Bool.{Bool, true, false, not}
use Prim.Native.Nat.{ℕ, zero, suc, ◌+◌, ◌-◌, ◌*◌, ◌^◌, ◌≤◌, ◌<◌}
use native.Mathlib.Nat.{le_trans, le_of_eq, le_antisymm, lt_of_le_of_lt, mul_comm, mul-le-mul_left, le_of_mul-le-mul_right, lt_of_mul-lt-mul_right, add-mul, mul-one, mul_assoc, mul_right_comm, mul-le-mul_right, mul-lt-mul_of_pos_right, mul-pos}
use native.Mathlib.Omega.{arith}
use lib.Dec.{T, leb, leb→le, nleb→lt}
use lib.Pow.{pow_pos, pow_mono, pow-lt}
use lib.Ieee.{Float, Format, prec, emax, low, round}
use lib.Ieee.Exact.{units_val}
use lib.Ieee.Fits.{round_is}
use lib.Ieee.Order.{drop, kept}
use lib.Ieee.Scale.{grid, overflow, finite, normal_of_fraction}
use Rattle.laws.specs.Within.{distance, Within}
use Rattle.laws.proofs.values.ValueLaws.{Value}
use Rattle.laws.proofs.rounding.GridLaws.{zero_best}
use Rattle.laws.proofs.rounding.GridErrorLaws.{unit, half_ulp, grid_le, grid_ge, grid_error}
use Rattle.laws.proofs.rounding.RoundingError.{prec_twice, round_error, round_relative, finite_round}

-- n / d smallest values, rounded to a whole number of them
unfoldable pub rounded : Format → ℕ → ℕ → ℕ
rounded f n d = grid f n (d * 2 ^ low f)

-- a factor of both numbers and of their distance
within_scaled : (a b c m : ℕ) → 0 < m → Within (a * m) (b * m) (c * m) → Within a b c
within_scaled a b c m p h = (le_of_mul-le-mul_right (le_trans h.0 (le_of_eq (sym (add-mul b c m)))) p, le_of_mul-le-mul_right (le_trans h.1 (le_of_eq (sym (add-mul a c m)))) p)

turn : (g d l q : ℕ) → g * (d * l) * q ≡ g * d * q * l
turn g d l q = omega arith

module _ (f : Format) where
  -- ---- the rounded value has that size: where it is finite, and where the size is below the overflow
  module _ (x : Float) (s : Bool) (n d : ℕ) (e : x ≡ round f s n (d * 2 ^ low f)) where
    pub finite_rounded : T (finite x) → Value f x s (rounded f n d)
    unfolding rounded
    finite_rounded t =
        subst (λ (y : Float). Value f y s (grid f n (d * 2 ^ low f))) (sym e)
        (finite_round f s n (d * 2 ^ low f) (subst (λ (y : Float). T (finite y)) e t))

    pub under_rounded : rounded f n d < overflow f → Value f x s (rounded f n d)
    unfolding rounded
    under_rounded h =
        subst (λ (y : Float). Value f y s (grid f n (d * 2 ^ low f))) (sym (e ∙ round_is f s n (d * 2 ^ low f)))
        (units_val f s (kept (prec f) (n * 2 ^ low f) (d * 2 ^ low f)) (drop (prec f) (n * 2 ^ low f) (d * 2 ^ low f)) h)

  -- ---- the error, relative to n / d and times 2 ^ prec: always at most n / d and 2 ^ (prec - 1) smallest values
  pub rounded_error : (n d : ℕ) → 0 < d → Within (rounded f n d * d * 2 ^ prec f) (n * 2 ^ prec f) (n + d * 2 ^ (prec f - 1))
  unfolding rounded
  rounded_error n d h =
      let l = 2 ^ low f in
      within_scaled (grid f n (d * l) * d * 2 ^ prec f) (n * 2 ^ prec f) (n + d * 2 ^ (prec f - 1)) l (pow_pos (low f))
      (subst₂ (λ (a c : ℕ). Within a (n * 2 ^ prec f * l) c) (turn (grid f n (d * l)) d l (2 ^ prec f)) (sum n d l (2 ^ (prec f - 1)))
      (subst (λ (b : ℕ). Within (grid f n (d * l) * (d * l) * 2 ^ prec f) b (n * l + d * l * 2 ^ (prec f - 1))) (mul_right_comm n l (2 ^ prec f)) (round_error f n (d * l) (mul-pos h (pow_pos (low f))))))
    where
      sum : (n d l q : ℕ) → n * l + d * l * q ≡ (n + d * q) * l
      sum n d l q = omega arith

  -- from 2 ^ (prec - 1) smallest values on: at most n / d
  pub rounded_relative : (n d : ℕ) → 0 < d → 2 ^ (prec f - 1) * d ≤ n → Within (rounded f n d * d * 2 ^ prec f) (n * 2 ^ prec f) n
  unfolding rounded
  rounded_relative n d h k =
      let l = 2 ^ low f in
      let p = mul-pos h (pow_pos (low f)) in
      within_scaled (grid f n (d * l) * d * 2 ^ prec f) (n * 2 ^ prec f) n l (pow_pos (low f))
      (subst₂ (λ (a b : ℕ). Within a b (n * l)) (turn (grid f n (d * l)) d l (2 ^ prec f)) (mul_right_comm n l (2 ^ prec f))
      (round_relative f n (d * l) p (normal_of_fraction f n (d * l) p (le_trans (le_of_eq (sym (mul_assoc (2 ^ (prec f - 1)) d l))) (mul-le-mul_right l k)))))

  -- a whole number of smallest values: at most the number, as a small one stays as it is
  pub rounded_whole : (n : ℕ) → Within (rounded f n 1 * 2 ^ prec f) (n * 2 ^ prec f) n
  rounded_whole n = go (leb (2 ^ (prec f - 1)) n) (leb→le (2 ^ (prec f - 1)) n) (nleb→lt (2 ^ (prec f - 1)) n)
    where
      one : Within (rounded f n 1 * 1 * 2 ^ prec f) (n * 2 ^ prec f) n → Within (rounded f n 1 * 2 ^ prec f) (n * 2 ^ prec f) n
      one h = subst (λ (m : ℕ). Within (m * 2 ^ prec f) (n * 2 ^ prec f) n) (mul-one (rounded f n 1)) h

      under : (a b n h : ℕ) → a * (2 * h) ≤ b * (2 * h) + (n + h) → n < h → a ≤ b
      under a b n h k l = next (lt_of_mul-lt-mul_right (2 * h) (less k))
        where
          less : a * (2 * h) ≤ b * (2 * h) + (n + h) → a * (2 * h) < (b + 1) * (2 * h)
          less k = omega (arith, add-mul b 1 (2 * h))

          next : {a b : ℕ} → a < b + 1 → a ≤ b
          next h = omega arith

      itself : (g n h : ℕ) → Within (g * 1 * (2 * h)) (n * (2 * h)) (n + 1 * h) → n < h → g ≡ n
      itself g n h w l = le_antisymm (under g n n h (left w.0) l) (under n g n h (right w.1) l)
        where
          left : g * 1 * (2 * h) ≤ n * (2 * h) + (n + 1 * h) → g * (2 * h) ≤ n * (2 * h) + (n + h)
          left k = omega arith

          right : n * (2 * h) ≤ g * 1 * (2 * h) + (n + 1 * h) → n * (2 * h) ≤ g * (2 * h) + (n + h)
          right k = omega arith

      none : (a b c : ℕ) → a ≡ b → Within a b c
      none a b c e = omega arith

      go : (b : Bool) → (T b → 2 ^ (prec f - 1) ≤ n) → (T (not b) → n < 2 ^ (prec f - 1)) → Within (rounded f n 1 * 2 ^ prec f) (n * 2 ^ prec f) n
      go true h k = one (rounded_relative n 1 (omega arith) (le_trans (le_of_eq (mul-one (2 ^ (prec f - 1)))) (h tt)))
      go false h k =
          none (rounded f n 1 * 2 ^ prec f) (n * 2 ^ prec f) n
          (ap (λ (m : ℕ). m * 2 ^ prec f)
          (itself (rounded f n 1) n (2 ^ (prec f - 1)) (subst (λ (q : ℕ). Within (rounded f n 1 * 1 * q) (n * q) (n + 1 * 2 ^ (prec f - 1))) (prec_twice f) (rounded_error n 1 (omega arith))) (k tt)))

  -- less than half a smallest value: none
  pub rounded_none : (n d : ℕ) → 0 < d → n * 2 < d → rounded f n d ≡ 0
  unfolding rounded
  rounded_none n d D h =
      let c = d * 2 ^ low f in
      none
      (lt_of_mul-lt-mul_right c
      (lt_of_le_of_lt (near (grid f n c * c) (n * 2 ^ low f) (zero_best f n c (mul-pos D (pow_pos (low f))))) (twice (mul-lt-mul_of_pos_right h (pow_pos (low f))))))
    where
      near : (g n : ℕ) → distance g n ≤ n → g ≤ 2 * n
      near g n h = omega arith

      twice : n * 2 * 2 ^ low f < d * 2 ^ low f → 2 * (n * 2 ^ low f) < 1 * (d * 2 ^ low f)
      twice h = omega arith

      none : {g : ℕ} → g < 1 → g ≡ 0
      none h = omega arith

  -- ---- bounds by a power of two, 1 being `unit f`: a number up to 2 ^ j, j above 0, is off by at most 2 ^ (j - 1) times `half_ulp f`
  scaled_pos : (d : ℕ) → 0 < d → 0 < d * unit f
  scaled_pos d D = mul-pos D (pow_pos (low f))

  pub rounded_least : (n d j : ℕ) → 0 < d → d * unit f * 2 ^ j ≤ n → 2 ^ (low f + j) ≤ rounded f n d
  unfolding rounded
  rounded_least n d j D h = grid_ge f n (d * unit f) j (scaled_pos d D) h

  module _ (n d j : ℕ) (D : 0 < d) (h : n ≤ d * unit f * 2 ^ j) where
    pub rounded_most : rounded f n d ≤ 2 ^ (low f + j)
    unfolding rounded
    rounded_most = grid_le f n (d * unit f) j (scaled_pos d D) h

    pub rounded_near : Within (rounded f n d * d) n (half_ulp f * 2 ^ (j - 1) * d)
    unfolding rounded
    rounded_near =
        within_scaled (grid f n (d * unit f) * d) n (half_ulp f * 2 ^ (j - 1) * d) (unit f) (pow_pos (low f))
        (subst₂ (λ (a c : ℕ). Within a (n * unit f) c) (sym (mul_assoc (grid f n (d * unit f)) d (unit f))) (sym (mul_assoc (half_ulp f * 2 ^ (j - 1)) d (unit f)))
        (error (d * unit f) j (scaled_pos d D) h))
      where
        turned : (x y c e : ℕ) → Within x y (c * e) → Within x y (e * c)
        turned x y c e k = subst (λ (z : ℕ). Within x y z) (mul_comm c e) k

        less : (g : ℕ) → g ≡ suc g - 1
        less g = omega arith

        error : (c j : ℕ) → 0 < c → n ≤ c * 2 ^ j → Within (grid f n c * c) (n * unit f) (half_ulp f * 2 ^ (j - 1) * c)
        error c zero C k = turned (grid f n c * c) (n * unit f) c (half_ulp f * 1) (grid_error f n c 0 C (le_trans k (mul-le-mul_left c (pow_mono {i = 0} {j = 1} (omega arith)))))
        error c (suc g) C k = turned (grid f n c * c) (n * unit f) c (half_ulp f * 2 ^ (suc g - 1)) (subst (λ (i : ℕ). Within (grid f n c * c) (n * unit f) (c * (half_ulp f * 2 ^ i))) (less g) (grid_error f n c g C k))

    pub rounded_value : (x : Float) (s : Bool) → j ≤ emax f → x ≡ round f s n (d * unit f) → Value f x s (rounded f n d)
    rounded_value x s J e = under_rounded x s n d e (lt_of_le_of_lt rounded_most (pow-lt (room (low f) j (emax f) J)))
      where
        room : (l g m : ℕ) → g ≤ m → l + g < l + suc m
        room l g m h = omega arith
