-- Whole numbers as floats of any format: sums and differences of them, and the nearest one to a float by a sum and a difference. Assumes nothing.
use mathlib.Core.Path.{◌≡◌, refl, sym, ap, ap₂, ◌∙◌, subst}
use mathlib.Core.Bool.{Bool, true, false, not, cond}
use Prim.Native.Nat.{ℕ, suc, ◌+◌, ◌-◌, ◌*◌, ◌/◌, ◌%◌, ◌^◌, ◌≤◌, ◌<◌, compare, Ordering}
use native.Mathlib.Nat.{le_trans, le_of_eq, lt_of_le_of_lt, mul-one, one-mul, add-mul, mul_assoc, mul-pos, mul-div_cancel, mul-le-mul_right, mod-lt, div-add-mod', div-lt_iff_lt-mul}
use native.Mathlib.Omega.{arith}
use lib.Arith.{digits_div, digits_mod, le→nltb}
use lib.Dec.{T, ltb, lit<}
use lib.Pow.{pow_pos, pow-add, pow-lt}
use lib.Ieee.{Float, Format, binary32, binary64, prec, emax, low, hid, size, nearest, round, sum, add, sub}
use lib.Ieee.Back.{round_whole}
use lib.Ieee.Fits.{nearest-le}
use lib.Ieee.Nearest.{closest, closest_same}
use lib.Ieee.Order.{drop}
use lib.Ieee.Scale.{grid, overflow, round_same, round_val}
use Rattle.laws.proofs.operations.OperationLaws.{add_like_at, sub_at}
use Rattle.laws.proofs.operations.SumSigns.{sub_mul}
use Rattle.laws.proofs.values.ValueLaws.{Value, value_same, size_is}

pub whole_value : (f : Format) (s : Bool) (n : ℕ) → n ≤ 2 ^ prec f → Value f (round f s n 1) s (n * 2 ^ low f)
whole_value f s n h = value_same (round f s n 1) s n 1 (n * 2 ^ low f) (2 ^ low f) (pow_pos 0) (sym (mul-one (n * 2 ^ low f))) (round_whole f s n h)

-- ---- sums and differences
pub whole_more : (f : Format) (x y : Float) (s : Bool) (a b : ℕ) → Value f x s (a * 2 ^ low f) → Value f y s (b * 2 ^ low f) → add f x y ≡ round f s (a + b) 1
whole_more f x y s a b p q =
    add_like_at f x y s (a * 2 ^ low f) (b * 2 ^ low f) p q
    ∙ round_same f s (a * 2 ^ low f + b * 2 ^ low f) (1 * 2 ^ low f) (a + b) 1 (mul-pos {m = 1} (lit< tt) (pow_pos (low f))) (pow_pos 0)
    (mul-one (a * 2 ^ low f + b * 2 ^ low f) ∙ sym (add-mul a b (2 ^ low f)) ∙ ap (λ (n : ℕ). (a + b) * n) (sym (one-mul (2 ^ low f))))

larger : (f : Format) (a b c : ℕ) → b ≤ a → sum f false a true b c ≡ round f false (a - b) c
unfolding sum
larger f a b c h = go (ltb a b) (le→nltb a b h)
  where
    go : (t : Bool) → T (not t) → cond t (round f true (b - a) c) (round f false (a - b) c) ≡ round f false (a - b) c
    go true n = absurd n
    go false n = refl

pub whole_less : (f : Format) (x y : Float) (a b : ℕ) → Value f x false (a * 2 ^ low f) → Value f y false (b * 2 ^ low f) → b ≤ a → sub f x y ≡ round f false (a - b) 1
whole_less f x y a b p q h =
    sub_at f x y false false (a * 2 ^ low f) (b * 2 ^ low f) p q
    ∙ larger f (a * 2 ^ low f) (b * 2 ^ low f) (2 ^ low f) (mul-le-mul_right (2 ^ low f) h)
    ∙ round_same f false (a * 2 ^ low f - b * 2 ^ low f) (2 ^ low f) (a - b) 1 (pow_pos (low f)) (pow_pos 0)
    (mul-one (a * 2 ^ low f - b * 2 ^ low f) ∙ sym (sub_mul a b (2 ^ low f)))

-- ---- the nearest whole number after an even one was added
pub closest_up : (n p u : ℕ) → 0 < u → p % 2 ≡ 0 → closest (n + p * u) u ≡ closest n u + p
closest_up n p u U e =
    ap₂ (λ (w r : ℕ). nearest w (compare (r * 2) u)) (ap (λ (m : ℕ). m / u) split ∙ digits_div (n / u + p) (mod-lt n U)) (ap (λ (m : ℕ). m % u) split ∙ digits_mod (n / u + p) (mod-lt n U))
    ∙ go (n / u) (compare (n % u * 2) u)
  where
    split : n + p * u ≡ (n / u + p) * u + n % u
    split = let h = div-add-mod' n u in omega (arith, add-mul (n / u) p u)

    tie : (w p : ℕ) → p % 2 ≡ 0 → w + p + (w + p) % 2 ≡ w + w % 2 + p
    tie w p e = omega arith

    after : (w p : ℕ) → suc (w + p) ≡ suc w + p
    after w p = omega arith

    go : (w : ℕ) (o : Ordering) → nearest (w + p) o ≡ nearest w o + p
    go w Ordering.lt = refl
    go w Ordering.eq = tie w p e
    go w Ordering.gt = after w p

-- ---- of a number from 2 ^ (prec - 1) to 2 ^ prec the unit in the last place is 1
powers : (f : Format) → hid f * 2 ^ low f ≡ 2 ^ (prec f - 1 + low f)
powers f = sym (pow-add 2 (prec f - 1) (low f))

twice : (f : Format) → 2 ^ prec f ≡ 2 * hid f
twice binary32 = refl
twice binary64 = refl

even_hid : (f : Format) → hid f % 2 ≡ 0
even_hid binary32 = refl
even_hid binary64 = refl

room : (f : Format) → prec f + low f < low f + suc (emax f)
room binary32 = lit< tt
room binary64 = lit< tt

module _ (f : Format) (n : ℕ) (least : hid f * 2 ^ low f ≤ n) (most : n < 2 ^ prec f * 2 ^ low f) where
  dropped : drop (prec f) (n * 2 ^ low f) (2 ^ low f) ≡ low f
  dropped =
      ap (λ (m : ℕ). size m - prec f) (mul-div_cancel n (pow_pos (low f)))
      ∙ ap (λ (z : ℕ). z - prec f) (size_is n (prec f - 1 + low f) (subst (λ (m : ℕ). m ≤ n) (powers f) least) (subst (λ (m : ℕ). n < m) top_is most))
      ∙ rest f (low f)
    where
      suc_prec : (f : Format) (l : ℕ) → prec f + l ≡ suc (prec f - 1 + l)
      suc_prec binary32 l = omega arith
      suc_prec binary64 l = omega arith

      top_is : 2 ^ prec f * 2 ^ low f ≡ 2 ^ suc (prec f - 1 + low f)
      top_is = sym (pow-add 2 (prec f) (low f)) ∙ ap (λ (i : ℕ). 2 ^ i) (suc_prec f (low f))

      rest : (f : Format) (l : ℕ) → suc (prec f - 1 + l) - prec f ≡ l
      rest binary32 l = omega arith
      rest binary64 l = omega arith

  grid_is : grid f n (2 ^ low f) ≡ closest n (2 ^ low f) * 2 ^ low f
  grid_is =
      ap (λ (k : ℕ). closest (n * 2 ^ low f) (2 ^ low f * 2 ^ k) * 2 ^ k) dropped
      ∙ ap (λ (w : ℕ). w * 2 ^ low f)
      (closest_same (n * 2 ^ low f) (2 ^ low f * 2 ^ low f) n (2 ^ low f) (mul-pos (pow_pos (low f)) (pow_pos (low f))) (pow_pos (low f)) (mul_assoc n (2 ^ low f) (2 ^ low f)))

  few : closest n (2 ^ low f) ≤ 2 ^ prec f
  few = le_trans (nearest-le (n / 2 ^ low f) (compare (n % 2 ^ low f * 2) (2 ^ low f))) ((div-lt_iff_lt-mul (pow_pos (low f))).1 most)

  under : closest n (2 ^ low f) * 2 ^ low f < overflow f
  under = lt_of_le_of_lt (mul-le-mul_right (2 ^ low f) few) (lt_of_le_of_lt (le_of_eq (sym (pow-add 2 (prec f) (low f)))) (pow-lt (room f)))

  pub rounds_at_one : Value f (round f false n (1 * 2 ^ low f)) false (closest n (2 ^ low f) * 2 ^ low f)
  rounds_at_one =
      subst (λ (c : ℕ). Value f (round f false n c) false (closest n (2 ^ low f) * 2 ^ low f)) (sym (one-mul (2 ^ low f)))
      (subst (λ (g : ℕ). Value f (round f false n (2 ^ low f)) false g) grid_is (round_val f n (2 ^ low f) (subst (λ (g : ℕ). g < overflow f) (sym grid_is) under)))

-- ---- below 2 ^ (prec - 1), that power added and subtracted gives the nearest whole number, ties to even: the sum's unit in the last
-- place is 1, and the difference is exact
pub near_whole : (f : Format) (x m : Float) (n : ℕ) → Value f x false n → Value f m false (hid f * 2 ^ low f) → n < hid f * 2 ^ low f
    → sub f (add f x m) m ≡ round f false (closest n (2 ^ low f)) 1
near_whole f x m n v w h = whole_less f (add f x m) m (closest n (2 ^ low f) + hid f) (hid f) summed w (least (closest n (2 ^ low f)) (hid f)) ∙ ap (λ (i : ℕ). round f false i 1) (back (closest n (2 ^ low f)) (hid f))
  where
    least : (a b : ℕ) → b ≤ a + b
    least a b = omega arith

    back : (a b : ℕ) → a + b - b ≡ a
    back a b = omega arith

    doubled : (a p t d : ℕ) → a < p * d → t ≡ 2 * p → a + p * d < t * d
    doubled a p t d h e = subst (λ (z : ℕ). a + p * d < z * d) (sym e) (let g = mul_assoc 2 p d in omega arith)

    summed : Value f (add f x m) false ((closest n (2 ^ low f) + hid f) * 2 ^ low f)
    summed =
        subst (λ (y : Float). Value f y false ((closest n (2 ^ low f) + hid f) * 2 ^ low f)) (sym (add_like_at f x m false n (hid f * 2 ^ low f) v w))
        (subst (λ (i : ℕ). Value f (round f false (n + hid f * 2 ^ low f) (1 * 2 ^ low f)) false (i * 2 ^ low f)) (closest_up n (hid f) (2 ^ low f) (pow_pos (low f)) (even_hid f))
        (rounds_at_one f (n + hid f * 2 ^ low f) (least n (hid f * 2 ^ low f)) (doubled n (hid f) (2 ^ prec f) (2 ^ low f) h (twice f))))
