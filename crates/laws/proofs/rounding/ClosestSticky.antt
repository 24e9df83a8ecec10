-- Rounding a fraction to nearest even depends on its low bits only by their sticky bit. Assumes nothing.
use mathlib.Core.Path.{◌≡◌, sym, ap, ◌∙◌}
use mathlib.Core.Bool.{Bool, true, false, not, cond}
use Prim.Native.Nat.{ℕ, ◌+◌, ◌*◌, ◌/◌, ◌%◌, ◌≤◌, ◌<◌, compare, Ordering}
use native.Mathlib.Nat.{suc-mul, le_trans, le_of_eq, mul_comm, mul_assoc, mul-le-mul_right, mod-lt, div-div-eq-div-mul}
use native.Mathlib.Omega.{arith}
use lib.Dec.{T, eqb, eqb→eq, lit<}
use lib.Arith.{mod-mul}
use lib.Ieee.{nearest}
use lib.Ieee.Nearest.{closest}
use Rattle.laws.specs.Sticky.{sticky_bit}
use Rattle.laws.proofs.numbers.BoolLaws.{pos_of_not_zero}
use Rattle.laws.proofs.numbers.CompareLaws.{Cmp, cmp, same_compare}

-- x * c + r against h * c, with 0 < r < c where t is false: as x * 2 + 1 or x * 2 against h * 2
ahead : (x h c : ℕ) → x < h → x * c + c ≤ h * c
ahead x h c l = le_trans (le_of_eq (sym (suc-mul x c))) (mul-le-mul_right c l)

orders : (x h c r : ℕ) → r < c → (o : Ordering) → Cmp o x h → (t : Bool) → (T t → r ≡ 0) → (T (not t) → 0 < r)
    → compare ((x * c + r) * 2) (2 * h * c) ≡ compare ((x * 2 + cond t 0 1) * 2) (2 * h * 2)
orders x h c r R Ordering.lt k t z p =
    let a = ahead x h c k in
    let e = mul_assoc 2 h c in
    same_compare ((x * c + r) * 2) (2 * h * c) ((x * 2 + cond t 0 1) * 2) (2 * h * 2) (λ l. low t) (λ l. absurd (omega arith)) (λ l. absurd (omega arith))
  where
    low : (t : Bool) → (x * 2 + cond t 0 1) * 2 < 2 * h * 2
    low true = omega arith
    low false = omega arith
orders x h c r R Ordering.eq k true z p =
    let a : x * c ≡ h * c = ap (λ (y : ℕ). y * c) k in
    let e = mul_assoc 2 h c in
    let n = z tt in
    same_compare ((x * c + r) * 2) (2 * h * c) ((x * 2 + 0) * 2) (2 * h * 2) (λ l. absurd (omega arith)) (λ l. omega arith) (λ l. absurd (omega arith))
orders x h c r R Ordering.eq k false z p =
    let a : x * c ≡ h * c = ap (λ (y : ℕ). y * c) k in
    let e = mul_assoc 2 h c in
    let n = p tt in
    same_compare ((x * c + r) * 2) (2 * h * c) ((x * 2 + 1) * 2) (2 * h * 2) (λ l. absurd (omega arith)) (λ l. absurd (omega arith)) (λ l. omega arith)
orders x h c r R Ordering.gt k t z p =
    let a = ahead h x c k in
    let e = mul_assoc 2 h c in
    same_compare ((x * c + r) * 2) (2 * h * c) ((x * 2 + cond t 0 1) * 2) (2 * h * 2) (λ l. absurd (omega arith)) (λ l. absurd (omega arith)) (λ l. high t)
  where
    high : (t : Bool) → 2 * h * 2 < (x * 2 + cond t 0 1) * 2
    high true = omega arith
    high false = omega arith

module _ (v c h : ℕ) (C : 0 < c) (H : 0 < h) where
  w : ℕ
  w = v / c

  half : (2 * w + sticky_bit (v % c)) / 2 ≡ w
  half = go (eqb (v % c) 0)
    where
      go : (t : Bool) → (2 * w + cond t 0 1) / 2 ≡ w
      go true = omega arith
      go false = omega arith

  bit : (2 * w + sticky_bit (v % c)) % 2 ≡ sticky_bit (v % c)
  bit = go (eqb (v % c) 0)
    where
      go : (t : Bool) → (2 * w + cond t 0 1) % 2 ≡ cond t 0 1
      go true = omega arith
      go false = omega arith

  wholes : v / (2 * h * c) ≡ (2 * w + sticky_bit (v % c)) / (2 * h * 2)
  unfolding w
  wholes =
      ap (λ (z : ℕ). v / z) (mul_comm (2 * h) c)
      ∙ sym (div-div-eq-div-mul v c (2 * h))
      ∙ ap (λ (z : ℕ). z / (2 * h)) (sym half)
      ∙ div-div-eq-div-mul (2 * (v / c) + sticky_bit (v % c)) 2 (2 * h)
      ∙ ap (λ (z : ℕ). (2 * (v / c) + sticky_bit (v % c)) / z) (mul_comm 2 (2 * h))

  x : ℕ
  x = w % (2 * h)

  HH : 0 < 2 * h
  HH = omega arith

  left : v % (2 * h * c) ≡ x * c + v % c
  unfolding w x
  left = mod-mul v HH C

  right : (2 * w + sticky_bit (v % c)) % (2 * h * 2) ≡ x * 2 + sticky_bit (v % c)
  unfolding x
  right = mod-mul (2 * w + sticky_bit (v % c)) HH (lit< tt) ∙ ap (λ (z : ℕ). z % (2 * h) * 2 + (2 * w + sticky_bit (v % c)) % 2) half ∙ ap (λ (z : ℕ). w % (2 * h) * 2 + z) bit

  tests : compare (v % (2 * h * c) * 2) (2 * h * c) ≡ compare ((2 * w + sticky_bit (v % c)) % (2 * h * 2) * 2) (2 * h * 2)
  tests =
      ap (λ (z : ℕ). compare (z * 2) (2 * h * c)) left
      ∙ orders x h c (v % c) (mod-lt v C) (compare x h) (cmp x h) (eqb (v % c) 0) (eqb→eq (v % c) 0) (pos_of_not_zero (v % c))
      ∙ ap (λ (z : ℕ). compare (z * 2) (2 * h * 2)) (sym right)

  -- v / c rounded to a multiple of 2 * h, by its whole part and the sticky bit of the rest
  pub closest_sticky_bit : closest v (2 * h * c) ≡ closest (2 * (v / c) + sticky_bit (v % c)) (2 * h * 2)
  unfolding w
  closest_sticky_bit = ap (λ (z : ℕ). nearest z (compare (v % (2 * h * c) * 2) (2 * h * c))) wholes ∙ ap (λ (o : Ordering). nearest ((2 * (v / c) + sticky_bit (v % c)) / (2 * h * 2)) o) tests
