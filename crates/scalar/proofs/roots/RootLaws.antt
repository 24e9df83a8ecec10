-- From the definition's root to the rounded value: where p + 1 is nearest to the root of m, the root of m * 4 ^ h rounds to (p + 1) * 2 ^ h.
-- Assumes nothing.
use mathlib.Core.Path.{◌≡◌, refl, sym, ap, ◌∙◌, subst}
use mathlib.Core.Bool.{Bool, true, false, cond}
use mathlib.Core.List.{[], ◌∷◌}
use Prim.Native.Nat.{ℕ, suc, ◌+◌, ◌-◌, ◌*◌, ◌/◌, ◌^◌, ◌≤◌, ◌<◌}
use native.Mathlib.Nat.{le_trans, le_of_eq, le_of_lt, lt_of_lt_of_le, lt_of_le_of_lt, mul-le-mul_left, mul-le-mul_right, mul-pos, mul-lt-mul_of_pos_right, mul-lt-mul_of_pos_left, mul-div-mul_right, mul_comm, pow-suc}
use native.Mathlib.Omega.{arith}
use lib.Dec.{T, eqb, eqb→eq, lit<}
use lib.Pow.{pow_pos, pow-add}
use lib.Ieee.{binary32, size, units, round}
use lib.Ieee.Fits.{core, round_is}
use lib.Ieee.Nearest.{closest, closest_same}
use Rattle.laws.proofs.solvers.Ring.{var, lit, ◌⊕◌, ◌⊗◌}
use Rattle.laws.proofs.solvers.RingNat.{ring}
use Rattle.laws.proofs.rounding.ClosestLaws.{closest_is}
use Rattle.laws.proofs.values.ValueLaws.{size_is}
use Rattle.laws.specs.WholeRoot.{WholeRoot, whole_root}
use Rattle.scalar.specs.Root.{twice_root}
use Rattle.scalar.specs.RootParts.{NearRoot}
use Rattle.laws.proofs.numbers.WholeRootLaws.{square_lt, root_lt, root_ge, next_square, odd_square, whole_root_is}

-- ---- twice the root, and one more where R is not all of it
abbrev twice : ℕ → ℕ → ℕ
twice R w = R + R + cond (eqb (R * R) w) 0 1

twice_half : (R w : ℕ) → twice R w / 2 ≡ R
twice_half R w = go (eqb (R * R) w)
  where
    go : (t : Bool) → (R + R + cond t 0 1) / 2 ≡ R
    go true = omega arith
    go false = omega arith

-- it lies between two even numbers as twice the root does
twice_above : (w R l : ℕ) → WholeRoot w R → l * l < w → 2 * l < twice R w
twice_above w R l r a = go (eqb (R * R) w) (eqb→eq (R * R) w) (root_ge w R l r (le_of_lt a))
  where
    go : (t : Bool) → (T t → R * R ≡ w) → l ≤ R → 2 * l < R + R + cond t 0 1
    go true e h = let k : l < R = square_lt l R (subst (λ (z : ℕ). l * l < z) (sym (e tt)) a) in omega arith
    go false e h = omega arith

twice_below : (w R u : ℕ) → WholeRoot w R → w < u * u → twice R w < 2 * u
twice_below w R u r b = go (eqb (R * R) w) (root_lt w R u r b)
  where
    go : (t : Bool) → R < u → R + R + cond t 0 1 < 2 * u
    go true h = omega arith
    go false h = omega arith

-- ---- squares with a common factor
scaled : (x u : ℕ) → x * u * (x * u) ≡ x * x * (u * u)
scaled x u = ring (x ∷ u ∷ []) (var 0 ⊗ var 1 ⊗ (var 0 ⊗ var 1)) (var 0 ⊗ var 0 ⊗ (var 1 ⊗ var 1)) refl

pub scaled_le : (x y u : ℕ) → x * x ≤ y → x * u * (x * u) ≤ y * (u * u)
scaled_le x y u h = le_trans (le_of_eq (scaled x u)) (mul-le-mul_right (u * u) h)

pub scaled_lt : (x y u : ℕ) → 0 < u → x * x < y → x * u * (x * u) < y * (u * u)
scaled_lt x y u p h = lt_of_le_of_lt (le_of_eq (scaled x u)) (mul-lt-mul_of_pos_right h (mul-pos p p))

pub scaled_gt : (x y u : ℕ) → 0 < u → y < x * x → y * (u * u) < x * u * (x * u)
scaled_gt x y u p h = lt_of_lt_of_le (mul-lt-mul_of_pos_right h (mul-pos p p)) (le_of_eq (sym (scaled x u)))

-- the root of m is above p + 1/2
pub half_below : (m p : ℕ) → NearRoot m (p + 1) → (2 * p + 1) * (2 * p + 1) < 4 * m
half_below m p near = omega (arith, near.above, next_square p, odd_square p)

-- ---- w is m times the square of 2 G, and p + 1 is nearest to the root of m
module _ (w m g p : ℕ) (square : w ≡ m * (2 ^ suc g * 2 ^ suc g)) (near : NearRoot m (p + 1)) (lo : 2 ^ 46 ≤ m) (hi : m < 2 ^ 48) (small : w < 4 ^ 214) where
  G : ℕ
  G = 2 ^ g

  G-pos : 0 < G
  unfolding G
  G-pos = pow_pos g

  double : 2 ^ suc g ≡ 2 * G
  unfolding G
  double = pow-suc 2 g ∙ mul_comm G 2

  w_is : w ≡ 4 * m * (G * G)
  w_is = square ∙ ap (λ (u : ℕ). m * (u * u)) double ∙ ring (m ∷ G ∷ []) (var 0 ⊗ (lit 2 ⊗ var 1 ⊗ (lit 2 ⊗ var 1))) (lit 4 ⊗ var 0 ⊗ (var 1 ⊗ var 1)) refl

  R : ℕ
  R = whole_root 214 w

  A : ℕ
  A = twice R w

  R-is : WholeRoot (4 * m * (G * G)) R
  unfolding R
  R-is = subst (λ (z : ℕ). WholeRoot z R) w_is (whole_root_is 214 w small)

  A-above : 2 * ((2 * p + 1) * G) < A
  unfolding A
  A-above = subst (λ (z : ℕ). 2 * ((2 * p + 1) * G) < twice R z) (sym w_is) (twice_above (4 * m * (G * G)) R ((2 * p + 1) * G) R-is (scaled_lt (2 * p + 1) (4 * m) G G-pos (half_below m p near)))

  A-below : A < 2 * ((2 * (p + 1) + 1) * G)
  unfolding A
  A-below = subst (λ (z : ℕ). twice R z < 2 * ((2 * (p + 1) + 1) * G)) (sym w_is) (twice_below (4 * m * (G * G)) R ((2 * (p + 1) + 1) * G) R-is (scaled_gt (2 * (p + 1) + 1) (4 * m) G G-pos near.below))

  nearest_is : closest A (4 * G) ≡ p + 1
  nearest_is = closest_is A (4 * G) (p + 1) (mul-pos (lit< tt) G-pos) (omega (arith, A-above, step, left)) (omega (arith, A-below, step, right))
    where
      step : (p + 1) * (4 * G) ≡ 4 * (p * G) + 4 * G
      step = ring (p ∷ G ∷ []) ((var 0 ⊕ lit 1) ⊗ (lit 4 ⊗ var 1)) (lit 4 ⊗ (var 0 ⊗ var 1) ⊕ lit 4 ⊗ var 1) refl

      left : (2 * p + 1) * G ≡ 2 * (p * G) + G
      left = ring (p ∷ G ∷ []) ((lit 2 ⊗ var 0 ⊕ lit 1) ⊗ var 1) (lit 2 ⊗ (var 0 ⊗ var 1) ⊕ var 1) refl

      right : (2 * (p + 1) + 1) * G ≡ 2 * (p * G) + 3 * G
      right = ring (p ∷ G ∷ []) ((lit 2 ⊗ (var 0 ⊕ lit 1) ⊕ lit 1) ⊗ var 1) (lit 2 ⊗ (var 0 ⊗ var 1) ⊕ lit 3 ⊗ var 1) refl

  -- ---- the root has 25 + g bits, of which g + 1 are dropped
  R-size : size R ≡ suc (24 + g)
  unfolding G
  R-size = size_is R (24 + g)
      (subst (λ (x : ℕ). x ≤ R) (sym (pow-add 2 24 g)) (root_ge (4 * m * (G * G)) R (16777216 * G) R-is (scaled_le 16777216 (4 * m) G (mul-le-mul_left 4 lo))))
      (subst (λ (x : ℕ). R < x) (sym (ap (λ (x : ℕ). 2 ^ x) (one_more g) ∙ pow-add 2 25 g)) (root_lt (4 * m * (G * G)) R (33554432 * G) R-is (scaled_gt 33554432 (4 * m) G G-pos (mul-lt-mul_of_pos_left hi (lit< tt)))))
    where
      one_more : (g : ℕ) → suc (24 + g) ≡ 25 + g
      one_more g = omega arith

  drop_is : size (A * 2 ^ 149 / 2 ^ 150) - 24 ≡ suc g
  unfolding A
  drop_is = ap (λ (z : ℕ). size z - 24) (mul-div-mul_right (twice R w) 2 (pow_pos 149) ∙ twice_half R w) ∙ ap (λ (z : ℕ). z - 24) R-size ∙ less g
    where
      less : (g : ℕ) → suc (24 + g) - 24 ≡ suc g
      less g = omega arith

  same : A * 2 ^ 149 * (4 * G) ≡ A * (2 ^ 150 * 2 ^ suc g)
  same =
      ring (A ∷ G ∷ []) (var 0 ⊗ lit (2 ^ 149) ⊗ (lit 4 ⊗ var 1)) (var 0 ⊗ (lit (2 ^ 150) ⊗ (lit 2 ⊗ var 1))) refl
      ∙ ap (λ (x : ℕ). A * (2 ^ 150 * x)) (sym double)

  rounded : (s : Bool) → round binary32 s A (2 ^ 150) ≡ units binary32 s (p + 1) (suc g)
  rounded s =
      round_is binary32 s A (2 ^ 150)
      ∙ ap (core binary32 s (A * 2 ^ 149) (2 ^ 150)) drop_is
      ∙ ap (λ (z : ℕ). units binary32 s z (suc g)) (closest_same (A * 2 ^ 149) (2 ^ 150 * 2 ^ suc g) A (4 * G) (mul-pos (pow_pos 150) (pow_pos (suc g))) (mul-pos (lit< tt) G-pos) same ∙ nearest_is)

  pub root_rounded : (s : Bool) → round binary32 s (twice_root w) (2 ^ 150) ≡ units binary32 s (p + 1) (suc g)
  unfolding A R
  root_rounded = rounded
