-- A number shifted right with a sticky bit rounds as the number itself does, where the unit in the last place lies two bits above the sticky bit.
-- Assumes nothing.
use mathlib.Core.Path.{◌≡◌, refl, sym, ap, ap₂, ◌∙◌}
use mathlib.Core.Bool.{Bool, true, false, not}
use mathlib.Core.Logic.{◌⊎◌, inl, inr}
use mathlib.Core.List.{[], ◌∷◌}
use Prim.Native.Nat.{ℕ, ◌+◌, ◌-◌, ◌*◌, ◌/◌, ◌^◌, ◌≤◌, ◌<◌}
use native.Mathlib.Nat.{le_trans, le_of_eq, lt_of_lt_of_le, lt_of_not-le, not-le_of_lt, mul_assoc, mul-pos, mul-le-mul_right, mul-lt-mul_of_pos_right, lt_of_mul-lt-mul_right, le_of_mul-le-mul_right, le-div_iff_mul-le}
use native.Mathlib.Omega.{arith}
use lib.Dec.{T, leb, leb→le, nleb→lt, lit<}
use lib.Pow.{pow_pos, pow-add, pow_mono}
use lib.Ieee.{binary32, size, units, round}
use lib.Ieee.Digits.{size-lt}
use lib.Ieee.Nearest.{closest, closest_same}
use Rattle.laws.specs.Sticky.{sticky}
use Rattle.laws.proofs.solvers.Ring.{var, lit, ◌⊗◌}
use Rattle.laws.proofs.solvers.RingNat.{ring}
use Rattle.laws.proofs.rounding.StickyLaws.{sticky_below, sticky_least, closest_sticky}
use Rattle.scalar.proofs.products.UlpLaws.{round_ulp, ulp_under, ulp_over}

pub pow_split : (d u : ℕ) → d ≤ u → 2 ^ u ≡ 2 ^ d * 2 ^ (u - d)
pow_split d u h = ap (λ (n : ℕ). 2 ^ n) back ∙ pow-add 2 d (u - d)
  where
    back : u ≡ d + (u - d)
    back = omega arith

-- n * 2 ^ (u - d) is shifted right to the exponent u; the unit in the last place is 4 * 2 ^ u or more
module _ (n d u : ℕ) (U : d ≤ u) (room : (u ≤ 275) ⊎ (33554432 * 2 ^ d ≤ n)) where
  D : ℕ
  D = 2 ^ d

  E : ℕ
  E = 2 ^ (u - d)

  -- the exponent of the unit in the last place
  k : ℕ
  k = size (n * E / 2 ^ 277) - 24

  h : ℕ
  h = 2 ^ (275 + k - u)

  split : 2 ^ u ≡ D * E
  unfolding D E
  split = pow_split d u U

  above : u + 2 ≤ 277 + k
  unfolding D E k
  above = elim room [ inl l ↦ omega arith | inr l ↦ go (leb u 275) (leb→le u 275) (nleb→lt u 275) l ]
    where
      go : (b : Bool) → (T b → u ≤ 275) → (T (not b) → 275 < u) → 33554432 * 2 ^ d ≤ n → u + 2 ≤ 277 + k
      go true f g l = let m = f tt in omega arith
      go false f g l = let m = g tt in let z = bits in omega arith
        where
          parts : (u : ℕ) → 275 < u → u - 252 + 277 ≡ 25 + u
          parts u h = omega arith

          large : 2 ^ (u - 252) ≤ n * E / 2 ^ 277
          large =
              (le-div_iff_mul-le (pow_pos 277)).1
              (le_trans (le_of_eq (sym (pow-add 2 (u - 252) 277) ∙ ap (λ (x : ℕ). 2 ^ x) (parts u (g tt)) ∙ pow-add 2 25 u ∙ ap (λ (x : ℕ). 33554432 * x) split ∙ sym (mul_assoc 33554432 D E)))
              (mul-le-mul_right E l))

          bits : u - 252 < size (n * E / 2 ^ 277)
          bits = lt_of_not-le (λ (q : size (n * E / 2 ^ 277) ≤ u - 252). not-le_of_lt (lt_of_lt_of_le (size-lt (n * E / 2 ^ 277)) (pow_mono q)) large)

  -- the unit in the last place
  unit : 2 ^ (277 + k) ≡ 4 * h * (D * E)
  unfolding h
  unit = ap (λ (x : ℕ). 2 ^ x) (sums k above) ∙ pow-add 2 (2 + (275 + k - u)) u ∙ ap₂ ◌*◌ (pow-add 2 2 (275 + k - u)) split
    where
      sums : (k : ℕ) → u + 2 ≤ 277 + k → 277 + k ≡ 2 + (275 + k - u) + u
      sums k l = omega arith

  unit_up : (j m : ℕ) → m ≡ j + 277 → 2 ^ (m + k) ≡ 2 ^ j * (4 * h * (D * E))
  unit_up j m e = ap (λ (x : ℕ). 2 ^ x) (sums j m k e) ∙ pow-add 2 j (277 + k) ∙ ap (λ (x : ℕ). 2 ^ j * x) unit
    where
      sums : (j m k : ℕ) → m ≡ j + 277 → m + k ≡ j + (277 + k)
      sums j m k e = omega arith

  top : 2 ^ (301 + k) ≡ 2 * (33554432 * h) * (D * E)
  top = unit_up 24 301 refl ∙ ring (h ∷ D * E ∷ []) (lit (2 ^ 24) ⊗ (lit 4 ⊗ var 0 ⊗ var 1)) (lit 2 ⊗ (lit 33554432 ⊗ var 0) ⊗ var 1) refl

  bottom : 2 ^ (300 + k) ≡ 2 * (16777216 * h) * (D * E)
  bottom = unit_up 23 300 refl ∙ ring (h ∷ D * E ∷ []) (lit (2 ^ 23) ⊗ (lit 4 ⊗ var 0 ⊗ var 1)) (lit 2 ⊗ (lit 16777216 ⊗ var 0) ⊗ var 1) refl

  D-pos : 0 < D
  unfolding D
  D-pos = pow_pos d

  E_pos : 0 < E
  unfolding E
  E_pos = pow_pos (u - d)

  under : n < 2 * (33554432 * h) * D
  unfolding k
  under = lt_of_mul-lt-mul_right E (lt_of_lt_of_le (ulp_under (n * E)) (le_of_eq (top ∙ sym (mul_assoc (2 * (33554432 * h)) D E))))

  over : 0 < k → 2 * (16777216 * h) * D ≤ n
  unfolding k
  over p = le_of_mul-le-mul_right (le_trans (le_of_eq (mul_assoc (2 * (16777216 * h)) D E ∙ sym bottom)) (ulp_over (n * E) p)) E_pos

  m : ℕ
  m = sticky n D

  m_under : m * (D * E) < 2 ^ (301 + k)
  unfolding m
  m_under = lt_of_lt_of_le (mul-lt-mul_of_pos_right (sticky_below n D D-pos (33554432 * h) under) (mul-pos D-pos E_pos)) (le_of_eq (sym top))

  m_over : 0 < k → 2 ^ (300 + k) ≤ m * (D * E)
  unfolding m
  m_over p = le_trans (le_of_eq bottom) (mul-le-mul_right (D * E) (sticky_least n D D-pos (16777216 * h) (over p)))

  same : closest (n * E) (2 ^ (277 + k)) ≡ closest (m * (D * E)) (2 ^ (277 + k))
  unfolding m h
  same =
      closest_same (n * E) (2 ^ (277 + k)) n (4 * h * D) (pow_pos (277 + k)) (mul-pos h4 D-pos)
      (ring (n ∷ h ∷ D ∷ E ∷ []) (var 0 ⊗ var 3 ⊗ (lit 4 ⊗ var 1 ⊗ var 2)) (var 0 ⊗ (lit 4 ⊗ var 1 ⊗ (var 2 ⊗ var 3))) refl ∙ ap (λ (x : ℕ). n * x) (sym unit))
      ∙ closest_sticky n D D-pos h (pow_pos (275 + k - u))
      ∙ closest_same m (4 * h) (m * (D * E)) (2 ^ (277 + k)) h4 (pow_pos (277 + k))
      (ap (λ (x : ℕ). m * x) unit ∙ ring (m ∷ h ∷ D * E ∷ []) (var 0 ⊗ (lit 4 ⊗ var 1 ⊗ var 2)) (var 0 ⊗ var 2 ⊗ (lit 4 ⊗ var 1)) refl)
    where
      h4 : 0 < 4 * h
      h4 = mul-pos (lit< tt) (pow_pos (275 + k - u))

  pub round_sticky : (s : Bool) → round binary32 s (n * 2 ^ (u - d)) (2 ^ 426) ≡ round binary32 s (sticky n (2 ^ d) * 2 ^ u) (2 ^ 426)
  unfolding D E k m
  round_sticky s =
      round_ulp s (n * E) k (ulp_under (n * E)) (ulp_over (n * E))
      ∙ ap (λ (q : ℕ). units binary32 s q k) same
      ∙ sym (round_ulp s (m * (D * E)) k m_under m_over)
      ∙ ap (λ (x : ℕ). round binary32 s (m * x) (2 ^ 426)) (sym split)
