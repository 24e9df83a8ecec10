-- The computed squared length against the exact one, over plain numbers: no float is named here. Assumes nothing.
use mathlib.Core.List.{[], ◌∷◌}
use Prim.Native.Nat.{ℕ, ◌+◌, ◌-◌, ◌*◌, ◌^◌, ◌≤◌, ◌<◌}
use native.Mathlib.Nat.{mul-le-mul_left, mul-le-mul_right, le_of_mul-le-mul_right}
use native.Mathlib.Omega.{arith}
use lib.Dec.{lit<}
use Rattle.laws.specs.Within.{Within}
use Rattle.laws.proofs.solvers.Ring.{var, lit, ◌⊕◌, ◌⊗◌}
use Rattle.laws.proofs.solvers.Certificates.{by, done, cert_times}

-- ---- one rounding to 24 bits
abbrev pub Q : ℕ
Q = 2 ^ 24

-- b is n / d rounded, in smallest values
abbrev pub Rounds : ℕ → ℕ → ℕ → Type 0
Rounds b n d = Within (b * d * Q) (n * Q) (n + d * 2 ^ 23)

-- b is the whole number n rounded
abbrev pub RoundsWhole : ℕ → ℕ → Type 0
RoundsWhole b n = Within (b * Q) (n * Q) n

-- what is at most 2 rounds to at most 3, D being the size of 1
pub rounds_under : (D n b : ℕ) → 0 < D → Rounds b n D → n ≤ 2 * (D * D) → b ≤ 3 * D
rounds_under D n b d h k =
    let l : D * 1 ≤ D * D = mul-le-mul_left D d in
    let m = h.0 in
    let g : b * D ≤ 3 * D * D = omega arith in
    le_of_mul-le-mul_right g d

pub whole_under : (b n k : ℕ) → RoundsWhole b n → n ≤ k → b ≤ 2 * k
whole_under b n k h g = omega arith

-- ---- each term of a sum of three
pub in_x : (a b c : ℕ) → a ≤ a + b + c
in_x a b c = omega arith

pub in_y : (a b c : ℕ) → b ≤ a + b + c
in_y a b c = omega arith

pub in_z : (a b c : ℕ) → c ≤ a + b + c
in_z a b c = omega arith

-- ---- D is the size of 1; p, q, r are the rounded squares of X, Y, Z, t and L the rounded sums
pub record Squared (D X Y Z L : ℕ) : Type 0 where
  pub p : ℕ
  pub q : ℕ
  pub r : ℕ
  pub t : ℕ
  pub p_near : Rounds p (X * X) D
  pub q_near : Rounds q (Y * Y) D
  pub r_near : Rounds r (Z * Z) D
  pub t_near : RoundsWhole t (p + q)
  pub l_near : RoundsWhole L (t + r)

-- the squares: a, b, c are exact, p, q, r rounded
squares : (a b c p q r d : ℕ) → Within (p * Q) (a * Q) (a + d * 2 ^ 23) → Within (q * Q) (b * Q) (b + d * 2 ^ 23) → Within (r * Q) (c * Q) (c + d * 2 ^ 23)
    → (Q * (p + q + r) ≤ (Q + 1) * (a + b + c) + 3 * 2 ^ 23 * d) × ((Q - 1) * (a + b + c) ≤ Q * (p + q + r) + 3 * 2 ^ 23 * d)
squares a b c p q r d hp hq hr = omega arith

-- the sums
sums : (p q r t l : ℕ) → RoundsWhole t (p + q) → RoundsWhole l (t + r)
    → (Q * Q * l ≤ (Q + 1) * (Q + 1) * (p + q + r)) × ((Q - 1) * (Q - 1) * (p + q + r) ≤ Q * Q * l)
sums p q r t l ht hl = omega arith

times : (t p q d : ℕ) → RoundsWhole t (p + q) → RoundsWhole (t * d) (p * d + q * d)
times t p q d h = omega (arith, mul-le-mul_right d h.0, mul-le-mul_right d h.1)

-- ---- both: s is the exact squared length, m the sum of the rounded squares, l the computed one
-- from 2 ^ 23 smallest values on, within 7 parts in 2 ^ 24
low : (s m l d : ℕ) → Q * Q * l ≤ (Q + 1) * (Q + 1) * m → Q * m ≤ (Q + 1) * s + 3 * 2 ^ 23 * d → 2 ^ 23 * d ≤ l → (Q - 7) * l ≤ Q * s
low s m l d h k g = omega arith

high : (s m l d : ℕ) → (Q - 1) * (Q - 1) * m ≤ Q * Q * l → (Q - 1) * s ≤ Q * m + 3 * 2 ^ 23 * d → 2 ^ 23 * d ≤ l → Q * s ≤ (Q + 7) * l
high s m l d h k g =
    cert_times ((Q - 1) * (Q - 1) * (Q - 1)) (s ∷ m ∷ l ∷ d ∷ []) (lit Q ⊗ var 0) (lit (Q + 7) ⊗ var 2)
    (by (lit (Q * Q)) (lit ((Q - 1) * (Q - 1)) ⊗ var 1) (lit (Q * Q) ⊗ var 2) h
    (by (lit (Q * (Q - 1) * (Q - 1))) (lit (Q - 1) ⊗ var 0) (lit Q ⊗ var 1 ⊕ lit (3 * 2 ^ 23) ⊗ var 3) k
    (by (lit (3 * Q * (Q - 1) * (Q - 1))) (lit (2 ^ 23) ⊗ var 3) (var 2) g done)))
    (lit< tt) tt

-- always, within 4 parts and 2 smallest values
low_any : (s m l d : ℕ) → Q * Q * l ≤ (Q + 1) * (Q + 1) * m → Q * m ≤ (Q + 1) * s + 3 * 2 ^ 23 * d → (Q - 4) * l ≤ Q * s + 2 * Q * d
low_any s m l d h k =
    cert_times ((Q + 2) * (Q + 2)) (s ∷ m ∷ l ∷ d ∷ []) (lit (Q - 4) ⊗ var 2) (lit Q ⊗ var 0 ⊕ lit (2 * Q) ⊗ var 3)
    (by (lit Q) (lit (Q * Q) ⊗ var 2) (lit ((Q + 1) * (Q + 1)) ⊗ var 1) h
    (by (lit ((Q + 1) * (Q + 1))) (lit Q ⊗ var 1) (lit (Q + 1) ⊗ var 0 ⊕ lit (3 * 2 ^ 23) ⊗ var 3) k done))
    (lit< tt) tt

high_any : (s m l d : ℕ) → (Q - 1) * (Q - 1) * m ≤ Q * Q * l → (Q - 1) * s ≤ Q * m + 3 * 2 ^ 23 * d → Q * s ≤ (Q + 4) * l + 2 * Q * d
high_any s m l d h k =
    cert_times ((Q - 1) * (Q - 1) * (Q - 1)) (s ∷ m ∷ l ∷ d ∷ []) (lit Q ⊗ var 0) (lit (Q + 4) ⊗ var 2 ⊕ lit (2 * Q) ⊗ var 3)
    (by (lit (Q * Q)) (lit ((Q - 1) * (Q - 1)) ⊗ var 1) (lit (Q * Q) ⊗ var 2) h
    (by (lit (Q * (Q - 1) * (Q - 1))) (lit (Q - 1) ⊗ var 0) (lit Q ⊗ var 1 ⊕ lit (3 * 2 ^ 23) ⊗ var 3) k done))
    (lit< tt) tt

module _ (D X Y Z L : ℕ) (f : Squared D X Y Z L) where
  in_squares : (Q * (f.p * D + f.q * D + f.r * D) ≤ (Q + 1) * (X * X + Y * Y + Z * Z) + 3 * 2 ^ 23 * D)
      × ((Q - 1) * (X * X + Y * Y + Z * Z) ≤ Q * (f.p * D + f.q * D + f.r * D) + 3 * 2 ^ 23 * D)
  in_squares = squares (X * X) (Y * Y) (Z * Z) (f.p * D) (f.q * D) (f.r * D) D f.p_near f.q_near f.r_near

  in_sums : (Q * Q * (L * D) ≤ (Q + 1) * (Q + 1) * (f.p * D + f.q * D + f.r * D)) × ((Q - 1) * (Q - 1) * (f.p * D + f.q * D + f.r * D) ≤ Q * Q * (L * D))
  in_sums = sums (f.p * D) (f.q * D) (f.r * D) (f.t * D) (L * D) (times f.t f.p f.q D f.t_near) (times L f.t f.r D f.l_near)

  pub squared_low : 2 ^ 23 * D ≤ L * D → (Q - 7) * (L * D) ≤ Q * (X * X + Y * Y + Z * Z)
  squared_low h = low (X * X + Y * Y + Z * Z) (f.p * D + f.q * D + f.r * D) (L * D) D in_sums.0 in_squares.0 h

  pub squared_high : 2 ^ 23 * D ≤ L * D → Q * (X * X + Y * Y + Z * Z) ≤ (Q + 7) * (L * D)
  squared_high h = high (X * X + Y * Y + Z * Z) (f.p * D + f.q * D + f.r * D) (L * D) D in_sums.1 in_squares.1 h

  pub any_low : (Q - 4) * (L * D) ≤ Q * (X * X + Y * Y + Z * Z) + 2 * Q * D
  any_low = low_any (X * X + Y * Y + Z * Z) (f.p * D + f.q * D + f.r * D) (L * D) D in_sums.0 in_squares.0

  pub any_high : Q * (X * X + Y * Y + Z * Z) ≤ (Q + 4) * (L * D) + 2 * Q * D
  any_high = high_any (X * X + Y * Y + Z * Z) (f.p * D + f.q * D + f.r * D) (L * D) D in_sums.1 in_squares.1
