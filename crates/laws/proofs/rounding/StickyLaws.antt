-- A quotient truncated with a sticky bit stands for the quotient itself: in orders against even numbers, in sums with them, and in
-- rounding to nearest even where two bits or more are dropped of it. Assumes nothing.
use mathlib.Core.Path.{◌≡◌, refl, sym, ap, ◌∙◌, subst}
use mathlib.Core.Bool.{Bool, cond}
use mathlib.Core.List.{[], ◌∷◌}
use Prim.Native.Nat.{ℕ, zero, suc, ◌+◌, ◌-◌, ◌*◌, ◌/◌, ◌%◌, ◌≤◌, ◌<◌}
use native.Mathlib.Nat.{lt_irrefl, le_of_lt, add-mul, mul_comm, lt_of_mul-lt-mul_right, mul-div_cancel, div-div-eq-div-mul, mod-lt, div-add-mod', div-lt_iff_lt-mul, le-div_iff_mul-le}
use native.Mathlib.Omega.{arith}
use lib.Dec.{eqb-suc-zero}
use lib.Arith.{digits_div, digits_mod}
use lib.Ieee.Nearest.{closest}
use Rattle.laws.specs.Sticky.{sticky_bit, sticky}
use Rattle.laws.proofs.solvers.Ring.{var, lit, ◌⊕◌, ◌⊗◌}
use Rattle.laws.proofs.solvers.RingNat.{ring}
use Rattle.laws.proofs.rounding.ClosestSticky.{closest_sticky_bit}

sticky_bit_pos : (r : ℕ) → 0 < r → sticky_bit r ≡ 1
sticky_bit_pos zero h = absurd (lt_irrefl 0 h)
sticky_bit_pos (suc r) h = ap (λ (t : Bool). cond t 0 1) (eqb-suc-zero r)

-- by the parts of a
sticky_of : (m b r a : ℕ) → r < 2 * b → m * (2 * b) + r ≡ a → sticky a b ≡ 2 * m + sticky_bit r
unfolding sticky
sticky_of m b r a h e =
    subst (λ (x : ℕ). 2 * (x / (2 * b)) + sticky_bit (x % (2 * b)) ≡ 2 * m + sticky_bit r) e
    (ap (λ (x : ℕ). 2 * x + sticky_bit ((m * (2 * b) + r) % (2 * b))) (digits_div m h) ∙ ap (λ (x : ℕ). 2 * m + sticky_bit x) (digits_mod m h))

-- where b divides it
pub sticky_exact : (q b : ℕ) → 0 < b → sticky (q * b) b ≡ q
sticky_exact q b B = subst (λ (n : ℕ). sticky (n * b) b ≡ n) (whole q) (go (q % 2) (bit q))
  where
    whole : (q : ℕ) → 2 * (q / 2) + q % 2 ≡ q
    whole q = omega arith

    bit : (q : ℕ) → q % 2 ≤ 1
    bit q = omega arith

    go : (t : ℕ) → t ≤ 1 → sticky ((2 * (q / 2) + t) * b) b ≡ 2 * (q / 2) + t
    go zero h =
        sticky_of (q / 2) b 0 ((2 * (q / 2) + 0) * b) (omega arith)
        (ring (q / 2 ∷ b ∷ []) (var 0 ⊗ (lit 2 ⊗ var 1) ⊕ lit 0) ((lit 2 ⊗ var 0 ⊕ lit 0) ⊗ var 1) refl)
    go (suc t) h =
        let e : 1 ≡ suc t = omega arith in
        subst (λ (n : ℕ). sticky ((2 * (q / 2) + n) * b) b ≡ 2 * (q / 2) + n) e
        (sticky_of (q / 2) b b ((2 * (q / 2) + 1) * b) (omega arith)
        (ring (q / 2 ∷ b ∷ []) (var 0 ⊗ (lit 2 ⊗ var 1) ⊕ var 1) ((lit 2 ⊗ var 0 ⊕ lit 1) ⊗ var 1) refl)
        ∙ ap (λ (n : ℕ). 2 * (q / 2) + n) (sticky_bit_pos b B))

module _ (a b : ℕ) (B : 0 < b) where
  m : ℕ
  m = a / (2 * b)

  r : ℕ
  r = a % (2 * b)

  B2 : 0 < 2 * b
  B2 = omega arith

  parts : m * (2 * b) + r ≡ a
  unfolding m r
  parts = div-add-mod' a (2 * b)

  r_lt : r < 2 * b
  unfolding r
  r_lt = mod-lt a B2

  sticky_parts : sticky a b ≡ 2 * m + sticky_bit r
  sticky_parts = sticky_of m b r a r_lt parts

  even : (h : ℕ) → 2 * h * b ≡ h * (2 * b)
  even h = ring (h ∷ b ∷ []) (lit 2 ⊗ var 0 ⊗ var 1) (var 0 ⊗ (lit 2 ⊗ var 1)) refl

  -- the rest, none or some
  by_rest : (P : ℕ → Type 0) → (r ≡ 0 → P (2 * m + 0)) → (0 < r → P (2 * m + 1)) → P (sticky a b)
  by_rest P f g = subst P (sym sticky_parts) (go r refl)
    where
      go : (n : ℕ) → r ≡ n → P (2 * m + sticky_bit n)
      go zero e = f e
      go (suc n) e = subst (λ (t : ℕ). P (2 * m + t)) (sym (sticky_bit_pos (suc n) (omega arith))) (g (omega arith))

  -- ---- orders against even numbers
  m_lt : (h : ℕ) → a < 2 * h * b → m < h
  unfolding m
  m_lt h l = (div-lt_iff_lt-mul B2).1 (subst (λ (n : ℕ). a < n) (even h) l)

  m_ge : (h : ℕ) → 2 * h * b ≤ a → h ≤ m
  unfolding m
  m_ge h l = (le-div_iff_mul-le B2).1 (subst (λ (n : ℕ). n ≤ a) (even h) l)

  pub sticky_below : (h : ℕ) → a < 2 * h * b → sticky a b < 2 * h
  sticky_below h l = let k = m_lt h l in by_rest (λ (n : ℕ). n < 2 * h) (λ e. omega arith) (λ p. omega arith)

  pub sticky_least : (h : ℕ) → 2 * h * b ≤ a → 2 * h ≤ sticky a b
  sticky_least h l = let k = m_ge h l in by_rest (λ (n : ℕ). 2 * h ≤ n) (λ e. omega arith) (λ p. omega arith)

  pub sticky_above : (h : ℕ) → 2 * h * b < a → 2 * h < sticky a b
  sticky_above h l = by_rest (λ (n : ℕ). 2 * h < n) (λ e. double (lt_of_mul-lt-mul_right (2 * b) (none e))) (λ p. let k = m_ge h (le_of_lt l) in omega arith)
    where
      none : r ≡ 0 → h * (2 * b) < m * (2 * b)
      none e = let q = parts in let k = even h in omega arith

      double : h < m → 2 * h < 2 * m + 0
      double k = omega arith

  -- ---- sums with an even number
  pub sticky_add : (h : ℕ) → sticky (2 * h * b + a) b ≡ 2 * h + sticky a b
  sticky_add h =
      sticky_of (h + m) b r (2 * h * b + a) r_lt
      (ring (h ∷ m ∷ b ∷ r ∷ []) ((var 0 ⊕ var 1) ⊗ (lit 2 ⊗ var 2) ⊕ var 3) (lit 2 ⊗ var 0 ⊗ var 2 ⊕ (var 1 ⊗ (lit 2 ⊗ var 2) ⊕ var 3)) refl ∙ ap (λ (x : ℕ). 2 * h * b + x) parts)
      ∙ twice h m (sticky_bit r)
      ∙ ap (λ (x : ℕ). 2 * h + x) (sym sticky_parts)
    where
      twice : (h m s : ℕ) → 2 * (h + m) + s ≡ 2 * h + (2 * m + s)
      twice h m s = omega arith

  pub sticky_less : (h : ℕ) → a < 2 * h * b → sticky (2 * h * b - a) b ≡ 2 * h - sticky a b
  sticky_less h l = by_rest (λ (n : ℕ). sticky (2 * h * b - a) b ≡ 2 * h - n) none left
    where
      n : ℕ
      n = h - m - 1

      h_is : m + n + 1 ≡ h
      h_is = let k = m_lt h l in omega arith

      whole : 2 * h * b ≡ m * (2 * b) + n * (2 * b) + 2 * b
      whole =
          ap (λ (x : ℕ). 2 * x * b) (sym h_is)
          ∙ ring (m ∷ n ∷ b ∷ []) (lit 2 ⊗ (var 0 ⊕ var 1 ⊕ lit 1) ⊗ var 2) (var 0 ⊗ (lit 2 ⊗ var 2) ⊕ var 1 ⊗ (lit 2 ⊗ var 2) ⊕ lit 2 ⊗ var 2) refl

      none : r ≡ 0 → sticky (2 * h * b - a) b ≡ 2 * h - (2 * m + 0)
      none e =
          sticky_of (n + 1) b 0 (2 * h * b - a) B2 (let q = parts in omega (arith, whole, add-mul n 1 (2 * b)))
          ∙ (let k = h_is in omega arith)

      left : 0 < r → sticky (2 * h * b - a) b ≡ 2 * h - (2 * m + 1)
      left p =
          sticky_of n b (2 * b - r) (2 * h * b - a) (let q = B2 in omega arith) (let q = parts in let k = r_lt in omega (arith, whole))
          ∙ ap (λ (t : ℕ). 2 * n + t) (sticky_bit_pos (2 * b - r) (let k = r_lt in omega arith))
          ∙ (let k = h_is in omega arith)

  -- ---- rounding to a multiple of 4
  pub closest_sticky : (h : ℕ) → 0 < h → closest a (4 * h * b) ≡ closest (sticky a b) (4 * h)
  unfolding sticky
  closest_sticky h H =
      ap (λ (n : ℕ). closest a n) (ring (h ∷ b ∷ []) (lit 4 ⊗ var 0 ⊗ var 1) (lit 2 ⊗ var 0 ⊗ (lit 2 ⊗ var 1)) refl)
      ∙ closest_sticky_bit a (2 * b) h B2 H
      ∙ ap (λ (n : ℕ). closest (sticky a b) n) (four h)
    where
      four : (h : ℕ) → 2 * h * 2 ≡ 4 * h
      four h = omega arith

  -- ---- how a program finds it
  pub sticky_whole : a / b * b ≡ a → sticky a b ≡ a / b
  sticky_whole e = subst (λ (n : ℕ). sticky n b ≡ a / b) e (sticky_exact (a / b) b B)

  pub sticky_lossy : (a / b * b ≡ a → ⊥) → sticky a b ≡ a / b / 2 * 2 + 1
  unfolding m
  sticky_lossy f =
      by_rest (λ (n : ℕ). n ≡ a / b / 2 * 2 + 1) (λ e. absurd (f (none e)))
      (λ p. ap (λ (n : ℕ). 2 * n + 1) (ap (λ (n : ℕ). a / n) (mul_comm 2 b) ∙ sym (div-div-eq-div-mul a b 2)) ∙ (omega arith))
    where
      none : r ≡ 0 → a / b * b ≡ a
      none e =
          let k : 2 * m * b ≡ a = (let q = parts in omega (arith, even m)) in
          ap (λ (n : ℕ). n / b * b) (sym k) ∙ ap (λ (n : ℕ). n * b) (mul-div_cancel (2 * m) B) ∙ k

-- where all bits are dropped, only their sticky bit is left
pub sticky_far : (a b c : ℕ) → a < 2 * b → a < 2 * c → sticky a b ≡ sticky a c
sticky_far a b c h k = sticky_of 0 b a a h (zero_mul_add (2 * b) a) ∙ sym (sticky_of 0 c a a k (zero_mul_add (2 * c) a))
  where
    zero_mul_add : (n a : ℕ) → 0 * n + a ≡ a
    zero_mul_add n a = omega arith
