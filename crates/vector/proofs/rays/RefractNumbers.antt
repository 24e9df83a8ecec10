-- The steps of a refraction in whole numbers: bounds of each rounded value, and what its error says of the exact one. 1 is d, a rounding's error is e. Assumes nothing.
use mathlib.Core.Path.{◌≡◌, refl, sym, ap, ◌∙◌}
use mathlib.Core.List.{[], ◌∷◌}
use mathlib.Core.Bool.{Bool, true, false, not, cond}
use Prim.Native.Nat.{ℕ, ◌+◌, ◌*◌, ◌≤◌, ◌<◌}
use native.Mathlib.Nat.{mul-le-mul_left, le_of_mul-le-mul_right, le_trans, le_of_eq, add-mul, zero-mul, mul-zero, mul_assoc, mul-le-mul, mul-le-mul_right}
use native.Mathlib.Omega.{arith}
use Rattle.laws.proofs.solvers.Ring.{var, lit, ◌⊕◌, ◌⊗◌}
use Rattle.laws.proofs.solvers.RingNat.{ring}
use Rattle.laws.specs.Within.{Within}
use Rattle.laws.proofs.operations.RoundedOperations.{plus, minus}

-- ---- products of bounds
-- where δ is hardly above 1, so is d2 = δ² (n1), and 1 - d2 is hardly below 0: m is by how much (n2)
bent_below : (d e δ d2 m : ℕ) → 100000 * e ≤ d → δ ≤ d + 69 * e → Within (d2 * d) (δ * δ) (e * d) → m + d ≤ d2 + e → 0 < d
    → m ≤ 150 * e
bent_below d e δ d2 m small hδ n1 n2 some = let k : m * d ≤ 150 * e * d = omega (arith, mul-le-mul hδ hδ, mul-le-mul_left e small, mul-le-mul_right d n2) in le_of_mul-le-mul_right k some

-- then π = e2 m, rounded (n4), is hardly below 0 either
bent_part : (d e m e2 π : ℕ) → e2 ≤ 16 * d → m ≤ 150 * e → Within (π * d) (e2 * m) (e * 8 * d) → 0 < d
    → π ≤ 2500 * e
bent_part d e m e2 π he hm n4 some = let k : π * d ≤ 2500 * e * d = omega (arith, mul-le-mul he hm) in le_of_mul-le-mul_right k some

-- then k = 1 - π is hardly above 1, and so is its root q (n6)
pub bent_square : (d e q k : ℕ) → 100000 * e ≤ d → k ≤ d + 2600 * e → Within (q * q) (k * d) (6 * (e * d))
    → q * q ≤ (d + 1400 * e) * (d + 1400 * e)
bent_square d e q k small hk n6 = omega (arith, mul-le-mul_right d hk)

-- η times a size of about 1 is at most 8
pub bent_product : (d e η δ : ℕ) → 100000 * e ≤ d → η ≤ 4 * d → δ ≤ d + 69 * e
    → η * δ ≤ d * d * 8
bent_product d e η δ small hη hδ = let k : δ ≤ 2 * d = omega arith in omega (arith, mul-le-mul hη k)

-- and rounded (n) at most 4 and 300 errors
pub bent_first : (d e η δ g0 : ℕ) → 100000 * e ≤ d → η ≤ 4 * d → δ ≤ d + 69 * e → Within (g0 * d) (η * δ) (e * 4 * d) → 0 < d
    → g0 ≤ 4 * d + 300 * e
bent_first d e η δ g0 small hη hδ n some = let k : g0 * d ≤ (4 * d + 300 * e) * d = omega (arith, mul-le-mul hη hδ) in le_of_mul-le-mul_right k some

-- g b is at most 8, b being the size of a component
pub bent_second : (d e g b : ℕ) → 100000 * e ≤ d → g ≤ 5 * d + 2000 * e → b ≤ d + 32 * e
    → g * b ≤ d * d * 8
bent_second d e g b small hg hb = let k : g ≤ 6 * d = omega arith in let l : 4 * b ≤ 5 * d = omega arith in omega (arith, mul-le-mul k l)

-- and rounded (n) at most 5 and 2300 errors
pub bent_third : (d e g b m : ℕ) → 100000 * e ≤ d → g ≤ 5 * d + 2000 * e → b ≤ d + 32 * e → Within (m * d) (g * b) (e * 4 * d) → 0 < d
    → m ≤ 5 * d + 2300 * e
bent_third d e g b m small hg hb n some = let k : m * d ≤ (5 * d + 2300 * e) * d = omega (arith, mul-le-mul hg hb, mul-le-mul_left e small) in le_of_mul-le-mul_right k some

-- δ² is at most 2
pub bent_dot : (d e δ : ℕ) → 100000 * e ≤ d → δ ≤ d + 69 * e
    → δ * δ ≤ d * d * 2
bent_dot d e δ small hδ = let k : 4 * δ ≤ 5 * d = omega arith in omega (arith, mul-le-mul k k)

-- ---- sums
pub room : (d p : ℕ) → p ≤ d * 16 → d + p ≤ d * 32
room d p h = omega arith

pub m_low : (d p : ℕ) → d + 0 ≤ 0 + p + d * 1
m_low d p = omega arith

pub m_high : (d p : ℕ) → p ≤ d * 2 → 0 + p ≤ d + 0 + d * 1
m_high d p h = omega arith

pub m_near : (s : Bool) (m p d e : ℕ) → Within (plus s m + (0 + p)) (minus s m + (d + 0)) e → Within (plus s m + p) (d + minus s m) e
m_near true m p d e w = omega arith
m_near false m p d e w = omega arith

pub scaled : (s : Bool) (p e2 m d r : ℕ) → Within (p * d) (e2 * m) r → Within (plus s p * d + e2 * minus s m) (minus s p * d + e2 * plus s m) r
scaled true p e2 m d r w = omega (arith, zero-mul d, mul-zero e2)
scaled false p e2 m d r w = omega (arith, zero-mul d, mul-zero e2)

pub k_near : (sk sm : Bool) (k p d e : ℕ) → minus sk k ≡ 0 → Within (plus sk k + (0 + minus (not sm) p)) (minus sk k + (d + plus (not sm) p)) e → Within (k + plus sm p) (d + minus sm p) e
k_near true true k p d e z w = omega arith
k_near true false k p d e z w = omega arith
k_near false true k p d e z w = omega arith
k_near false false k p d e z w = omega arith

pub below_le : (s : Bool) (m p d2 d e e2 δ : ℕ) → 0 < d → 100000 * e ≤ d → δ ≤ d + 69 * e → e2 ≤ 16 * d → Within (d2 * d) (δ * δ) (e * d) → Within (plus s m + d2) (d + minus s m) e → Within (p * d) (e2 * m) (e * 8 * d) → minus s p ≤ 2500 * e
below_le true m p d2 d e e2 δ D0 k hδ h2 n1 n2 n4 = bent_part d e m e2 p h2 (bent_below d e δ d2 m k hδ n1 (turned m d d2 e n2.1) D0) n4 D0
  where
    turned : (m d d2 e : ℕ) → d + m ≤ 0 + d2 + e → m + d ≤ d2 + e
    turned m d d2 e h = omega arith
below_le false m p d2 d e e2 δ D0 k hδ h2 n1 n2 n4 = omega arith

pub k_le : (k p m d e : ℕ) → k + p ≤ d + m + e * 16 → m ≤ 2500 * e → k ≤ d + 2600 * e
k_le k p m d e h l = omega arith

pub k_two : (k d e : ℕ) → 100000 * e ≤ d → k ≤ d + 2600 * e → k ≤ d * 2
k_two k d e h l = omega arith

pub g_room : (g q d e : ℕ) → 100000 * e ≤ d → g ≤ 4 * d + 300 * e → q ≤ d + 1400 * e → g + q ≤ d * 8
g_room g q d e k h l = omega arith

pub g_le : (g g0 q d e : ℕ) → g0 ≤ 4 * d + 300 * e → q ≤ d + 1400 * e → g ≤ g0 + q + e * 4 → g ≤ 5 * d + 2000 * e
g_le g g0 q d e h k l = omega arith

-- d g near η δ + d q
pub j_near : (sg sd sq : Bool) (g g0 q d e η δ : ℕ) → minus sq q ≡ 0 → Within (plus sg g + (minus sd g0 + minus sq q)) (minus sg g + (plus sd g0 + plus sq q)) (e * 4) → Within (g0 * d) (η * δ) (e * 4 * d)
    → Within (d * plus sg g + η * minus sd δ) (d * minus sg g + η * plus sd δ + d * q) (8 * (e * d))
j_near sg sd sq g g0 q d e η δ z w n = go sg sd (times d (plus sg g) (minus sd g0) (minus sg g) (plus sd g0) q (e * 4) (clear sq z w))
  where
    clear : (sq : Bool) → minus sq q ≡ 0 → Within (plus sg g + (minus sd g0 + minus sq q)) (minus sg g + (plus sd g0 + plus sq q)) (e * 4) → Within (plus sg g + minus sd g0) (minus sg g + (plus sd g0 + q)) (e * 4)
    clear true z w = omega arith
    clear false z w = omega arith

    times : (d a b c f q r : ℕ) → Within (a + b) (c + (f + q)) r → Within (d * a + b * d) (d * c + (f * d + d * q)) (r * d)
    times d a b c f q r w = (
      le_trans (le_of_eq (left d a b)) (le_trans (mul-le-mul_right d w.0) (le_of_eq (add-mul (c + (f + q)) r d ∙ ap (λ (n : ℕ). n + r * d) (sym (right d c f q))))),
      le_trans (le_of_eq (right d c f q)) (le_trans (mul-le-mul_right d w.1) (le_of_eq (add-mul (a + b) r d ∙ ap (λ (n : ℕ). n + r * d) (sym (left d a b))))),
    )
      where
        left : (d a b : ℕ) → d * a + b * d ≡ (a + b) * d
        left d a b = ring (d ∷ a ∷ b ∷ []) (var 0 ⊗ var 1 ⊕ var 2 ⊗ var 0) ((var 1 ⊕ var 2) ⊗ var 0) refl

        right : (d c f q : ℕ) → d * c + (f * d + d * q) ≡ (c + (f + q)) * d
        right d c f q = ring (d ∷ c ∷ f ∷ q ∷ []) (var 0 ⊗ var 1 ⊕ (var 2 ⊗ var 0 ⊕ var 0 ⊗ var 3)) ((var 1 ⊕ (var 2 ⊕ var 3)) ⊗ var 0) refl

    eights : e * 4 * d + e * 4 * d ≡ 8 * (e * d)
    eights = ring (e ∷ d ∷ []) (var 0 ⊗ lit 4 ⊗ var 1 ⊕ var 0 ⊗ lit 4 ⊗ var 1) (lit 8 ⊗ (var 0 ⊗ var 1)) refl

    go : (sg sd : Bool) → Within (d * plus sg g + minus sd g0 * d) (d * minus sg g + (plus sd g0 * d + d * q)) (e * 4 * d) → Within (d * plus sg g + η * minus sd δ) (d * minus sg g + η * plus sd δ + d * q) (8 * (e * d))
    go true true w = omega (arith, eights, zero-mul d, mul-zero η)
    go true false w = omega (arith, eights, zero-mul d, mul-zero η)
    go false true w = omega (arith, eights, zero-mul d, mul-zero η)
    go false false w = omega (arith, eights, zero-mul d, mul-zero η)

pub r_room : (l m d e : ℕ) → 100000 * e ≤ d → l ≤ 4 * d + 300 * e → m ≤ 5 * d + 2300 * e → l + m ≤ d * 16
r_room l m d e k h n = omega arith

pub r_le : (r l m d e : ℕ) → 100000 * e ≤ d → l ≤ 4 * d + 300 * e → m ≤ 5 * d + 2300 * e → r ≤ l + m + e * 8 → r ≤ 11 * d
r_le r l m d e k h n o = omega arith

-- ---- g's sign taken out of the mixed term
pub mixed : (s : Bool) (η g cp cm : ℕ) → η * g * cond s cm cp ≡ η * (plus s g * cp + minus s g * cm)
mixed true η g cp cm = mul_assoc η g cm ∙ ap (λ (n : ℕ). η * n) (before (g * cm) (0 * cp) (zero-mul cp))
  where
    before : (a b : ℕ) → b ≡ 0 → a ≡ b + a
    before a b h = omega arith
mixed false η g cp cm = mul_assoc η g cp ∙ ap (λ (n : ℕ). η * n) (after (g * cp) (0 * cm) (zero-mul cm))
  where
    after : (a b : ℕ) → b ≡ 0 → a ≡ a + b
    after a b h = omega arith

pub squares_of : (s : Bool) (g : ℕ) → g * g ≡ plus s g * plus s g + minus s g * minus s g
squares_of true g = omega arith
squares_of false g = omega arith

pub wider : (a d e : ℕ) → a ≤ d + 32 * e → a ≤ d + 69 * e
wider a d e h = omega arith

pub four_square : (h d : ℕ) → h ≤ 4 * d → h * h ≤ d * d * 16
four_square h d l = le_trans (mul-le-mul l l) (le_of_eq (ring (d ∷ []) (lit 4 ⊗ var 0 ⊗ (lit 4 ⊗ var 0)) (var 0 ⊗ var 0 ⊗ lit 16) refl))
