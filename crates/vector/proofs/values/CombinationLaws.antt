-- The squared length of r, each component of which is near p a - q b: it is near p² |a|² - 2 p q (a.b) + q² |b|². Assumes nothing.
use mathlib.Core.Path.{◌≡◌, refl, ap, ap₂, ◌∙◌, subst, transport}
use mathlib.Core.List.{[], ◌∷◌}
use mathlib.Core.Bool.{Bool, true, false, not, cond}
use Prim.Native.Nat.{ℕ, ◌+◌, ◌*◌, ◌≤◌}
use native.Mathlib.Nat.{mul-le-mul_left, mul-le-mul_right, zero-mul, mul-zero, mul_comm}
use native.Mathlib.Omega.{arith}
use lib.Ieee.{unlike}
use Rattle.laws.proofs.solvers.Ring.{var, lit, ◌⊕◌, ◌⊗◌}
use Rattle.laws.proofs.solvers.RingNat.{ring}
use Rattle.laws.proofs.solvers.Certificates.{square, cross}
use Rattle.laws.specs.Within.{Within}
use Rattle.laws.proofs.operations.RoundedOperations.{plus, minus}
use Rattle.vector.proofs.values.SignedVectors.{Exact, norm, above, under, one_part}

-- ---- one component: r d near u - v, where u has the sign sa and v the sign sm
abbrev pub Component : Bool → ℕ → Bool → ℕ → Bool → ℕ → ℕ → ℕ → Type 0
Component sr r sa u sm v d h = Within (plus sr r * d + (minus sa u + minus (not sm) v)) (minus sr r * d + (plus sa u + plus (not sm) v)) h

-- from the roundings: l is u and m is v, each within an error, and r is l - m within another
pub component_of : (sr sa sm : Bool) (r l m u v d e f g : ℕ) → Within (l * d) u (e * d) → Within (m * d) v (f * d)
    → Within (plus sr r + (minus sa l + minus (not sm) m)) (minus sr r + (plus sa l + plus (not sm) m)) g → Component sr r sa u sm v d (g * d + (e * d + f * d))
component_of sr sa sm r l m u v d e f g h k w = go sr sa sm w
  where
    go : (sr sa sm : Bool) → Within (plus sr r + (minus sa l + minus (not sm) m)) (minus sr r + (plus sa l + plus (not sm) m)) g → Component sr r sa u sm v d (g * d + (e * d + f * d))
    go true true true w = omega (arith, zero-mul d, mul-le-mul_right d w.0, mul-le-mul_right d w.1)
    go true true false w = omega (arith, zero-mul d, mul-le-mul_right d w.0, mul-le-mul_right d w.1)
    go true false true w = omega (arith, zero-mul d, mul-le-mul_right d w.0, mul-le-mul_right d w.1)
    go true false false w = omega (arith, zero-mul d, mul-le-mul_right d w.0, mul-le-mul_right d w.1)
    go false true true w = omega (arith, zero-mul d, mul-le-mul_right d w.0, mul-le-mul_right d w.1)
    go false true false w = omega (arith, zero-mul d, mul-le-mul_right d w.0, mul-le-mul_right d w.1)
    go false false true w = omega (arith, zero-mul d, mul-le-mul_right d w.0, mul-le-mul_right d w.1)
    go false false false w = omega (arith, zero-mul d, mul-le-mul_right d w.0, mul-le-mul_right d w.1)

whole_square : (s : Bool) (r : ℕ) → plus s r * plus s r + minus s r * minus s r ≡ r * r
whole_square true r = omega arith
whole_square false r = omega arith

all_of : (s : Bool) (r ρ : ℕ) → r ≤ ρ → plus s r + minus s r ≤ ρ
all_of true r ρ h = omega arith
all_of false r ρ h = omega arith

-- r d is within h of u - v, and r is at most ρ in size: then d² r² is near (u - v)². From the hypothesis times r, and from its square
square_less : (d rp rm u v h ρ : ℕ) → Within (rp * d + v) (rm * d + u) h → rp * rm ≤ 0 → rp + rm ≤ ρ
    → Within (d * d * (rp * rp + rm * rm) + 2 * (u * v)) (u * u + v * v) (h * (2 * (d * ρ) + h))
square_less d rp rm u v h ρ w z le = (
  omega (arith, mul-le-mul_left (d * rp) w.0, mul-le-mul_left (d * rm) w.1, mul-le-mul_left (d * d) z, mul-le-mul_left (d * h) le, square (rp * d + v) (rm * d + u)),
  omega (arith, mul-le-mul_left (d * rm) w.0, mul-le-mul_left (d * rp) w.1, mul-le-mul_left (d * h) le, cross (rp * d + v) (rm * d + u + h) (rm * d + u) (rp * d + v + h) w.0 w.1),
)

-- the same, r with its sign
rule : (d : ℕ) (s : Bool) (r u v h ρ : ℕ) → r ≤ ρ → Within (plus s r * d + v) (minus s r * d + u) h → Within (d * d * (r * r) + 2 * (u * v)) (u * u + v * v) (h * (2 * (d * ρ) + h))
rule d s r u v h ρ l w =
    subst (λ (x : ℕ). Within (d * d * x + 2 * (u * v)) (u * u + v * v) (h * (2 * (d * ρ) + h))) (whole_square s r)
    (square_less d (plus s r) (minus s r) u v h ρ w (one_part s r) (all_of s r ρ l))

plain : (a b c d h : ℕ) → Within (a + (0 + b)) (c + (d + 0)) h → Within (a + b) (c + d) h
plain a b c d h w = omega arith

plain' : (a b c d h : ℕ) → Within (a + (b + 0)) (c + (0 + d)) h → Within (a + b) (c + d) h
plain' a b c d h w = omega arith

grown : (u v : ℕ) → (u + v) * (u + v) ≡ u * u + v * v + 2 * (u * v)
grown u v = ring (u ∷ v ∷ []) ((var 0 ⊕ var 1) ⊗ (var 0 ⊕ var 1)) (var 0 ⊗ var 0 ⊕ var 1 ⊗ var 1 ⊕ lit 2 ⊗ (var 0 ⊗ var 1)) refl

component : (d : ℕ) (sr : Bool) (r : ℕ) (sa : Bool) (u : ℕ) (sm : Bool) (v h ρ : ℕ) → r ≤ ρ → Component sr r sa u sm v d h
    → Within (d * d * (r * r) + plus (unlike sa sm) (2 * (u * v))) (u * u + v * v + minus (unlike sa sm) (2 * (u * v))) (h * (2 * (d * ρ) + h))
component d sr r false u false v h ρ l w = omega (arith, rule d sr r u v h ρ l (plain (plus sr r * d) v (minus sr r * d) u h w))
component d sr r true u true v h ρ l w = omega (arith, rule d sr r v u h ρ l (plain' (plus sr r * d) u (minus sr r * d) v h w), mul_comm u v)
component d sr r false u true v h ρ l w = omega (arith, rule d sr r (u + v) 0 h ρ l w, grown u v, mul-zero (u + v))
component d sr r true u false v h ρ l w = omega (arith, rule d sr r 0 (u + v) h ρ l w, grown u v, zero-mul (u + v))

-- ---- the mixed term, q's sign taken out
module _ (p q a b : ℕ) where
  same : 2 * (p * a * (q * b)) ≡ 2 * (p * q * (a * b))
  same = ring (p ∷ q ∷ a ∷ b ∷ []) (lit 2 ⊗ (var 0 ⊗ var 2 ⊗ (var 1 ⊗ var 3))) (lit 2 ⊗ (var 0 ⊗ var 1 ⊗ (var 2 ⊗ var 3))) refl

  none : 0 ≡ 2 * (p * q * 0)
  none = omega (arith, mul-zero (p * q))

  plus_part : (sa sb sq : Bool) → plus (unlike sa (unlike sq sb)) (2 * (p * a * (q * b))) ≡ 2 * (p * q * cond sq (minus (unlike sa sb) (a * b)) (plus (unlike sa sb) (a * b)))
  plus_part true true true = none
  plus_part true true false = same
  plus_part true false true = same
  plus_part true false false = none
  plus_part false true true = same
  plus_part false true false = none
  plus_part false false true = none
  plus_part false false false = same

  minus_part : (sa sb sq : Bool) → minus (unlike sa (unlike sq sb)) (2 * (p * a * (q * b))) ≡ 2 * (p * q * cond sq (plus (unlike sa sb) (a * b)) (minus (unlike sa sb) (a * b)))
  minus_part true true true = same
  minus_part true true false = none
  minus_part true false true = none
  minus_part true false false = same
  minus_part false true true = none
  minus_part false true false = same
  minus_part false false true = same
  minus_part false false false = none

-- the exact dot product of a and q's sign times b: its positive and its negative terms
abbrev pub toward : Bool → Exact → Exact → ℕ
toward s a b = cond s (under a b) (above a b)

abbrev pub against : Bool → Exact → Exact → ℕ
against s a b = cond s (above a b) (under a b)

gather : (x1 x2 x3 y1 y2 y3 f1 f2 f3 m1 m2 m3 h : ℕ) → Within (x1 + f1) (y1 + m1) h → Within (x2 + f2) (y2 + m2) h → Within (x3 + f3) (y3 + m3) h
    → Within (x1 + x2 + x3 + (f1 + f2 + f3)) (y1 + y2 + y3 + (m1 + m2 + m3)) (3 * h)
gather x1 x2 x3 y1 y2 y3 f1 f2 f3 m1 m2 m3 h a b c = omega arith

spread : (k a b c : ℕ) → 2 * (k * a) + 2 * (k * b) + 2 * (k * c) ≡ 2 * (k * (a + b + c))
spread k a b c = ring (k ∷ a ∷ b ∷ c ∷ []) (lit 2 ⊗ (var 0 ⊗ var 1) ⊕ lit 2 ⊗ (var 0 ⊗ var 2) ⊕ lit 2 ⊗ (var 0 ⊗ var 3)) (lit 2 ⊗ (var 0 ⊗ (var 1 ⊕ var 2 ⊕ var 3))) refl

module _ (d h ρ p : ℕ) (sq : Bool) (q : ℕ) (a b r : Exact)
    (lx : r.ax ≤ ρ) (ly : r.ay ≤ ρ) (lz : r.az ≤ ρ)
    (hx : Component r.sx r.ax a.sx (p * a.ax) (unlike sq b.sx) (q * b.ax) d h)
    (hy : Component r.sy r.ay a.sy (p * a.ay) (unlike sq b.sy) (q * b.ay) d h)
    (hz : Component r.sz r.az a.sz (p * a.az) (unlike sq b.sz) (q * b.az) d h) where
  mixed : (s : Bool) → (cond s (minus (unlike a.sx b.sx) (a.ax * b.ax)) (plus (unlike a.sx b.sx) (a.ax * b.ax)) + cond s (minus (unlike a.sy b.sy) (a.ay * b.ay)) (plus (unlike a.sy b.sy) (a.ay * b.ay)) + cond s (minus (unlike a.sz b.sz) (a.az * b.az)) (plus (unlike a.sz b.sz) (a.az * b.az)))
      ≡ toward s a b
  mixed true = refl
  mixed false = refl

  mixed' : (s : Bool) → (cond s (plus (unlike a.sx b.sx) (a.ax * b.ax)) (minus (unlike a.sx b.sx) (a.ax * b.ax)) + cond s (plus (unlike a.sy b.sy) (a.ay * b.ay)) (minus (unlike a.sy b.sy) (a.ay * b.ay)) + cond s (plus (unlike a.sz b.sz) (a.az * b.az)) (minus (unlike a.sz b.sz) (a.az * b.az)))
      ≡ against s a b
  mixed' true = refl
  mixed' false = refl

  squares : d * d * (r.ax * r.ax) + d * d * (r.ay * r.ay) + d * d * (r.az * r.az) ≡ d * d * norm r
  squares = ring (d ∷ r.ax ∷ r.ay ∷ r.az ∷ [])
      (var 0 ⊗ var 0 ⊗ (var 1 ⊗ var 1) ⊕ var 0 ⊗ var 0 ⊗ (var 2 ⊗ var 2) ⊕ var 0 ⊗ var 0 ⊗ (var 3 ⊗ var 3)) (var 0 ⊗ var 0 ⊗ (var 1 ⊗ var 1 ⊕ var 2 ⊗ var 2 ⊕ var 3 ⊗ var 3)) refl

  lengths : (p * a.ax * (p * a.ax) + q * b.ax * (q * b.ax)) + (p * a.ay * (p * a.ay) + q * b.ay * (q * b.ay)) + (p * a.az * (p * a.az) + q * b.az * (q * b.az)) ≡ p * p * norm a + q * q * norm b
  lengths = ring (p ∷ q ∷ a.ax ∷ a.ay ∷ a.az ∷ b.ax ∷ b.ay ∷ b.az ∷ [])
      ((var 0 ⊗ var 2 ⊗ (var 0 ⊗ var 2) ⊕ var 1 ⊗ var 5 ⊗ (var 1 ⊗ var 5)) ⊕ (var 0 ⊗ var 3 ⊗ (var 0 ⊗ var 3) ⊕ var 1 ⊗ var 6 ⊗ (var 1 ⊗ var 6)) ⊕ (var 0 ⊗ var 4 ⊗ (var 0 ⊗ var 4) ⊕ var 1 ⊗ var 7 ⊗ (var 1 ⊗ var 7)))
      (var 0 ⊗ var 0 ⊗ (var 2 ⊗ var 2 ⊕ var 3 ⊗ var 3 ⊕ var 4 ⊗ var 4) ⊕ var 1 ⊗ var 1 ⊗ (var 5 ⊗ var 5 ⊕ var 6 ⊗ var 6 ⊕ var 7 ⊗ var 7)) refl

  pub difference : Within (d * d * norm r + 2 * (p * q * toward sq a b)) (p * p * norm a + q * q * norm b + 2 * (p * q * against sq a b)) (3 * (h * (2 * (d * ρ) + h)))
  difference =
      transport (λ i. Within (squares i + gathered i) (lengths i + gathered' i) (3 * (h * (2 * (d * ρ) + h))))
      (gather (d * d * (r.ax * r.ax)) (d * d * (r.ay * r.ay)) (d * d * (r.az * r.az))
      (p * a.ax * (p * a.ax) + q * b.ax * (q * b.ax)) (p * a.ay * (p * a.ay) + q * b.ay * (q * b.ay)) (p * a.az * (p * a.az) + q * b.az * (q * b.az))
      (plus (unlike a.sx (unlike sq b.sx)) (2 * (p * a.ax * (q * b.ax)))) (plus (unlike a.sy (unlike sq b.sy)) (2 * (p * a.ay * (q * b.ay)))) (plus (unlike a.sz (unlike sq b.sz)) (2 * (p * a.az * (q * b.az))))
      (minus (unlike a.sx (unlike sq b.sx)) (2 * (p * a.ax * (q * b.ax)))) (minus (unlike a.sy (unlike sq b.sy)) (2 * (p * a.ay * (q * b.ay)))) (minus (unlike a.sz (unlike sq b.sz)) (2 * (p * a.az * (q * b.az))))
      (h * (2 * (d * ρ) + h))
      (component d r.sx r.ax a.sx (p * a.ax) (unlike sq b.sx) (q * b.ax) h ρ lx hx)
      (component d r.sy r.ay a.sy (p * a.ay) (unlike sq b.sy) (q * b.ay) h ρ ly hy)
      (component d r.sz r.az a.sz (p * a.az) (unlike sq b.sz) (q * b.az) h ρ lz hz))
    where
      gathered : plus (unlike a.sx (unlike sq b.sx)) (2 * (p * a.ax * (q * b.ax))) + plus (unlike a.sy (unlike sq b.sy)) (2 * (p * a.ay * (q * b.ay))) + plus (unlike a.sz (unlike sq b.sz)) (2 * (p * a.az * (q * b.az))) ≡ 2 * (p * q * toward sq a b)
      gathered =
          ap₂ ◌+◌ (ap₂ ◌+◌ (plus_part p q a.ax b.ax a.sx b.sx sq) (plus_part p q a.ay b.ay a.sy b.sy sq)) (plus_part p q a.az b.az a.sz b.sz sq)
          ∙ spread (p * q) (cond sq (minus (unlike a.sx b.sx) (a.ax * b.ax)) (plus (unlike a.sx b.sx) (a.ax * b.ax))) (cond sq (minus (unlike a.sy b.sy) (a.ay * b.ay)) (plus (unlike a.sy b.sy) (a.ay * b.ay))) (cond sq (minus (unlike a.sz b.sz) (a.az * b.az)) (plus (unlike a.sz b.sz) (a.az * b.az)))
          ∙ ap (λ (c : ℕ). 2 * (p * q * c)) (mixed sq)

      gathered' : minus (unlike a.sx (unlike sq b.sx)) (2 * (p * a.ax * (q * b.ax))) + minus (unlike a.sy (unlike sq b.sy)) (2 * (p * a.ay * (q * b.ay))) + minus (unlike a.sz (unlike sq b.sz)) (2 * (p * a.az * (q * b.az))) ≡ 2 * (p * q * against sq a b)
      gathered' =
          ap₂ ◌+◌ (ap₂ ◌+◌ (minus_part p q a.ax b.ax a.sx b.sx sq) (minus_part p q a.ay b.ay a.sy b.sy sq)) (minus_part p q a.az b.az a.sz b.sz sq)
          ∙ spread (p * q) (cond sq (plus (unlike a.sx b.sx) (a.ax * b.ax)) (minus (unlike a.sx b.sx) (a.ax * b.ax))) (cond sq (plus (unlike a.sy b.sy) (a.ay * b.ay)) (minus (unlike a.sy b.sy) (a.ay * b.ay))) (cond sq (plus (unlike a.sz b.sz) (a.az * b.az)) (minus (unlike a.sz b.sz) (a.az * b.az)))
          ∙ ap (λ (c : ℕ). 2 * (p * q * c)) (mixed' sq)
