-- The computed squared length of a vector whose exact one is within c errors of 1 is within 5 errors of it. Assumes nothing.
use mathlib.Core.Path.{◌≡◌, refl, sym, ap₂, ◌∙◌, subst, transport}
use mathlib.Core.List.{[], ◌∷◌}
use mathlib.Core.Bool.{Bool, true, false}
use Prim.Native.Nat.{ℕ, ◌+◌, ◌*◌, ◌≤◌, ◌<◌}
use native.Mathlib.Nat.{le_trans, le_of_eq, mul-le-mul_right, le_of_mul-le-mul_right}
use native.Mathlib.Omega.{arith}
use lib.Pow.{pow_pos}
use lib.Ieee.{Float, binary32, unlike}
use Rattle.laws.specs.Within.{Within}
use Rattle.laws.proofs.solvers.Ring.{var, lit, ◌⊕◌, ◌⊗◌}
use Rattle.laws.proofs.solvers.RingNat.{ring}
use Rattle.laws.proofs.values.ValueLaws.{Value}
use Rattle.laws.proofs.values.SizeLaws.{size_of_value}
use Rattle.laws.proofs.operations.RoundedOperations.{plus, minus}
use Rattle.vector.specs.declared.vec3.Vec3.{Vec3}
use Rattle.vector.specs.Products.{length_squared}
use Rattle.vector.proofs.values.SignedVectors.{D, E, Exact, Reads, norm, above, under, Norm}
use Rattle.vector.proofs.errors.SquaredLengthLaws.{squared_sign}
use Rattle.vector.proofs.errors.DotErrorLaws.{Dotted, dot_near, at_last}

-- l is the squared length of v
pub record Long (v : Exact) (l : Float) (c : ℕ) : Type 0 where
  pub size : ℕ
  pub has : Value binary32 l false size
  pub near : Within (size * D) (norm v) (5 * (E * D))
  pub close : Within size D ((c + 5) * E)

-- where c is at most 5000
pub long_bounds : (v : Exact) (l : Float) (c : ℕ) → c ≤ 5000 → (h : Long v l c) → (16772211 * E ≤ h.size) × (h.size ≤ 16782221 * E)
long_bounds v l c few h = bounds h.size E (mul-le-mul_right E (more few)) h.close
  where
    more : c ≤ 5000 → c + 5 ≤ 5005
    more k = omega arith

    bounds : (s e : ℕ) → (c + 5) * e ≤ 5005 * e → Within s (16777216 * e) ((c + 5) * e) → (16772211 * e ≤ s) × (s ≤ 16782221 * e)
    bounds s e k w = (omega arith, omega arith)

-- ---- a dot product with itself has no negative terms
alike : (s : Bool) (n : ℕ) → (plus (unlike s s) n ≡ n) × (minus (unlike s s) n ≡ 0)
alike true n = (refl, refl)
alike false n = (refl, refl)

close_to : (s d e c n : ℕ) → 0 < d → Within (s * d) n (5 * (e * d)) → Within n (d * d) (c * (e * d)) → Within s d ((c + 5) * e)
close_to s d e c n D0 w l = (
  at_last s d e c D0 (chain (s * d) n (d * d) (c * (e * d)) (5 * (e * d)) w.0 l.0),
  le_of_mul-le-mul_right (le_trans (chain' (s * d) n (d * d) (c * (e * d)) (5 * (e * d)) w.1 l.1) (le_of_eq (ring (d ∷ e ∷ c ∷ s ∷ []) (var 3 ⊗ var 0 ⊕ var 2 ⊗ (var 1 ⊗ var 0) ⊕ lit 5 ⊗ (var 1 ⊗ var 0)) ((var 3 ⊕ (var 2 ⊕ lit 5) ⊗ var 1) ⊗ var 0) refl))) D0,
)
  where
    chain : (x n u g r : ℕ) → x ≤ n + r → n ≤ u + g → x ≤ u + g + r
    chain x n u g r h k = omega arith

    chain' : (x n u g r : ℕ) → n ≤ x + r → u ≤ n + g → u ≤ x + g + r
    chain' x n u g r h k = omega arith

plainly : (a b c : ℕ) → Within (a + 0) (0 + b) c → Within a b c
plainly a b c h = omega arith

module _ (u : Vec3) (v : Exact) (c : ℕ) (few : c ≤ 5000) (r : Reads u v) (long : Norm v (D * D) (c * (E * D))) where
  own : Dotted v v (length_squared u) c
  unfolding length_squared
  own = dot_near u u v v c few r r long long

  positive : own.sign ≡ false
  positive = sym (size_of_value binary32 (length_squared u) own.sign own.size own.has).1 ∙ squared_sign u

  own_norm : above v v ≡ norm v
  own_norm = ap₂ ◌+◌ (ap₂ ◌+◌ (alike v.sx (v.ax * v.ax)).0 (alike v.sy (v.ay * v.ay)).0) (alike v.sz (v.az * v.az)).0

  own_none : under v v ≡ 0
  own_none = ap₂ ◌+◌ (ap₂ ◌+◌ (alike v.sx (v.ax * v.ax)).1 (alike v.sy (v.ay * v.ay)).1) (alike v.sz (v.az * v.az)).1

  near_norm : Within (own.size * D) (norm v) (5 * (E * D))
  near_norm = plainly (own.size * D) (norm v) (5 * (E * D)) (transport (λ i. Within (plus (positive i) own.size * D + own_none i) (minus (positive i) own.size * D + own_norm i) (5 * (E * D))) own.near)

  pub length_near : Long v (length_squared u) c
  length_near = record {
    size = own.size;
    has = subst (λ (s : Bool). Value binary32 (length_squared u) s own.size) positive own.has;
    near = near_norm;
    close = close_to own.size D E c (norm v) (pow_pos 149) near_norm long;
  }
