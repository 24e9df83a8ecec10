-- Inequalities between polynomials over the natural numbers, by certificates.
-- `cert ρ a b (by m c d h ..) tt` proves a ≤ b from hypotheses h : c ≤ d, each times a factor m: the checker compares coefficients. Assumes nothing.
use mathlib.Core.Path.{◌≡◌, sym, ap, ◌∙◌, subst₂}
use mathlib.Core.Bool.{Bool, true, false, not, ◌&&◌}
use mathlib.Core.List.{List, [], ◌∷◌}
use Prim.Native.Nat.{ℕ, ◌+◌, ◌-◌, ◌*◌, ◌≤◌, ◌<◌}
use native.Mathlib.Nat.{add-zero, mul-zero, le_refl, le_of_lt, le_trans, le_of_eq, le-add_right, add-le-add, mul-le-mul_left, le_of_mul-le-mul_right}
use native.Mathlib.Omega.{arith}
use lib.Ieee.Fits.{and_l, and_r}
use lib.Dec.{leb, leb→le, nleb→lt, eqb→eq, T}
use Rattle.laws.proofs.solvers.Ring.{Poly, con, horn, var, lit, ◌⊕◌, ◌⊗◌, hd, tl}
use Rattle.laws.proofs.solvers.RingNat.{is0, Expr, nf, val, ev_n, nf_val}

-- ---- inequalities: p is at most q, coefficient by coefficient
abbrev pub null : Poly ℕ → Bool
null (con c) = is0 c
null (horn p q) = null p && null q

abbrev pub lec : ℕ → Poly ℕ → Bool
lec a (con b) = leb a b
lec a (horn p q) = lec a p

abbrev pub le_p : Poly ℕ → Poly ℕ → Bool
le_p (con a) r = lec a r
le_p (horn p q) (con b) = le_p p (con b) && null q
le_p (horn p q) (horn r s) = le_p p r && le_p q s

null_is : (ρ : List ℕ) (p : Poly ℕ) → T (null p) → ev_n ρ p ≡ 0
null_is ρ (con c) t = eqb→eq c 0 t
null_is ρ (horn p q) t =
    ap (λ (x : ℕ). x + hd 0 ρ * ev_n ρ q) (null_is (tl ρ) p (and_l (null p) (null q) t))
    ∙ ap (λ (x : ℕ). 0 + hd 0 ρ * x) (null_is ρ q (and_r (null p) (null q) t))
    ∙ ap (λ (x : ℕ). 0 + x) (mul-zero (hd 0 ρ))

lec_le : (ρ : List ℕ) (a : ℕ) (p : Poly ℕ) → T (lec a p) → a ≤ ev_n ρ p
lec_le ρ a (con b) t = leb→le a b t
lec_le ρ a (horn p q) t = le_trans (lec_le (tl ρ) a p t) (le-add_right (ev_n (tl ρ) p) (hd 0 ρ * ev_n ρ q))

le_p_le : (ρ : List ℕ) (p q : Poly ℕ) → T (le_p p q) → ev_n ρ p ≤ ev_n ρ q
le_p_le ρ (con a) r t = lec_le ρ a r t
le_p_le ρ (horn p q) (con b) t =
    le_trans
    (le_of_eq (ap (λ (x : ℕ). ev_n (tl ρ) p + hd 0 ρ * x) (null_is ρ q (and_r (le_p p (con b)) (null q) t)) ∙ ap (λ (x : ℕ). ev_n (tl ρ) p + x) (mul-zero (hd 0 ρ)) ∙ add-zero (ev_n (tl ρ) p)))
    (le_p_le (tl ρ) p (con b) (and_l (le_p p (con b)) (null q) t))
le_p_le ρ (horn p q) (horn r s) t =
    add-le-add (le_p_le (tl ρ) p r (and_l (le_p p r) (le_p q s) t)) (mul-le-mul_left (hd 0 ρ) (le_p_le ρ q s (and_r (le_p p r) (le_p q s) t)))

-- the goal has at least the coefficients
pub ring≤ : (ρ : List ℕ) (a b : Expr) → T (le_p (nf a) (nf b)) → val ρ a ≤ val ρ b
ring≤ ρ a b t = le_trans (le_of_eq (sym (nf_val ρ a))) (le_trans (le_p_le ρ (nf a) (nf b) t) (le_of_eq (nf_val ρ b)))

-- hypotheses c ≤ d, each with a factor m
pub data Hyps (ρ : List ℕ) : Type 0 where
  done : Hyps ρ
  by : (m c d : Expr) → val ρ c ≤ val ρ d → Hyps ρ → Hyps ρ

abbrev pub lefts : {ρ : List ℕ} → Hyps ρ → Expr
lefts done = lit 0
lefts (by m c d h hs) = m ⊗ c ⊕ lefts hs

abbrev pub rights : {ρ : List ℕ} → Hyps ρ → Expr
rights done = lit 0
rights (by m c d h hs) = m ⊗ d ⊕ rights hs

sum_le : (ρ : List ℕ) (hs : Hyps ρ) → val ρ (lefts hs) ≤ val ρ (rights hs)
sum_le ρ done = le_refl 0
sum_le ρ (by m c d h hs) = add-le-add (mul-le-mul_left (val ρ m) h) (sum_le ρ hs)

cancel : (a b c d : ℕ) → c ≤ d → a + d ≤ b + c → a ≤ b
cancel a b c d h k = omega arith

-- a ≤ b, if a + Σ m d has at most the coefficients of b + Σ m c
pub cert : (ρ : List ℕ) (a b : Expr) (hs : Hyps ρ) → T (le_p (nf (a ⊕ rights hs)) (nf (b ⊕ lefts hs))) → val ρ a ≤ val ρ b
cert ρ a b hs t = cancel (val ρ a) (val ρ b) (val ρ (lefts hs)) (val ρ (rights hs)) (sum_le ρ hs) (ring≤ ρ (a ⊕ rights hs) (b ⊕ lefts hs) t)

-- the same for a goal times K
pub cert_times : (K : ℕ) (ρ : List ℕ) (a b : Expr) (hs : Hyps ρ) → 0 < K → T (le_p (nf (a ⊗ lit K ⊕ rights hs)) (nf (b ⊗ lit K ⊕ lefts hs))) → val ρ a ≤ val ρ b
cert_times K ρ a b hs k t = le_of_mul-le-mul_right (cert ρ (a ⊗ lit K) (b ⊗ lit K) hs t) k

-- ---- products of hypotheses: (d - c) * (f - e) is not negative
slack : (c d : ℕ) → c ≤ d → c + (d - c) ≡ d
slack c d h = omega arith

cross_slack : (c u e v : ℕ) → c * (e + v) + (c + u) * e ≤ c * e + (c + u) * (e + v)
cross_slack c u e v =
    ring≤ (c ∷ u ∷ e ∷ v ∷ []) (var 0 ⊗ (var 2 ⊕ var 3) ⊕ (var 0 ⊕ var 1) ⊗ var 2) (var 0 ⊗ var 2 ⊕ (var 0 ⊕ var 1) ⊗ (var 2 ⊕ var 3)) tt

pub cross : (c d e f : ℕ) → c ≤ d → e ≤ f → c * f + d * e ≤ c * e + d * f
cross c d e f h k =
    subst₂ (λ (x y : ℕ). c * y + x * e ≤ c * e + x * y) (slack c d h) (slack e f k) (cross_slack c (d - c) e (f - e))

-- and a square never is
pub square : (a b : ℕ) → a * b + b * a ≤ a * a + b * b
square a b = go (leb a b) (leb→le a b) (nleb→lt a b)
  where
    go : (t : Bool) → (T t → a ≤ b) → (T (not t) → b < a) → a * b + b * a ≤ a * a + b * b
    go true h k = cross a b a b (h tt) (h tt)
    go false h k = let l : b ≤ a = le_of_lt (k tt) in omega (arith, cross b a b a l l)
