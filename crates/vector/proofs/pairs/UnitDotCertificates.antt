-- The pair v1, v2 times its reciprocal lengths r and r2, rounded: w1 = (wa, wb, wc), w2 = (va, vb, vc) stay nearly orthogonal to n and to each other.
-- 1 is d, a rounding's error is e.
-- Each proof is a linear combination of its hypotheses, whose multipliers the checker verifies. Assumes nothing.
use mathlib.Core.List.{[], ◌∷◌}
use Prim.Native.Nat.{ℕ, ◌+◌, ◌*◌, ◌≤◌, ◌<◌}
use native.Mathlib.Nat.{mul-le-mul, le_of_mul-le-mul_right}
use native.Mathlib.Omega.{arith}
use Rattle.laws.proofs.solvers.Ring.{var, lit, ◌⊕◌, ◌⊗◌}
use Rattle.laws.proofs.solvers.RingNat.{Expr}
use Rattle.laws.proofs.solvers.Certificates.{cert, by, done}
use Rattle.laws.specs.Within.{Within}

abbrev D : Expr
D = var 0

abbrev E : Expr
E = var 1

abbrev X : Expr
X = var 2

abbrev Y : Expr
Y = var 3

abbrev Z : Expr
Z = var 4

abbrev B : Expr
B = var 5

abbrev Hp : Expr
Hp = var 6

abbrev Hm : Expr
Hm = var 7

abbrev Kp : Expr
Kp = var 8

abbrev Km : Expr
Km = var 9

abbrev R : Expr
R = var 10

abbrev R2 : Expr
R2 = var 11

abbrev Wap : Expr
Wap = var 12

abbrev Wam : Expr
Wam = var 13

abbrev Wb : Expr
Wb = var 14

abbrev Wc : Expr
Wc = var 15

abbrev Va : Expr
Va = var 16

abbrev Vbp : Expr
Vbp = var 17

abbrev Vbm : Expr
Vbm = var 18

abbrev Vc : Expr
Vc = var 19

-- n·w1 is at most 100 errors: n·v1 is at most 76 (s5), r is at most 5/4 (hr), and the components of w1 are those of v1 times r, rounded (ha, hb, hc)
pub normal_unit : (d e x y z b hp hm r wap wam wb wc : ℕ) → 100000 * e ≤ d → x ≤ d + 32 * e → y ≤ d + 32 * e → z ≤ d + 32 * e → 4 * r ≤ 5 * d → Within (x * hp) (y * b + z * x + x * hm) (76 * (e * d)) → Within (wap * d + hm * r) (hp * r + wam * d) (e * d) → Within (wb * d) (b * r) (e * d) → Within (wc * d) (x * r) (e * d) → 0 < d
    → Within (x * wap) (y * wb + z * wc + x * wam) (100 * (e * d))
normal_unit d e x y z b hp hm r wap wam wb wc k hx hy hz hr s5 ha hb hc some = (
  le_of_mul-le-mul_right (cert (d ∷ e ∷ x ∷ y ∷ z ∷ b ∷ hp ∷ hm ∷ 0 ∷ 0 ∷ r ∷ 0 ∷ wap ∷ wam ∷ wb ∷ wc ∷ []) (X ⊗ Wap ⊗ D) ((Y ⊗ Wb ⊕ Z ⊗ Wc ⊕ X ⊗ Wam ⊕ lit 100 ⊗ (E ⊗ D)) ⊗ D)
      (by (D ⊗ E) (lit 100000 ⊗ E) D k (
      by (D ⊗ E) X (D ⊕ lit 32 ⊗ E) hx (
      by (D ⊗ E) Y (D ⊕ lit 32 ⊗ E) hy (
      by (D ⊗ E) Z (D ⊕ lit 32 ⊗ E) hz (
      by (lit 19 ⊗ D ⊗ E) (lit 4 ⊗ R) (lit 5 ⊗ D) hr (
      by R (X ⊗ Hp) (Y ⊗ B ⊕ Z ⊗ X ⊕ X ⊗ Hm ⊕ lit 76 ⊗ (E ⊗ D)) s5.0 (
      by X (Wap ⊗ D ⊕ Hm ⊗ R) (Hp ⊗ R ⊕ Wam ⊗ D ⊕ E ⊗ D) ha.0 (
      by Y (B ⊗ R) (Wb ⊗ D ⊕ E ⊗ D) hb.1 (
      by Z (X ⊗ R) (Wc ⊗ D ⊕ E ⊗ D) hc.1 done))))))))) tt) some,
  le_of_mul-le-mul_right (cert (d ∷ e ∷ x ∷ y ∷ z ∷ b ∷ hp ∷ hm ∷ 0 ∷ 0 ∷ r ∷ 0 ∷ wap ∷ wam ∷ wb ∷ wc ∷ []) ((Y ⊗ Wb ⊕ Z ⊗ Wc ⊕ X ⊗ Wam) ⊗ D) ((X ⊗ Wap ⊕ lit 100 ⊗ (E ⊗ D)) ⊗ D)
      (by (D ⊗ E) (lit 100000 ⊗ E) D k (
      by (D ⊗ E) X (D ⊕ lit 32 ⊗ E) hx (
      by (D ⊗ E) Y (D ⊕ lit 32 ⊗ E) hy (
      by (D ⊗ E) Z (D ⊕ lit 32 ⊗ E) hz (
      by (lit 19 ⊗ D ⊗ E) (lit 4 ⊗ R) (lit 5 ⊗ D) hr (
      by R (Y ⊗ B ⊕ Z ⊗ X ⊕ X ⊗ Hm) (X ⊗ Hp ⊕ lit 76 ⊗ (E ⊗ D)) s5.1 (
      by X (Hp ⊗ R ⊕ Wam ⊗ D) (Wap ⊗ D ⊕ Hm ⊗ R ⊕ E ⊗ D) ha.1 (
      by Y (Wb ⊗ D) (B ⊗ R ⊕ E ⊗ D) hb.0 (
      by Z (Wc ⊗ D) (X ⊗ R ⊕ E ⊗ D) hc.0 done))))))))) tt) some,
)

-- a component x of v1, times r and rounded (hc), is at most 5/4 and 50 errors
pub size_of : (d e x r wc : ℕ) → 100000 * e ≤ d → x ≤ d + 32 * e → 4 * r ≤ 5 * d → Within (wc * d) (x * r) (e * d) → 0 < d
    → 4 * wc ≤ 5 * d + 200 * e
size_of d e x r wc k hx hr hc some = let l : 4 * wc * d ≤ (5 * d + 200 * e) * d = omega (arith, mul-le-mul hx hr) in le_of_mul-le-mul_right l some

-- w1·w2 is at most 146 errors: v1·v2 is at most 88 (s6), r and r2 are at most 5/4, and the components of w1 and w2 are those of v1 and v2 times r and r2,
-- rounded (hwa to hqc)
pub units : (d e x y b hp hm kp km r r2 wap wam wb wc va vbp vbm vc : ℕ) → 100000 * e ≤ d → b ≤ d → hp + hm ≤ d → x ≤ d + 32 * e → 4 * r ≤ 5 * d → 4 * r2 ≤ 5 * d → 16 * (r * r2) ≤ 25 * (d * d) → 4 * va ≤ 5 * d + 200 * e → 4 * (vbp + vbm) ≤ 5 * d + 200 * e → 4 * vc ≤ 5 * d + 200 * e → Within (b * (hp + kp)) (x * y + b * (hm + km)) (88 * (e * d)) → Within (wap * d + hm * r) (hp * r + wam * d) (e * d) → Within (wb * d) (b * r) (e * d) → Within (wc * d) (x * r) (e * d) → Within (va * d) (b * r2) (e * d) → Within (vbp * d + km * r2) (kp * r2 + vbm * d) (e * d) → Within (vc * d) (y * r2) (e * d) → 0 < 4 * (d * d)
    → Within (wap * va + wb * vbp) (wc * vc + wam * va + wb * vbm) (146 * (e * d))
units d e x y b hp hm kp km r r2 wap wam wb wc va vbp vbm vc k hb hh hx hr hr2 hrr hva hvb hvc s6 hwa hwb hwc hqa hqb hqc some = (
  le_of_mul-le-mul_right (cert (d ∷ e ∷ x ∷ y ∷ 0 ∷ b ∷ hp ∷ hm ∷ kp ∷ km ∷ r ∷ r2 ∷ wap ∷ wam ∷ wb ∷ wc ∷ va ∷ vbp ∷ vbm ∷ vc ∷ []) ((Wap ⊗ Va ⊕ Wb ⊗ Vbp) ⊗ (lit 4 ⊗ (D ⊗ D))) ((Wc ⊗ Vc ⊕ Wam ⊗ Va ⊕ Wb ⊗ Vbm ⊕ lit 146 ⊗ (E ⊗ D)) ⊗ (lit 4 ⊗ (D ⊗ D)))
      (by (D ⊗ D ⊗ E) (lit 100000 ⊗ E) D k (
      by (lit 4 ⊗ D ⊗ E ⊗ R) B D hb (
      by (lit 4 ⊗ D ⊗ E ⊗ R) (Hp ⊕ Hm) D hh (
      by (lit 4 ⊗ D ⊗ E ⊗ R) X (D ⊕ lit 32 ⊗ E) hx (
      by (lit 3 ⊗ D ⊗ D ⊗ E ⊕ lit 32 ⊗ D ⊗ E ⊗ E) (lit 4 ⊗ R) (lit 5 ⊗ D) hr (
      by (lit 22 ⊗ D ⊗ E) (lit 16 ⊗ (R ⊗ R2)) (lit 25 ⊗ (D ⊗ D)) hrr (
      by (D ⊗ D ⊗ E) (lit 4 ⊗ Va) (lit 5 ⊗ D ⊕ lit 200 ⊗ E) hva (
      by (D ⊗ D ⊗ E) (lit 4 ⊗ (Vbp ⊕ Vbm)) (lit 5 ⊗ D ⊕ lit 200 ⊗ E) hvb (
      by (D ⊗ D ⊗ E) (lit 4 ⊗ Vc) (lit 5 ⊗ D ⊕ lit 200 ⊗ E) hvc (
      by (lit 4 ⊗ R ⊗ R2) (B ⊗ (Hp ⊕ Kp)) (X ⊗ Y ⊕ B ⊗ (Hm ⊕ Km) ⊕ lit 88 ⊗ (E ⊗ D)) s6.0 (
      by (lit 4 ⊗ D ⊗ Va) (Wap ⊗ D ⊕ Hm ⊗ R) (Hp ⊗ R ⊕ Wam ⊗ D ⊕ E ⊗ D) hwa.0 (
      by (lit 4 ⊗ D ⊗ Vbp) (Wb ⊗ D) (B ⊗ R ⊕ E ⊗ D) hwb.0 (
      by (lit 4 ⊗ D ⊗ Vbm) (B ⊗ R) (Wb ⊗ D ⊕ E ⊗ D) hwb.1 (
      by (lit 4 ⊗ D ⊗ Vc) (X ⊗ R) (Wc ⊗ D ⊕ E ⊗ D) hwc.1 (
      by (lit 4 ⊗ Hp ⊗ R) (Va ⊗ D) (B ⊗ R2 ⊕ E ⊗ D) hqa.0 (
      by (lit 4 ⊗ Hm ⊗ R) (B ⊗ R2) (Va ⊗ D ⊕ E ⊗ D) hqa.1 (
      by (lit 4 ⊗ B ⊗ R) (Vbp ⊗ D ⊕ Km ⊗ R2) (Kp ⊗ R2 ⊕ Vbm ⊗ D ⊕ E ⊗ D) hqb.0 (
      by (lit 4 ⊗ R ⊗ X) (Y ⊗ R2) (Vc ⊗ D ⊕ E ⊗ D) hqc.1 done)))))))))))))))))) tt) some,
  le_of_mul-le-mul_right (cert (d ∷ e ∷ x ∷ y ∷ 0 ∷ b ∷ hp ∷ hm ∷ kp ∷ km ∷ r ∷ r2 ∷ wap ∷ wam ∷ wb ∷ wc ∷ va ∷ vbp ∷ vbm ∷ vc ∷ []) ((Wc ⊗ Vc ⊕ Wam ⊗ Va ⊕ Wb ⊗ Vbm) ⊗ (lit 4 ⊗ (D ⊗ D))) ((Wap ⊗ Va ⊕ Wb ⊗ Vbp ⊕ lit 146 ⊗ (E ⊗ D)) ⊗ (lit 4 ⊗ (D ⊗ D)))
      (by (D ⊗ D ⊗ E) (lit 100000 ⊗ E) D k (
      by (lit 4 ⊗ D ⊗ E ⊗ R) B D hb (
      by (lit 4 ⊗ D ⊗ E ⊗ R) (Hp ⊕ Hm) D hh (
      by (lit 4 ⊗ D ⊗ E ⊗ R) X (D ⊕ lit 32 ⊗ E) hx (
      by (lit 3 ⊗ D ⊗ D ⊗ E ⊕ lit 32 ⊗ D ⊗ E ⊗ E) (lit 4 ⊗ R) (lit 5 ⊗ D) hr (
      by (lit 22 ⊗ D ⊗ E) (lit 16 ⊗ (R ⊗ R2)) (lit 25 ⊗ (D ⊗ D)) hrr (
      by (D ⊗ D ⊗ E) (lit 4 ⊗ Va) (lit 5 ⊗ D ⊕ lit 200 ⊗ E) hva (
      by (D ⊗ D ⊗ E) (lit 4 ⊗ (Vbp ⊕ Vbm)) (lit 5 ⊗ D ⊕ lit 200 ⊗ E) hvb (
      by (D ⊗ D ⊗ E) (lit 4 ⊗ Vc) (lit 5 ⊗ D ⊕ lit 200 ⊗ E) hvc (
      by (lit 4 ⊗ R ⊗ R2) (X ⊗ Y ⊕ B ⊗ (Hm ⊕ Km)) (B ⊗ (Hp ⊕ Kp) ⊕ lit 88 ⊗ (E ⊗ D)) s6.1 (
      by (lit 4 ⊗ D ⊗ Va) (Hp ⊗ R ⊕ Wam ⊗ D) (Wap ⊗ D ⊕ Hm ⊗ R ⊕ E ⊗ D) hwa.1 (
      by (lit 4 ⊗ D ⊗ Vbm) (Wb ⊗ D) (B ⊗ R ⊕ E ⊗ D) hwb.0 (
      by (lit 4 ⊗ D ⊗ Vbp) (B ⊗ R) (Wb ⊗ D ⊕ E ⊗ D) hwb.1 (
      by (lit 4 ⊗ D ⊗ Vc) (Wc ⊗ D) (X ⊗ R ⊕ E ⊗ D) hwc.0 (
      by (lit 4 ⊗ Hm ⊗ R) (Va ⊗ D) (B ⊗ R2 ⊕ E ⊗ D) hqa.0 (
      by (lit 4 ⊗ Hp ⊗ R) (B ⊗ R2) (Va ⊗ D ⊕ E ⊗ D) hqa.1 (
      by (lit 4 ⊗ B ⊗ R) (Kp ⊗ R2 ⊕ Vbm ⊗ D) (Vbp ⊗ D ⊕ Km ⊗ R2 ⊕ E ⊗ D) hqb.1 (
      by (lit 4 ⊗ R ⊗ X) (Vc ⊗ D) (Y ⊗ R2 ⊕ E ⊗ D) hqc.0 done)))))))))))))))))) tt) some,
)
