-- The pair v1 = (h, -b, -x), v2 = (-b, k, -y), by sizes and up to signs: it is nearly orthogonal to n and within itself, and its lengths are nearly 1.
-- 1 is d, a rounding's error is e; h is hp - hm, k is kp - km.
-- Each proof is a linear combination of its hypotheses, whose multipliers the checker verifies. Assumes nothing.
use mathlib.Core.List.{[], ◌∷◌}
use Prim.Native.Nat.{ℕ, ◌+◌, ◌*◌, ◌≤◌, ◌<◌}
use native.Mathlib.Nat.{le_of_mul-le-mul_right}
use Rattle.laws.proofs.solvers.Ring.{var, lit, ◌⊕◌, ◌⊗◌}
use Rattle.laws.proofs.solvers.RingNat.{Expr}
use Rattle.laws.proofs.solvers.Certificates.{cert, by, done}
use Rattle.laws.specs.Within.{Within}

abbrev D : Expr
D = var 0

abbrev E : Expr
E = var 1

abbrev A : Expr
A = var 2

abbrev X : Expr
X = var 3

abbrev Y : Expr
Y = var 4

abbrev Z : Expr
Z = var 5

abbrev B : Expr
B = var 6

abbrev Hp : Expr
Hp = var 7

abbrev Hm : Expr
Hm = var 8

abbrev Kp : Expr
Kp = var 9

abbrev Km : Expr
Km = var 10

-- n·v1 is at most 76 errors: from h near 1 - α x² (f1), b near α x y (f2) and α (x² + y²) near 1 - z (c1)
pub normal_first : (d e x y z α b hp hm : ℕ) → 100000 * e ≤ d → x ≤ d + 32 * e → y ≤ d + 32 * e → Within (d * d * hp + α * (x * x)) (d * d * d + d * d * hm) (3 * (e * d * d)) → Within (d * d * b) (α * (x * y)) (2 * (e * d * d)) → Within (α * (x * x + y * y) + d * d * z) (d * d * d) (70 * (e * d * d)) → 0 < d * d
    → Within (x * hp) (y * b + z * x + x * hm) (76 * (e * d))
normal_first d e x y z α b hp hm k hx hy f1 f2 c1 some = (
  le_of_mul-le-mul_right (cert (d ∷ e ∷ α ∷ x ∷ y ∷ z ∷ b ∷ hp ∷ hm ∷ []) (X ⊗ Hp ⊗ (D ⊗ D)) ((Y ⊗ B ⊕ Z ⊗ X ⊕ X ⊗ Hm ⊕ lit 76 ⊗ (E ⊗ D)) ⊗ (D ⊗ D))
      (by (D ⊗ D ⊗ E) (lit 100000 ⊗ E) D k (
      by (lit 73 ⊗ D ⊗ D ⊗ E) X (D ⊕ lit 32 ⊗ E) hx (
      by (lit 2 ⊗ D ⊗ D ⊗ E) Y (D ⊕ lit 32 ⊗ E) hy (
      by X (D ⊗ D ⊗ Hp ⊕ A ⊗ (X ⊗ X)) (D ⊗ D ⊗ D ⊕ D ⊗ D ⊗ Hm ⊕ lit 3 ⊗ (E ⊗ D ⊗ D)) f1.0 (
      by Y (A ⊗ (X ⊗ Y)) (D ⊗ D ⊗ B ⊕ lit 2 ⊗ (E ⊗ D ⊗ D)) f2.1 (
      by X (D ⊗ D ⊗ D) (A ⊗ (X ⊗ X ⊕ Y ⊗ Y) ⊕ D ⊗ D ⊗ Z ⊕ lit 70 ⊗ (E ⊗ D ⊗ D)) c1.1 done)))))) tt) some,
  le_of_mul-le-mul_right (cert (d ∷ e ∷ α ∷ x ∷ y ∷ z ∷ b ∷ hp ∷ hm ∷ []) ((Y ⊗ B ⊕ Z ⊗ X ⊕ X ⊗ Hm) ⊗ (D ⊗ D)) ((X ⊗ Hp ⊕ lit 76 ⊗ (E ⊗ D)) ⊗ (D ⊗ D))
      (by (D ⊗ D ⊗ E) (lit 100000 ⊗ E) D k (
      by (lit 73 ⊗ D ⊗ D ⊗ E) X (D ⊕ lit 32 ⊗ E) hx (
      by (lit 2 ⊗ D ⊗ D ⊗ E) Y (D ⊕ lit 32 ⊗ E) hy (
      by X (D ⊗ D ⊗ D ⊕ D ⊗ D ⊗ Hm) (D ⊗ D ⊗ Hp ⊕ A ⊗ (X ⊗ X) ⊕ lit 3 ⊗ (E ⊗ D ⊗ D)) f1.1 (
      by Y (D ⊗ D ⊗ B) (A ⊗ (X ⊗ Y) ⊕ lit 2 ⊗ (E ⊗ D ⊗ D)) f2.0 (
      by X (A ⊗ (X ⊗ X ⊕ Y ⊗ Y) ⊕ D ⊗ D ⊗ Z) (D ⊗ D ⊗ D ⊕ lit 70 ⊗ (E ⊗ D ⊗ D)) c1.0 done)))))) tt) some,
)

-- v1·v2 is at most 88 errors: from h and k near 1 - α x² and 1 - α y² (f1, f3), b near α x y (f2) and 1 + α² (x² + y²) near 2 α (c2)
pub first_second : (d e x y α b hp hm kp km : ℕ) → 100000 * e ≤ d → α ≤ d → b ≤ d → 2 * (x * y) ≤ x * x + y * y → x * x + y * y ≤ d * d + 64 * (e * d) → Within (d * d * hp + α * (x * x)) (d * d * d + d * d * hm) (3 * (e * d * d)) → Within (d * d * b) (α * (x * y)) (2 * (e * d * d)) → Within (d * d * kp + α * (y * y)) (d * d * d + d * d * km) (3 * (e * d * d)) → Within (d * d * d * d + α * α * (x * x + y * y)) (2 * (α * (d * d * d))) (75 * (e * d * d * d)) → 0 < d * d * d * d
    → Within (b * (hp + kp)) (x * y + b * (hm + km)) (88 * (e * d))
first_second d e x y α b hp hm kp km k hα hb xy hσ f1 f2 f3 c2 some = (
  le_of_mul-le-mul_right (cert (d ∷ e ∷ α ∷ x ∷ y ∷ 0 ∷ b ∷ hp ∷ hm ∷ kp ∷ km ∷ []) (B ⊗ (Hp ⊕ Kp) ⊗ (D ⊗ D ⊗ D ⊗ D)) ((X ⊗ Y ⊕ B ⊗ (Hm ⊕ Km) ⊕ lit 88 ⊗ (E ⊗ D)) ⊗ (D ⊗ D ⊗ D ⊗ D))
      (by (D ⊗ D ⊗ D ⊗ D ⊗ E) (lit 100000 ⊗ E) D k (
      by (lit 2 ⊗ D ⊗ D ⊗ E ⊗ X ⊗ X ⊕ lit 2 ⊗ D ⊗ D ⊗ E ⊗ Y ⊗ Y) A D hα (
      by (lit 6 ⊗ D ⊗ D ⊗ D ⊗ D ⊗ E) B D hb (
      by (lit 38 ⊗ D ⊗ D ⊗ D ⊗ E) (lit 2 ⊗ (X ⊗ Y)) (X ⊗ X ⊕ Y ⊗ Y) xy (
      by (lit 40 ⊗ D ⊗ D ⊗ D ⊗ E) (X ⊗ X ⊕ Y ⊗ Y) (D ⊗ D ⊕ lit 64 ⊗ (E ⊗ D)) hσ (
      by (B ⊗ D ⊗ D) (D ⊗ D ⊗ Hp ⊕ A ⊗ (X ⊗ X)) (D ⊗ D ⊗ D ⊕ D ⊗ D ⊗ Hm ⊕ lit 3 ⊗ (E ⊗ D ⊗ D)) f1.0 (
      by (lit 2 ⊗ D ⊗ D ⊗ D) (D ⊗ D ⊗ B) (A ⊗ (X ⊗ Y) ⊕ lit 2 ⊗ (E ⊗ D ⊗ D)) f2.0 (
      by (X ⊗ X ⊗ A ⊕ Y ⊗ Y ⊗ A) (A ⊗ (X ⊗ Y)) (D ⊗ D ⊗ B ⊕ lit 2 ⊗ (E ⊗ D ⊗ D)) f2.1 (
      by (B ⊗ D ⊗ D) (D ⊗ D ⊗ Kp ⊕ A ⊗ (Y ⊗ Y)) (D ⊗ D ⊗ D ⊕ D ⊗ D ⊗ Km ⊕ lit 3 ⊗ (E ⊗ D ⊗ D)) f3.0 (
      by (X ⊗ Y) (lit 2 ⊗ (A ⊗ (D ⊗ D ⊗ D))) (D ⊗ D ⊗ D ⊗ D ⊕ A ⊗ A ⊗ (X ⊗ X ⊕ Y ⊗ Y) ⊕ lit 75 ⊗ (E ⊗ D ⊗ D ⊗ D)) c2.1 done)))))))))) tt) some,
  le_of_mul-le-mul_right (cert (d ∷ e ∷ α ∷ x ∷ y ∷ 0 ∷ b ∷ hp ∷ hm ∷ kp ∷ km ∷ []) ((X ⊗ Y ⊕ B ⊗ (Hm ⊕ Km)) ⊗ (D ⊗ D ⊗ D ⊗ D)) ((B ⊗ (Hp ⊕ Kp) ⊕ lit 88 ⊗ (E ⊗ D)) ⊗ (D ⊗ D ⊗ D ⊗ D))
      (by (D ⊗ D ⊗ D ⊗ D ⊗ E) (lit 100000 ⊗ E) D k (
      by (lit 2 ⊗ D ⊗ D ⊗ E ⊗ X ⊗ X ⊕ lit 2 ⊗ D ⊗ D ⊗ E ⊗ Y ⊗ Y) A D hα (
      by (lit 6 ⊗ D ⊗ D ⊗ D ⊗ D ⊗ E) B D hb (
      by (lit 38 ⊗ D ⊗ D ⊗ D ⊗ E) (lit 2 ⊗ (X ⊗ Y)) (X ⊗ X ⊕ Y ⊗ Y) xy (
      by (lit 40 ⊗ D ⊗ D ⊗ D ⊗ E) (X ⊗ X ⊕ Y ⊗ Y) (D ⊗ D ⊕ lit 64 ⊗ (E ⊗ D)) hσ (
      by (B ⊗ D ⊗ D) (D ⊗ D ⊗ D ⊕ D ⊗ D ⊗ Hm) (D ⊗ D ⊗ Hp ⊕ A ⊗ (X ⊗ X) ⊕ lit 3 ⊗ (E ⊗ D ⊗ D)) f1.1 (
      by (X ⊗ X ⊗ A ⊕ Y ⊗ Y ⊗ A) (D ⊗ D ⊗ B) (A ⊗ (X ⊗ Y) ⊕ lit 2 ⊗ (E ⊗ D ⊗ D)) f2.0 (
      by (lit 2 ⊗ D ⊗ D ⊗ D) (A ⊗ (X ⊗ Y)) (D ⊗ D ⊗ B ⊕ lit 2 ⊗ (E ⊗ D ⊗ D)) f2.1 (
      by (B ⊗ D ⊗ D) (D ⊗ D ⊗ D ⊕ D ⊗ D ⊗ Km) (D ⊗ D ⊗ Kp ⊕ A ⊗ (Y ⊗ Y) ⊕ lit 3 ⊗ (E ⊗ D ⊗ D)) f3.1 (
      by (X ⊗ Y) (D ⊗ D ⊗ D ⊗ D ⊕ A ⊗ A ⊗ (X ⊗ X ⊕ Y ⊗ Y)) (lit 2 ⊗ (A ⊗ (D ⊗ D ⊗ D)) ⊕ lit 75 ⊗ (E ⊗ D ⊗ D ⊗ D)) c2.0 done)))))))))) tt) some,
)

-- the squared length of v1 is 1 within 90 errors: from h near 1 - α x² (f1), b near α x y (f2) and 1 + α² (x² + y²) near 2 α (c2)
pub first_length : (d e x y α b hp hm : ℕ) → 100000 * e ≤ d → α ≤ d → b ≤ d → hp + hm ≤ d → hp * hm ≤ 0 → 2 * (x * y) ≤ x * x + y * y → x * x + y * y ≤ d * d + 64 * (e * d) → Within (d * d * hp + α * (x * x)) (d * d * d + d * d * hm) (3 * (e * d * d)) → Within (d * d * b) (α * (x * y)) (2 * (e * d * d)) → Within (d * d * d * d + α * α * (x * x + y * y)) (2 * (α * (d * d * d))) (75 * (e * d * d * d)) → 0 < d * d * d * d
    → Within (hp * hp + hm * hm + b * b + x * x) (d * d) (90 * (e * d))
first_length d e x y α b hp hm k hα hb hh hz xy hσ f1 f2 c2 some = (
  le_of_mul-le-mul_right (cert (d ∷ e ∷ α ∷ x ∷ y ∷ 0 ∷ b ∷ hp ∷ hm ∷ []) ((Hp ⊗ Hp ⊕ Hm ⊗ Hm ⊕ B ⊗ B ⊕ X ⊗ X) ⊗ (D ⊗ D ⊗ D ⊗ D)) ((D ⊗ D ⊕ lit 90 ⊗ (E ⊗ D)) ⊗ (D ⊗ D ⊗ D ⊗ D))
      (by (D ⊗ D ⊗ D ⊗ D ⊗ E) (lit 100000 ⊗ E) D k (
      by (lit 3 ⊗ D ⊗ D ⊗ E ⊗ X ⊗ X ⊕ lit 2 ⊗ D ⊗ D ⊗ E ⊗ X ⊗ Y) A D hα (
      by (lit 2 ⊗ D ⊗ D ⊗ D ⊗ D ⊗ E) B D hb (
      by (lit 3 ⊗ D ⊗ D ⊗ D ⊗ D ⊗ E) (Hp ⊕ Hm) D hh (
      by (lit 2 ⊗ D ⊗ D ⊗ D ⊗ D) (Hp ⊗ Hm) (lit 0) hz (
      by (D ⊗ D ⊗ D ⊗ E) (lit 2 ⊗ (X ⊗ Y)) (X ⊗ X ⊕ Y ⊗ Y) xy (
      by (lit 79 ⊗ D ⊗ D ⊗ D ⊗ E) (X ⊗ X ⊕ Y ⊗ Y) (D ⊗ D ⊕ lit 64 ⊗ (E ⊗ D)) hσ (
      by (D ⊗ D ⊗ D ⊕ D ⊗ D ⊗ Hp) (D ⊗ D ⊗ Hp ⊕ A ⊗ (X ⊗ X)) (D ⊗ D ⊗ D ⊕ D ⊗ D ⊗ Hm ⊕ lit 3 ⊗ (E ⊗ D ⊗ D)) f1.0 (
      by (D ⊗ D ⊗ Hm ⊕ X ⊗ X ⊗ A) (D ⊗ D ⊗ D ⊕ D ⊗ D ⊗ Hm) (D ⊗ D ⊗ Hp ⊕ A ⊗ (X ⊗ X) ⊕ lit 3 ⊗ (E ⊗ D ⊗ D)) f1.1 (
      by (B ⊗ D ⊗ D ⊕ X ⊗ Y ⊗ A) (D ⊗ D ⊗ B) (A ⊗ (X ⊗ Y) ⊕ lit 2 ⊗ (E ⊗ D ⊗ D)) f2.0 (
      by (X ⊗ X) (D ⊗ D ⊗ D ⊗ D ⊕ A ⊗ A ⊗ (X ⊗ X ⊕ Y ⊗ Y)) (lit 2 ⊗ (A ⊗ (D ⊗ D ⊗ D)) ⊕ lit 75 ⊗ (E ⊗ D ⊗ D ⊗ D)) c2.0 done))))))))))) tt) some,
  le_of_mul-le-mul_right (cert (d ∷ e ∷ α ∷ x ∷ y ∷ 0 ∷ b ∷ hp ∷ hm ∷ []) (D ⊗ D ⊗ (D ⊗ D ⊗ D ⊗ D)) ((Hp ⊗ Hp ⊕ Hm ⊗ Hm ⊕ B ⊗ B ⊕ X ⊗ X ⊕ lit 90 ⊗ (E ⊗ D)) ⊗ (D ⊗ D ⊗ D ⊗ D))
      (by (D ⊗ D ⊗ D ⊗ D ⊗ E) (lit 100000 ⊗ E) D k (
      by (lit 3 ⊗ D ⊗ D ⊗ E ⊗ X ⊗ X ⊕ lit 2 ⊗ D ⊗ D ⊗ E ⊗ X ⊗ Y) A D hα (
      by (lit 2 ⊗ D ⊗ D ⊗ D ⊗ D ⊗ E) B D hb (
      by (lit 3 ⊗ D ⊗ D ⊗ D ⊗ D ⊗ E) (Hp ⊕ Hm) D hh (
      by (D ⊗ D ⊗ D ⊗ E) (lit 2 ⊗ (X ⊗ Y)) (X ⊗ X ⊕ Y ⊗ Y) xy (
      by (lit 79 ⊗ D ⊗ D ⊗ D ⊗ E) (X ⊗ X ⊕ Y ⊗ Y) (D ⊗ D ⊕ lit 64 ⊗ (E ⊗ D)) hσ (
      by (D ⊗ D ⊗ Hm ⊕ X ⊗ X ⊗ A) (D ⊗ D ⊗ Hp ⊕ A ⊗ (X ⊗ X)) (D ⊗ D ⊗ D ⊕ D ⊗ D ⊗ Hm ⊕ lit 3 ⊗ (E ⊗ D ⊗ D)) f1.0 (
      by (D ⊗ D ⊗ D ⊕ D ⊗ D ⊗ Hp) (D ⊗ D ⊗ D ⊕ D ⊗ D ⊗ Hm) (D ⊗ D ⊗ Hp ⊕ A ⊗ (X ⊗ X) ⊕ lit 3 ⊗ (E ⊗ D ⊗ D)) f1.1 (
      by (B ⊗ D ⊗ D ⊕ X ⊗ Y ⊗ A) (A ⊗ (X ⊗ Y)) (D ⊗ D ⊗ B ⊕ lit 2 ⊗ (E ⊗ D ⊗ D)) f2.1 (
      by (X ⊗ X) (lit 2 ⊗ (A ⊗ (D ⊗ D ⊗ D))) (D ⊗ D ⊗ D ⊗ D ⊕ A ⊗ A ⊗ (X ⊗ X ⊕ Y ⊗ Y) ⊕ lit 75 ⊗ (E ⊗ D ⊗ D ⊗ D)) c2.1 done)))))))))) tt) some,
)
