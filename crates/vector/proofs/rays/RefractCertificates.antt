-- The refracted vector r = η a - (η δ + q) b, in whole numbers, q being the root of k = 1 - η² (1 - δ²): nr, na and nb are squared lengths,
-- cp - cm is the exact dot product of a and b, δ the computed one. 1 is d, a rounding's error is e.
-- Each proof is a linear combination of its hypotheses, whose multipliers the checker verifies. Assumes nothing.
use mathlib.Core.List.{[], ◌∷◌}
use Prim.Native.Nat.{ℕ, ◌+◌, ◌*◌, ◌≤◌, ◌<◌}
use native.Mathlib.Nat.{le_of_mul-le-mul_right}
use Rattle.laws.proofs.solvers.Ring.{var, lit, ◌⊕◌, ◌⊗◌}
use Rattle.laws.proofs.solvers.RingNat.{Expr}
use Rattle.laws.proofs.solvers.Certificates.{cert, by, done, square, cross}
use Rattle.laws.specs.Within.{Within}

abbrev D : Expr
D = var 0

abbrev E : Expr
E = var 1

abbrev H : Expr
H = var 2

abbrev Δ : Expr
Δ = var 3

abbrev D2 : Expr
D2 = var 4

abbrev Mp : Expr
Mp = var 5

abbrev Mm : Expr
Mm = var 6

abbrev E2 : Expr
E2 = var 7

abbrev Πp : Expr
Πp = var 8

abbrev Πm : Expr
Πm = var 9

abbrev K : Expr
K = var 10

abbrev Q : Expr
Q = var 11

abbrev Dp : Expr
Dp = var 12

abbrev Dm : Expr
Dm = var 13

abbrev Gp : Expr
Gp = var 14

abbrev Gm : Expr
Gm = var 15

abbrev Cp : Expr
Cp = var 16

abbrev Cm : Expr
Cm = var 17

abbrev Nr : Expr
Nr = var 18

abbrev Na : Expr
Na = var 19

abbrev Nb : Expr
Nb = var 20

-- η² (1 - δ²) + q² is 1 within 70 errors: d2 = δ² (n1), m = 1 - d2 (n2), e2 = η² (n3), π = e2 m (n4), k = 1 - π (n5) and the root q of k (n6) are each
-- rounded once
pub bent_root : (d e η δ d2 mp mm e2 πp πm k q : ℕ) → η ≤ 4 * d → mp + mm ≤ d → Within (d2 * d) (δ * δ) (e * d) → Within (mp + d2) (d + mm) e → Within (e2 * d) (η * η) (e * 8 * d) → Within (πp * d + e2 * mm) (πm * d + e2 * mp) (e * 8 * d) → Within (k + πp) (d + πm) (e * 16) → Within (q * q) (k * d) (6 * (e * d))
    → Within (η * η * (d * d) + d * d * (q * q)) (d * d * d * d + η * η * (δ * δ)) (70 * (e * d * d * d))
bent_root d e η δ d2 mp mm e2 πp πm k q hη hm n1 n2 n3 n4 n5 n6 = (
  cert (d ∷ e ∷ η ∷ δ ∷ d2 ∷ mp ∷ mm ∷ e2 ∷ πp ∷ πm ∷ k ∷ q ∷ []) (H ⊗ H ⊗ (D ⊗ D) ⊕ D ⊗ D ⊗ (Q ⊗ Q)) (D ⊗ D ⊗ D ⊗ D ⊕ H ⊗ H ⊗ (Δ ⊗ Δ) ⊕ lit 70 ⊗ (E ⊗ D ⊗ D ⊗ D))
      (by (lit 8 ⊗ D ⊗ D ⊗ E ⊕ lit 2 ⊗ D ⊗ E ⊗ H) H (lit 4 ⊗ D) hη (
      by (lit 8 ⊗ D ⊗ D ⊗ E) (Mp ⊕ Mm) D hm (
      by (H ⊗ H) (D2 ⊗ D) (Δ ⊗ Δ ⊕ E ⊗ D) n1.0 (
      by (D ⊗ H ⊗ H) (D ⊕ Mm) (Mp ⊕ D2 ⊕ E) n2.1 (
      by (D ⊗ Mm) (E2 ⊗ D) (H ⊗ H ⊕ E ⊗ lit 8 ⊗ D) n3.0 (
      by (D ⊗ Mp) (H ⊗ H) (E2 ⊗ D ⊕ E ⊗ lit 8 ⊗ D) n3.1 (
      by (D ⊗ D) (Πm ⊗ D ⊕ E2 ⊗ Mp) (Πp ⊗ D ⊕ E2 ⊗ Mm ⊕ E ⊗ lit 8 ⊗ D) n4.1 (
      by (D ⊗ D ⊗ D) (K ⊕ Πp) (D ⊕ Πm ⊕ E ⊗ lit 16) n5.0 (
      by (D ⊗ D) (Q ⊗ Q) (K ⊗ D ⊕ lit 6 ⊗ (E ⊗ D)) n6.0 done))))))))) tt,
  cert (d ∷ e ∷ η ∷ δ ∷ d2 ∷ mp ∷ mm ∷ e2 ∷ πp ∷ πm ∷ k ∷ q ∷ []) (D ⊗ D ⊗ D ⊗ D ⊕ H ⊗ H ⊗ (Δ ⊗ Δ)) (H ⊗ H ⊗ (D ⊗ D) ⊕ D ⊗ D ⊗ (Q ⊗ Q) ⊕ lit 70 ⊗ (E ⊗ D ⊗ D ⊗ D))
      (by (lit 8 ⊗ D ⊗ D ⊗ E ⊕ lit 2 ⊗ D ⊗ E ⊗ H) H (lit 4 ⊗ D) hη (
      by (lit 8 ⊗ D ⊗ D ⊗ E) (Mp ⊕ Mm) D hm (
      by (H ⊗ H) (Δ ⊗ Δ) (D2 ⊗ D ⊕ E ⊗ D) n1.1 (
      by (D ⊗ H ⊗ H) (Mp ⊕ D2) (D ⊕ Mm ⊕ E) n2.0 (
      by (D ⊗ Mp) (E2 ⊗ D) (H ⊗ H ⊕ E ⊗ lit 8 ⊗ D) n3.0 (
      by (D ⊗ Mm) (H ⊗ H) (E2 ⊗ D ⊕ E ⊗ lit 8 ⊗ D) n3.1 (
      by (D ⊗ D) (Πp ⊗ D ⊕ E2 ⊗ Mm) (Πm ⊗ D ⊕ E2 ⊗ Mp ⊕ E ⊗ lit 8 ⊗ D) n4.0 (
      by (D ⊗ D ⊗ D) (D ⊕ Πm) (K ⊕ Πp ⊕ E ⊗ lit 16) n5.1 (
      by (D ⊗ D) (K ⊗ D) (Q ⊗ Q ⊕ lit 6 ⊗ (E ⊗ D)) n6.1 done))))))))) tt,
)

-- its squared length is 1 within 4800 errors: from the square of η a - g b (v), g near η δ + q (j), η² (1 - δ²) + q² near 1 (s), δ near the exact dot product
-- (c) and the squared lengths of a and b near 1 (ha, hb)
pub bent_length : (d e η q dp dm gp gm cp cm nr na nb : ℕ) → 100000 * e ≤ d → η ≤ 4 * d → dp + dm ≤ d + 69 * e → gp + gm ≤ 5 * d + 2000 * e → q ≤ d + 1400 * e → dp * dm ≤ 0 → gp * gm ≤ 0 → Within (η * η * (d * d) + d * d * (q * q)) (d * d * d * d + η * η * (dp * dp + dm * dm)) (70 * (e * d * d * d)) → Within (d * gp + η * dm) (d * gm + η * dp + d * q) (8 * (e * d)) → Within (dp * d + cm) (dm * d + cp) (5 * (e * d)) → Within na (d * d) (64 * (e * d)) → Within nb (d * d) (64 * (e * d)) → Within (d * d * nr + 2 * (η * (gp * cp + gm * cm))) (η * η * na + (gp * gp + gm * gm) * nb + 2 * (η * (gp * cm + gm * cp))) (3 * (16 * (e * d) * (2 * (d * (11 * d)) + 16 * (e * d)))) → 0 < d * d
    → Within nr (d * d) (4800 * (e * d))
bent_length d e η q dp dm gp gm cp cm nr na nb small hη hd hg hq zd zg s j c ha hb v some = (
  le_of_mul-le-mul_right (cert (d ∷ e ∷ η ∷ 0 ∷ 0 ∷ 0 ∷ 0 ∷ 0 ∷ 0 ∷ 0 ∷ 0 ∷ q ∷ dp ∷ dm ∷ gp ∷ gm ∷ cp ∷ cm ∷ nr ∷ na ∷ nb ∷ []) (Nr ⊗ (D ⊗ D)) ((D ⊗ D ⊕ lit 4800 ⊗ (E ⊗ D)) ⊗ (D ⊗ D))
      (by (lit 14 ⊗ D ⊗ D ⊗ E ⊕ lit 2560 ⊗ D ⊗ E ⊗ E) (lit 100000 ⊗ E) D small (
      by (lit 256 ⊗ D ⊗ D ⊗ E ⊕ lit 10 ⊗ D ⊗ E ⊗ Gm ⊕ lit 10 ⊗ D ⊗ E ⊗ Gp ⊕ lit 64 ⊗ D ⊗ E ⊗ H) H (lit 4 ⊗ D) hη (
      by (lit 360 ⊗ D ⊗ D ⊗ E ⊕ lit 128000 ⊗ D ⊗ E ⊗ E ⊕ lit 64 ⊗ D ⊗ E ⊗ Gm ⊕ lit 64 ⊗ D ⊗ E ⊗ Gp) (Gp ⊕ Gm) (lit 5 ⊗ D ⊕ lit 2000 ⊗ E) hg (
      by (lit 16 ⊗ D ⊗ D ⊗ E) Q (D ⊕ lit 1400 ⊗ E) hq (
      by (lit 2 ⊗ H ⊗ H) (Dp ⊗ Dm) (lit 0) zd (
      by (lit 2 ⊗ D ⊗ D) (Gp ⊗ Gm) (lit 0) zg (
      by (lit 1) (H ⊗ H ⊗ (D ⊗ D) ⊕ D ⊗ D ⊗ (Q ⊗ Q)) (D ⊗ D ⊗ D ⊗ D ⊕ H ⊗ H ⊗ (Dp ⊗ Dp ⊕ Dm ⊗ Dm) ⊕ lit 70 ⊗ (E ⊗ D ⊗ D ⊗ D)) s.0 (
      by (lit 2 ⊗ D ⊗ Q) (D ⊗ Gp ⊕ H ⊗ Dm) (D ⊗ Gm ⊕ H ⊗ Dp ⊕ D ⊗ Q ⊕ lit 8 ⊗ (E ⊗ D)) j.0 (
      by (lit 2 ⊗ Gp ⊗ H) (Dp ⊗ D ⊕ Cm) (Dm ⊗ D ⊕ Cp ⊕ lit 5 ⊗ (E ⊗ D)) c.0 (
      by (lit 2 ⊗ Gm ⊗ H) (Dm ⊗ D ⊕ Cp) (Dp ⊗ D ⊕ Cm ⊕ lit 5 ⊗ (E ⊗ D)) c.1 (
      by (H ⊗ H) Na (D ⊗ D ⊕ lit 64 ⊗ (E ⊗ D)) ha.0 (
      by (Gm ⊗ Gm ⊕ Gp ⊗ Gp) Nb (D ⊗ D ⊕ lit 64 ⊗ (E ⊗ D)) hb.0 (
      by (lit 1) (D ⊗ D ⊗ Nr ⊕ lit 2 ⊗ (H ⊗ (Gp ⊗ Cp ⊕ Gm ⊗ Cm))) (H ⊗ H ⊗ Na ⊕ (Gp ⊗ Gp ⊕ Gm ⊗ Gm) ⊗ Nb ⊕ lit 2 ⊗ (H ⊗ (Gp ⊗ Cm ⊕ Gm ⊗ Cp)) ⊕ lit 3 ⊗ (lit 16 ⊗ (E ⊗ D) ⊗ (lit 2 ⊗ (D ⊗ (lit 11 ⊗ D)) ⊕ lit 16 ⊗ (E ⊗ D)))) v.0 (
      by (lit 1) ((D ⊗ Gp ⊕ H ⊗ Dm) ⊗ (D ⊗ Gp ⊕ H ⊗ Dm ⊕ lit 8 ⊗ (E ⊗ D)) ⊕ (D ⊗ Gm ⊕ H ⊗ Dp ⊕ D ⊗ Q ⊕ lit 8 ⊗ (E ⊗ D)) ⊗ (D ⊗ Gm ⊕ H ⊗ Dp ⊕ D ⊗ Q)) ((D ⊗ Gp ⊕ H ⊗ Dm) ⊗ (D ⊗ Gm ⊕ H ⊗ Dp ⊕ D ⊗ Q) ⊕ (D ⊗ Gm ⊕ H ⊗ Dp ⊕ D ⊗ Q ⊕ lit 8 ⊗ (E ⊗ D)) ⊗ (D ⊗ Gp ⊕ H ⊗ Dm ⊕ lit 8 ⊗ (E ⊗ D))) (cross (d * gp + η * dm) (d * gm + η * dp + d * q + 8 * (e * d)) (d * gm + η * dp + d * q) (d * gp + η * dm + 8 * (e * d)) j.0 j.1) done)))))))))))))) tt) some,
  le_of_mul-le-mul_right (cert (d ∷ e ∷ η ∷ 0 ∷ 0 ∷ 0 ∷ 0 ∷ 0 ∷ 0 ∷ 0 ∷ 0 ∷ q ∷ dp ∷ dm ∷ gp ∷ gm ∷ cp ∷ cm ∷ nr ∷ na ∷ nb ∷ []) (D ⊗ D ⊗ (D ⊗ D)) ((Nr ⊕ lit 4800 ⊗ (E ⊗ D)) ⊗ (D ⊗ D))
      (by (lit 14 ⊗ D ⊗ D ⊗ E ⊕ lit 2560 ⊗ D ⊗ E ⊗ E) (lit 100000 ⊗ E) D small (
      by (lit 256 ⊗ D ⊗ D ⊗ E ⊕ lit 10 ⊗ D ⊗ E ⊗ Gm ⊕ lit 10 ⊗ D ⊗ E ⊗ Gp ⊕ lit 64 ⊗ D ⊗ E ⊗ H) H (lit 4 ⊗ D) hη (
      by (lit 360 ⊗ D ⊗ D ⊗ E ⊕ lit 128000 ⊗ D ⊗ E ⊗ E ⊕ lit 64 ⊗ D ⊗ E ⊗ Gm ⊕ lit 64 ⊗ D ⊗ E ⊗ Gp) (Gp ⊕ Gm) (lit 5 ⊗ D ⊕ lit 2000 ⊗ E) hg (
      by (lit 16 ⊗ D ⊗ D ⊗ E) Q (D ⊕ lit 1400 ⊗ E) hq (
      by (lit 1) (D ⊗ D ⊗ D ⊗ D ⊕ H ⊗ H ⊗ (Dp ⊗ Dp ⊕ Dm ⊗ Dm)) (H ⊗ H ⊗ (D ⊗ D) ⊕ D ⊗ D ⊗ (Q ⊗ Q) ⊕ lit 70 ⊗ (E ⊗ D ⊗ D ⊗ D)) s.1 (
      by (lit 2 ⊗ D ⊗ Q) (D ⊗ Gm ⊕ H ⊗ Dp ⊕ D ⊗ Q) (D ⊗ Gp ⊕ H ⊗ Dm ⊕ lit 8 ⊗ (E ⊗ D)) j.1 (
      by (lit 2 ⊗ Gm ⊗ H) (Dp ⊗ D ⊕ Cm) (Dm ⊗ D ⊕ Cp ⊕ lit 5 ⊗ (E ⊗ D)) c.0 (
      by (lit 2 ⊗ Gp ⊗ H) (Dm ⊗ D ⊕ Cp) (Dp ⊗ D ⊕ Cm ⊕ lit 5 ⊗ (E ⊗ D)) c.1 (
      by (H ⊗ H) (D ⊗ D) (Na ⊕ lit 64 ⊗ (E ⊗ D)) ha.1 (
      by (Gm ⊗ Gm ⊕ Gp ⊗ Gp) (D ⊗ D) (Nb ⊕ lit 64 ⊗ (E ⊗ D)) hb.1 (
      by (lit 1) (H ⊗ H ⊗ Na ⊕ (Gp ⊗ Gp ⊕ Gm ⊗ Gm) ⊗ Nb ⊕ lit 2 ⊗ (H ⊗ (Gp ⊗ Cm ⊕ Gm ⊗ Cp))) (D ⊗ D ⊗ Nr ⊕ lit 2 ⊗ (H ⊗ (Gp ⊗ Cp ⊕ Gm ⊗ Cm)) ⊕ lit 3 ⊗ (lit 16 ⊗ (E ⊗ D) ⊗ (lit 2 ⊗ (D ⊗ (lit 11 ⊗ D)) ⊕ lit 16 ⊗ (E ⊗ D)))) v.1 (
      by (lit 1) ((D ⊗ Gp ⊕ H ⊗ Dm) ⊗ (D ⊗ Gm ⊕ H ⊗ Dp ⊕ D ⊗ Q) ⊕ (D ⊗ Gm ⊕ H ⊗ Dp ⊕ D ⊗ Q) ⊗ (D ⊗ Gp ⊕ H ⊗ Dm)) ((D ⊗ Gp ⊕ H ⊗ Dm) ⊗ (D ⊗ Gp ⊕ H ⊗ Dm) ⊕ (D ⊗ Gm ⊕ H ⊗ Dp ⊕ D ⊗ Q) ⊗ (D ⊗ Gm ⊕ H ⊗ Dp ⊕ D ⊗ Q)) (square (d * gp + η * dm) (d * gm + η * dp + d * q)) done)))))))))))) tt) some,
)
