-- The fused multiply-add of finite values, as a sum of whole numbers of 2 ^ -426. Assumes nothing.
use mathlib.Core.Path.{◌≡◌, refl, ap, ap₂, ◌∙◌}
use mathlib.Core.Bool.{Bool}
use mathlib.Core.List.{[], ◌∷◌}
use Prim.Native.Nat.{ℕ, ◌*◌, ◌^◌}
use native.Mathlib.Nat.{mul-pos}
use lib.Pow.{pow_pos}
use lib.Ieee.{Float, nan, inf, fin, binary32, up, down, unlike, sum}
use lib.Ieee.Exact.{HasValue}
use lib.Ieee.Fits.{down_pos}
use Rattle.laws.proofs.solvers.Ring.{var, lit, ◌⊗◌}
use Rattle.laws.proofs.solvers.RingNat.{ring}
use Rattle.laws.proofs.operations.SumSame.{sum_same}
use Rattle.scalar.specs.Fused.{fused_multiply_add}

pub fused_at : (x y z : Float) (s t u : Bool) (p q r : ℕ) → HasValue x s p (2 ^ 149) → HasValue y t q (2 ^ 149) → HasValue z u r (2 ^ 149)
    → fused_multiply_add x y z ≡ sum binary32 (unlike s t) (p * q * 2 ^ 128) u (r * 2 ^ 277) (2 ^ 426)
unfolding fused_multiply_add
fused_at nan y z s t u p q r h k l = absurd h
fused_at (inf a) y z s t u p q r h k l = absurd h
fused_at (fin a m e) nan z s t u p q r h k l = absurd k
fused_at (fin a m e) (inf b) z s t u p q r h k l = absurd k
fused_at (fin a m e) (fin b n d) nan s t u p q r h k l = absurd l
fused_at (fin a m e) (fin b n d) (inf c) s t u p q r h k l = absurd l
fused_at (fin a m e) (fin b n d) (fin c w g) s t u p q r h k l =
    sum_same binary32 (m * up e * (n * up d) * down g) (w * up g * (down e * down d)) (down e * down d * down g) (p * q * 2 ^ 128) (r * 2 ^ 277) (2 ^ 426)
    (mul-pos (mul-pos (down_pos e) (down_pos d)) (down_pos g)) (pow_pos 426) product term (unlike a b) c
    ∙ (λ i. sum binary32 (unlike (h.0 i) (k.0 i)) (p * q * 2 ^ 128) (l.0 i) (r * 2 ^ 277) (2 ^ 426))
  where
    product : m * up e * (n * up d) * down g * 2 ^ 426 ≡ p * q * 2 ^ 128 * (down e * down d * down g)
    product =
        ring (m * up e ∷ n * up d ∷ down g ∷ []) (var 0 ⊗ var 1 ⊗ var 2 ⊗ lit (2 ^ 426)) (var 0 ⊗ lit (2 ^ 149) ⊗ (var 1 ⊗ lit (2 ^ 149)) ⊗ var 2 ⊗ lit (2 ^ 128)) refl
        ∙ ap₂ (λ (x y : ℕ). x * y * down g * 2 ^ 128) h.1 k.1
        ∙ ring (p ∷ q ∷ down e ∷ down d ∷ down g ∷ []) (var 0 ⊗ var 2 ⊗ (var 1 ⊗ var 3) ⊗ var 4 ⊗ lit (2 ^ 128)) (var 0 ⊗ var 1 ⊗ lit (2 ^ 128) ⊗ (var 2 ⊗ var 3 ⊗ var 4)) refl

    term : w * up g * (down e * down d) * 2 ^ 426 ≡ r * 2 ^ 277 * (down e * down d * down g)
    term =
        ring (w * up g ∷ down e ∷ down d ∷ []) (var 0 ⊗ (var 1 ⊗ var 2) ⊗ lit (2 ^ 426)) (var 0 ⊗ lit (2 ^ 149) ⊗ (var 1 ⊗ var 2) ⊗ lit (2 ^ 277)) refl
        ∙ ap (λ (x : ℕ). x * (down e * down d) * 2 ^ 277) l.1
        ∙ ring (r ∷ down e ∷ down d ∷ down g ∷ []) (var 0 ⊗ var 3 ⊗ (var 1 ⊗ var 2) ⊗ lit (2 ^ 277)) (var 0 ⊗ lit (2 ^ 277) ⊗ (var 1 ⊗ var 2 ⊗ var 3)) refl
