-- Each operation of the kit as one rounding of n / d smallest values, `round f s n (d * 2 ^ low f)`: x is ±X and y is ±Y of them. Assumes nothing.
use mathlib.Core.Path.{◌≡◌, refl, sym, ap, ap₂, ◌∙◌}
use mathlib.Core.Bool.{Bool, true, false, not, cond}
use mathlib.Core.List.{[], ◌∷◌}
use Prim.Native.Nat.{ℕ, ◌+◌, ◌*◌, ◌^◌, ◌<◌}
use native.Mathlib.Nat.{lt_irrefl, mul-pos, mul_right_comm, one-mul}
use lib.Dec.{T, eqb, eqb→eq}
use lib.Pow.{pow_pos}
use lib.Ieee.{Float, nan, inf, fin, Format, low, up, down, unlike, round, sum, neg, add, sub, mul, div}
use lib.Ieee.Fits.{down_pos}
use lib.Ieee.Positive.{first_pos}
use lib.Ieee.Scale.{round_same}
use Rattle.laws.proofs.solvers.Ring.{var, ◌⊗◌}
use Rattle.laws.proofs.solvers.RingNat.{ring}
use Rattle.laws.proofs.values.ValueLaws.{Value}
use Rattle.laws.proofs.operations.SumSigns.{sum_like, unlike_self}
use Rattle.laws.proofs.operations.SumSame.{sum_same}

module _ (f : Format) where
  pub mul_at : (x y : Float) (s t : Bool) (X Y : ℕ) → Value f x s X → Value f y t Y → mul f x y ≡ round f (unlike s t) (X * Y) (2 ^ low f * 2 ^ low f)
  unfolding mul
  mul_at nan y s t X Y p q = absurd p
  mul_at (inf b) y s t X Y p q = absurd p
  mul_at (fin b m e) nan s t X Y p q = absurd q
  mul_at (fin b m e) (inf r) s t X Y p q = absurd q
  mul_at (fin b m e) (fin r n g) s t X Y p q =
      ap₂ (λ (v w : Bool). round f (unlike v w) (m * up e * (n * up g)) (down e * down g)) p.0 q.0
      ∙ round_same f (unlike s t) (m * up e * (n * up g)) (down e * down g) (X * Y) (2 ^ low f * 2 ^ low f) (mul-pos (down_pos e) (down_pos g)) (mul-pos (pow_pos (low f)) (pow_pos (low f)))
      (pairs (m * up e) (n * up g) (2 ^ low f) (2 ^ low f) ∙ ap₂ ◌*◌ p.1 q.1 ∙ sym (pairs X Y (down e) (down g)))
    where
      pairs : (a b c d : ℕ) → a * b * (c * d) ≡ a * c * (b * d)
      pairs a b c d = ring (a ∷ b ∷ c ∷ d ∷ []) (var 0 ⊗ var 1 ⊗ (var 2 ⊗ var 3)) (var 0 ⊗ var 2 ⊗ (var 1 ⊗ var 3)) refl

  pub div_at : (x y : Float) (s t : Bool) (X Y : ℕ) → Value f x s X → Value f y t Y → 0 < Y → div f x y ≡ round f (unlike s t) (X * 2 ^ low f) (Y * 2 ^ low f)
  unfolding div
  div_at nan y s t X Y p q h = absurd p
  div_at (inf b) y s t X Y p q h = absurd p
  div_at (fin b m e) nan s t X Y p q h = absurd q
  div_at (fin b m e) (inf d) s t X Y p q h = absurd q
  div_at (fin b m e) (fin d n g) s t X Y p q h =
      some (eqb n 0) (eqb→eq n 0)
      ∙ ap₂ (λ (v w : Bool). round f (unlike v w) (m * up e * down g) (n * up g * down e)) p.0 q.0
      ∙ round_same f (unlike s t) (m * up e * down g) (n * up g * down e) (X * 2 ^ low f) (Y * 2 ^ low f) divisor (mul-pos h (pow_pos (low f))) cross
    where
      positive : 0 < n * up g
      positive = first_pos (n * up g) (2 ^ low f) (subst_pos (sym q.1) (mul-pos h (down_pos g)))
        where
          subst_pos : {a b : ℕ} → a ≡ b → 0 < a → 0 < b
          subst_pos e k = rw (sym e) k

      divisor : 0 < n * up g * down e
      divisor = mul-pos positive (down_pos e)

      cross : m * up e * down g * (Y * 2 ^ low f) ≡ X * 2 ^ low f * (n * up g * down e)
      cross =
          ring (m * up e ∷ down g ∷ Y ∷ 2 ^ low f ∷ []) (var 0 ⊗ var 1 ⊗ (var 2 ⊗ var 3)) (var 0 ⊗ var 3 ⊗ (var 2 ⊗ var 1)) refl
          ∙ ap₂ ◌*◌ p.1 (sym q.1)
          ∙ ring (X ∷ down e ∷ n * up g ∷ 2 ^ low f ∷ []) (var 0 ⊗ var 1 ⊗ (var 2 ⊗ var 3)) (var 0 ⊗ var 3 ⊗ (var 2 ⊗ var 1)) refl

      some : (z : Bool) → (T z → n ≡ 0) → cond z (cond (eqb m 0) nan (inf (unlike b d))) (round f (unlike b d) (m * up e * down g) (n * up g * down e)) ≡ round f (unlike b d) (m * up e * down g) (n * up g * down e)
      some true k = absurd (lt_irrefl 0 (rw (sym (k tt)) (first_pos n (up g) positive)))
      some false k = refl

  pub add_at : (x y : Float) (s t : Bool) (X Y : ℕ) → Value f x s X → Value f y t Y → add f x y ≡ sum f s X t Y (2 ^ low f)
  unfolding add
  add_at nan y s t X Y p q = absurd p
  add_at (inf b) y s t X Y p q = absurd p
  add_at (fin b m e) nan s t X Y p q = absurd q
  add_at (fin b m e) (inf d) s t X Y p q = absurd q
  add_at (fin b m e) (fin d n g) s t X Y p q =
      sum_same f (m * up e * down g) (n * up g * down e) (down e * down g) X Y (2 ^ low f) (mul-pos (down_pos e) (down_pos g)) (pow_pos (low f)) first second b d
      ∙ ap₂ (λ (v w : Bool). sum f v X w Y (2 ^ low f)) p.0 q.0
    where
      first : m * up e * down g * 2 ^ low f ≡ X * (down e * down g)
      first = mul_right_comm (m * up e) (down g) (2 ^ low f) ∙ ap (λ (z : ℕ). z * down g) p.1 ∙ ring (X ∷ down e ∷ down g ∷ []) (var 0 ⊗ var 1 ⊗ var 2) (var 0 ⊗ (var 1 ⊗ var 2)) refl

      second : n * up g * down e * 2 ^ low f ≡ Y * (down e * down g)
      second = mul_right_comm (n * up g) (down e) (2 ^ low f) ∙ ap (λ (z : ℕ). z * down e) q.1 ∙ ring (Y ∷ down e ∷ down g ∷ []) (var 0 ⊗ var 2 ⊗ var 1) (var 0 ⊗ (var 1 ⊗ var 2)) refl

  -- two of one sign
  pub add_like_at : (x y : Float) (s : Bool) (X Y : ℕ) → Value f x s X → Value f y s Y → add f x y ≡ round f s (X + Y) (1 * 2 ^ low f)
  add_like_at x y s X Y p q = add_at x y s s X Y p q ∙ sum_like f s s X Y (2 ^ low f) (unlike_self s) ∙ ap (λ (u : ℕ). round f s (X + Y) u) (sym (one-mul (2 ^ low f)))

  pub neg_value : (y : Float) (t : Bool) (Y : ℕ) → Value f y t Y → Value f (neg y) (not t) Y
  unfolding neg
  neg_value nan t Y q = absurd q
  neg_value (inf d) t Y q = absurd q
  neg_value (fin d n g) t Y q = (ap not q.0, q.1)

  pub sub_at : (x y : Float) (s t : Bool) (X Y : ℕ) → Value f x s X → Value f y t Y → sub f x y ≡ sum f s X (not t) Y (2 ^ low f)
  unfolding sub
  sub_at x y s t X Y p q = add_at x (neg y) s (not t) X Y p (neg_value y t Y q)
