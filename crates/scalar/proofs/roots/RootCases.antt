-- The root of a float by its parts. Assumes nothing.
use mathlib.Core.Path.{◌≡◌, refl, sym, ap, ◌∙◌, subst}
use mathlib.Core.Bool.{Bool, true, false, cond}
use Prim.Native.Nat.{ℕ, ◌*◌, ◌/◌, ◌^◌, ◌<◌}
use native.Mathlib.Nat.{lt_irrefl, mul-pos, mul-div_cancel}
use lib.Dec.{T, eqb, eqb→eq}
use lib.IntN.{ℤ, pos}
use lib.Pow.{pow_pos}
use lib.Ieee.{Float, nan, inf, fin, binary32, up, down, odd, is_nan}
use lib.Ieee.Exact.{HasValue}
use lib.Ieee.Fits.{down_pos}
use lib.Ieee.Positive.{first_pos}
use Rattle.laws.specs.Exact.{size_in}
use Rattle.scalar.specs.Root.{root, root_units}
use Rattle.scalar.proofs.floats.BitsLaws.{the_nan}
use Rattle.scalar.proofs.floats.PartsLaws.{value_of_parts}
use Rattle.scalar.proofs.floats.SignLaws.{nan_constant}

pub root_nan : (x : Float) → x ≡ nan → x ≡ root x
unfolding root
root_nan x e = e ∙ sym (ap root e)

pub root_of_nan : (x : Float) → is_nan x ≡ true → x ≡ root x
root_of_nan x h = root_nan x (the_nan x h)

pub root_inf : (x : Float) (s : Bool) → x ≡ inf s → s ≡ false → x ≡ root x
unfolding root
root_inf x s e h = let k : x ≡ inf false = e ∙ ap inf h in k ∙ sym (ap root k)

pub root_neg_inf : (x : Float) (s : Bool) → x ≡ inf s → s ≡ true → nan ≡ root x
unfolding root
root_neg_inf x s e h = let k : x ≡ inf true = e ∙ ap inf h in sym (ap root k)

pub root_zero : (x : Float) (s : Bool) (q k : ℕ) → x ≡ odd 24 s q k 149 → q ≡ 0 → x ≡ root x
unfolding root odd
root_zero x s q k e h = let z : x ≡ fin s 0 (pos 0) = e ∙ ap (λ (n : ℕ). odd 24 s n k 149) h in z ∙ sym (ap root z)

-- ---- a finite value that is not zero
pub some_significand : (t : Bool) (m : ℕ) (e : ℤ) (s : Bool) (N : ℕ) → 0 < N → HasValue (fin t m e) s N (2 ^ 149) → m ≡ 0 → ⊥
some_significand t m e s N h v z =
    let p : 0 < m * up e * 2 ^ 149 = subst (λ (n : ℕ). 0 < n) (sym v.1) (mul-pos h (down_pos e)) in
    lt_irrefl 0 (subst (λ (n : ℕ). 0 < n) z (first_pos m (up e) (first_pos (m * up e) (2 ^ 149) p)))

pub root_value : (x : Float) (s : Bool) (N : ℕ) → 0 < N → HasValue x s N (2 ^ 149) → root x ≡ cond s nan (root_units N)
unfolding root size_in
root_value nan s N h v = absurd v
root_value (inf t) s N h v = absurd v
root_value (fin t m e) s N h v =
    go (eqb m 0) (eqb→eq m 0)
    ∙ ap (λ (b : Bool). cond b nan (root_units (size_in binary32 (fin t m e)))) v.0
    ∙ ap (λ (n : ℕ). cond s nan (root_units n)) (ap (λ (n : ℕ). n / down e) v.1 ∙ mul-div_cancel N (down_pos e))
  where
    go : (b : Bool) → (T b → m ≡ 0)
        → cond b (fin t m e) (cond t nan (root_units (size_in binary32 (fin t m e)))) ≡ cond t nan (root_units (size_in binary32 (fin t m e)))
    go true f = absurd (some_significand t m e s N h v (f tt))
    go false f = refl

root_some : (x : Float) (s : Bool) (q k : ℕ) → x ≡ odd 24 s q k 149 → 0 < q → root x ≡ cond s nan (root_units (q * 2 ^ k))
root_some x s q k e h = root_value x s (q * 2 ^ k) (mul-pos h (pow_pos k)) (value_of_parts x s q k e)

pub root_negative : (x : Float) (s : Bool) (q k : ℕ) → x ≡ odd 24 s q k 149 → 0 < q → s ≡ true → nan ≡ root x
root_negative x s q k e h t = sym (root_some x s q k e h ∙ ap (λ (b : Bool). cond b nan (root_units (q * 2 ^ k))) t)

pub root_positive : (x : Float) (s : Bool) (q k : ℕ) → x ≡ odd 24 s q k 149 → 0 < q → s ≡ false → root_units (q * 2 ^ k) ≡ root x
root_positive x s q k e h t = sym (root_some x s q k e h ∙ ap (λ (b : Bool). cond b nan (root_units (q * 2 ^ k))) t)

-- what `other_root` of src/root.rt uses
pub ruleset root_cases = (nan_constant, root_nan, root_inf, root_neg_inf, root_zero, root_negative, root_positive)
