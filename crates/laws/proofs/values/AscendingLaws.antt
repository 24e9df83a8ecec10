-- Floats from zero up in their order, infinity being the last of them, by the fractions that they are. Assumes nothing.
use mathlib.Core.Path.{◌≡◌, refl, sym}
use mathlib.Core.Bool.{true, false, not, true≢false}
use Prim.Native.Nat.{ℕ, ◌*◌, ◌≤◌}
use native.Mathlib.Nat.{mul_assoc, mul-pos}
use native.Mathlib.Omega.{arith}
use lib.IntN.{ℤ}
use lib.Dec.{T}
use lib.Ieee.{Float, nan, inf, fin, up, down, le, is_nan}
use lib.Ieee.Fits.{down_pos}
use lib.Ieee.Order.{le_of_values}
use Rattle.laws.specs.Exact.{negative}
use Rattle.laws.proofs.values.ValueOrderLaws.{le_sizes}

-- x ≤ y, neither with the sign set
pub data Ascends : Float → Float → Type 0 where
  fractions : (m : ℕ) (e : ℤ) (n : ℕ) (d : ℤ) → m * up e * down d ≤ n * up d * down e → Ascends (fin false m e) (fin false n d)
  below_infinity : (m : ℕ) (e : ℤ) → Ascends (fin false m e) (inf false)
  infinities : Ascends (inf false) (inf false)

-- ---- this is `<=`
pub ascends : (x y : Float) → negative x ≡ false → negative y ≡ false → T (le x y) → Ascends x y
unfolding negative le
ascends nan y p q h = absurd h
ascends (inf true) y p q h = absurd (true≢false p)
ascends (inf false) nan p q h = absurd h
ascends (inf false) (inf true) p q h = absurd h
ascends (inf false) (inf false) p q h = infinities
ascends (inf false) (fin t n d) p q h = absurd h
ascends (fin true m e) y p q h = absurd (true≢false p)
ascends (fin false m e) nan p q h = absurd h
ascends (fin false m e) (inf true) p q h = absurd h
ascends (fin false m e) (inf false) p q h = below_infinity m e
ascends (fin false m e) (fin true n d) p q h = absurd (true≢false q)
ascends (fin false m e) (fin false n d) p q h =
    fractions m e n d
    (le_sizes (fin false m e) (fin false n d) (m * up e * down d) (n * up d * down e) (down e * down d) (mul-pos (down_pos e) (down_pos d))
    (refl, turned (m * up e) (down e) (down d)) (refl, sym (mul_assoc (n * up d) (down e) (down d))) h)
  where
    turned : (a p q : ℕ) → a * (p * q) ≡ a * q * p
    turned a p q = omega arith

pub ascends_le : {x y : Float} → Ascends x y → T (le x y)
unfolding le
ascends_le (fractions m e n d h) = le_of_values (fin false m e) (fin false n d) (m * up e) (down e) (n * up d) (down d) (down_pos e) (down_pos d) (refl, refl) (refl, refl) h
ascends_le (below_infinity m e) = tt
ascends_le infinities = tt

-- ---- infinity is the last
pub to_infinity : (x : Float) → negative x ≡ false → T (not (is_nan x)) → Ascends x (inf false)
unfolding negative is_nan
to_infinity nan p n = absurd n
to_infinity (inf true) p n = absurd (true≢false p)
to_infinity (inf false) p n = infinities
to_infinity (fin true m e) p n = absurd (true≢false p)
to_infinity (fin false m e) p n = below_infinity m e
