-- The root keeps the order of the f32 numbers from zero up, infinity being the last of them. Of the root nothing is used but what it means (RootMeaning) and its
-- rule for zero and infinity. Assumes nothing.
use mathlib.Core.Path.{◌≡◌, refl}
use mathlib.Core.Bool.{false}
use Prim.Native.Nat.{ℕ, zero, suc, ◌+◌, ◌*◌, ◌^◌, ◌<◌}
use native.Mathlib.Nat.{mul-pos}
use native.Mathlib.Omega.{arith}
use lib.IntN.{ℤ}
use lib.Dec.{T, lt→ltb}
use lib.Pow.{pow_pos}
use lib.Ieee.{Float, fin, binary32, fits}
use lib.Ieee.Scale.{finite}
use Rattle.laws.specs.Exact.{negative, size_in}
use Rattle.laws.proofs.values.FiniteLaws.{finite_number}
use Rattle.laws.proofs.values.SizeLaws.{zero_size, unsigned_value}
use Rattle.laws.proofs.values.ValueOrderLaws.{le_sizes, le_of_sizes}
use Rattle.laws.proofs.values.AscendingLaws.{Ascends, fractions, below_infinity, infinities, ascends, ascends_le, to_infinity}
use Rattle.scalar.specs.Root.{root}
use Rattle.scalar.specs.RootMeaning.{NearestRoot}
use Rattle.scalar.proofs.roots.RootMeaningLaws.{positive_root}
use Rattle.scalar.proofs.roots.RootOrderLaws.{nearest_order, nearest_value}

-- ---- zero is nearest to the root of zero
zero_nearest : (z : Float) → T (fits binary32 z) → T (finite z) → negative z ≡ false → size_in binary32 z ≡ 0 → NearestRoot z z
zero_nearest z F N P S = record {
  value = F;
  number = N;
  sign = P;
  lower = λ y G l. absurd (none (size_in binary32 y) (size_in binary32 z) S l);
  upper = λ y G l. rw S (some (size_in binary32 y) (rw S at l));
}
  where
    none : (y z : ℕ) → z ≡ 0 → y < z → ⊥
    none y z e h = omega arith

    some : (y : ℕ) → 0 < y → 0 < (0 + y) * (0 + y)
    some y h = omega (arith, mul-pos h h)

-- ---- so every finite f32 from zero up has its nearest root
nearest : (m : ℕ) (e : ℤ) → T (fits binary32 (fin false m e)) → NearestRoot (fin false m e) (root (fin false m e))
unfolding root negative
nearest zero e F = zero_nearest (fin false zero e) F tt refl (zero_size binary32 false e)
nearest (suc m) e F = positive_root (fin false (suc m) e) F (lt→ltb 0 (suc m) (omega arith))

pub root_ascends : {x y : Float} → T (fits binary32 x) → T (fits binary32 y) → Ascends x y → Ascends (root x) (root y)
unfolding root negative
root_ascends F G (fractions m e n d h) =
    let x = fin false m e in
    let y = fin false n d in
    let p = nearest m e F in
    let q = nearest n d G in
    let sizes = le_sizes x y (size_in binary32 x) (size_in binary32 y) (2 ^ 149) (pow_pos 149) (unsigned_value binary32 x F tt refl) (unsigned_value binary32 y G tt refl) (ascends_le (fractions m e n d h)) in
    ascends (root x) (root y) p.sign q.sign
    (le_of_sizes (root x) (root y) (size_in binary32 (root x)) (size_in binary32 (root y)) (2 ^ 149) (pow_pos 149) (nearest_value x (root x) p) (nearest_value y (root y) q)
    (nearest_order x y (root x) (root y) p q sizes))
root_ascends F G (below_infinity m e) = let p = nearest m e F in to_infinity (root (fin false m e)) p.sign (finite_number (root (fin false m e)) p.number)
root_ascends F G infinities = infinities
