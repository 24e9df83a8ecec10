-- N: the computed squared length of a vector whose exact one is near 1, and that such a vector `is_normalized`. Assumes nothing.
use mathlib.Core.Path.{◌≡◌, refl, sym, subst}
use mathlib.Core.Bool.{true, false}
use Prim.Native.Nat.{ℕ, ◌+◌, ◌*◌, ◌^◌, ◌≤◌, ◌<◌}
use native.Mathlib.Nat.{le_trans, lt_of_le_of_lt}
use lib.Dec.{lit≤, lit<}
use lib.Pow.{pow_pos}
use lib.Ieee.{Float, binary32, of_bits, sub, le}
use lib.Ieee.Bits.{is_true}
use Rattle.laws.specs.Exact.{size_in}
use Rattle.laws.specs.Within.{distance, Within}
use Rattle.laws.proofs.values.ValueLaws.{Value, value_finite}
use Rattle.laws.proofs.values.SizeLaws.{size_of_value}
use Rattle.laws.proofs.values.ValueOrderLaws.{le_of_sizes}
use Rattle.laws.proofs.rounding.ErrorLaws.{rounded, under_rounded, rounded_whole}
use Rattle.laws.proofs.operations.DifferenceLaws.{distance_least, difference_at}
use Rattle.scalar.specs.Sign.{abs}
use Rattle.scalar.proofs.floats.SignLaws.{abs_value}
use Rattle.vector.specs.declared.vec3.Vec3.{Vec3}
use Rattle.vector.specs.Vectors.{one}
use Rattle.vector.specs.Products.{length_squared}
use Rattle.vector.specs.Normalizing.{tolerance, is_normalized}
use Rattle.vector.specs.ExactVectors.{UnitWithin}
use Rattle.vector.specs.NumericLaws.{ComputedNear, LawN}
use Rattle.vector.proofs.errors.SquaredLengthBounds.{whole_under}
use Rattle.vector.proofs.errors.SquaredLengthErrors.{squared_value}
use Rattle.vector.proofs.values.SignedVectors.{D, E, exact_of, reads_of, one_is}
use Rattle.vector.proofs.errors.LengthErrorLaws.{length_near}

-- ---- an exact squared length within c times 2^-24 of 1 is computed within c + 5
computed_near : (c : ℕ) → c ≤ 5000 → (a : Vec3) → UnitWithin c a → ComputedNear (c + 5) a
computed_near c h a u =
    let l = length_near a (exact_of a) c h (reads_of a u.values u.numbers) u.near in
    (value_finite (length_squared a) false l.size D l.has, subst (λ (n : ℕ). Within n D ((c + 5) * E)) (sym (size_of_value binary32 (length_squared a) false l.size l.has).0) l.close)

-- ---- the test: the tolerance is at least twice 69 times 2^-24
tolerance_value : Value binary32 tolerance false (size_in binary32 tolerance)
unfolding of_bits size_in
tolerance_value = (refl, refl)

tolerance_wide : 2 * (69 * E) ≤ size_in binary32 tolerance
unfolding of_bits size_in
tolerance_wide = lit≤ tt

-- the computed difference from 1 of a number within k smallest values of 1
difference_small : (l : Float) (L k : ℕ) → Value binary32 l false L → Within L D k → 2 * k < 2 ^ 277
    → Value binary32 (abs (sub binary32 l one)) false (rounded binary32 (distance L D) 1) × (rounded binary32 (distance L D) 1 ≤ 2 * k)
difference_small l L k h w m =
    let d = difference_at binary32 l one L D h one_is in
    let n = distance L D in
    let u : rounded binary32 n 1 ≤ 2 * k = whole_under (rounded binary32 n 1) n k (rounded_whole binary32 n) (distance_least L D k w) in
    (abs_value (sub binary32 l one) d.0 (rounded binary32 n 1) D (under_rounded binary32 (sub binary32 l one) d.0 n 1 d.1 (lt_of_le_of_lt u m)), u)

computed_normalized : (a : Vec3) → ComputedNear 69 a → is_normalized a ≡ true
unfolding is_normalized
computed_normalized a h =
    let l = length_squared a in
    let n = rounded binary32 (distance (size_in binary32 l) D) 1 in
    let d = difference_small l (size_in binary32 l) (69 * E) (squared_value a h.0) h.1 (lit< tt) in
    is_true (le (abs (sub binary32 l one)) tolerance)
    (le_of_sizes (abs (sub binary32 l one)) tolerance n (size_in binary32 tolerance) D (pow_pos 149) d.0 tolerance_value (le_trans d.1 tolerance_wide))

pub law_n : LawN
law_n = ((λ a u. computed_near 15 (lit≤ tt) a u), λ a u. computed_normalized a (computed_near 64 (lit≤ tt) a u))
