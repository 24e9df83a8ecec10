-- The reciprocal of the root of an f32 that is not negative: finite and above zero exactly where the f32 is. Assumes nothing.
use mathlib.Core.Path.{◌≡◌, refl, sym, ap, ◌∙◌}
use mathlib.Core.Bool.{true, false, not, true≢false}
use Prim.Native.Nat.{ℕ, zero, suc, ◌*◌, ◌^◌, ◌≤◌, ◌<◌}
use native.Mathlib.Nat.{le_trans, le_of_eq, le_of_lt, lt_of_lt_of_le, mul-le-mul_right, le_of_mul-le-mul_right, mul_right_comm, mul_assoc, mul_comm, mul-pos}
use native.Mathlib.Omega.{arith}
use lib.Dec.{T, ltb, ltb→lt, lt→ltb, lit≤, lit<}
use lib.Pow.{pow_pos}
use lib.Ieee.{Float, nan, inf, fin, binary32, up, down, fits, of_bits, round, div, lt}
use lib.Ieee.Bits.{is_true, of_bits-fits}
use lib.Ieee.Fits.{up_pos}
use lib.Ieee.Order.{round_mono}
use lib.Ieee.Positive.{positive, positive-finite, positive_of_value, between}
use Rattle.laws.specs.Exact.{negative, size_in}
use Rattle.laws.proofs.numbers.BoolLaws.{not_zero}
use Rattle.laws.proofs.values.ValueLaws.{Value}
use Rattle.laws.proofs.values.SizeLaws.{positive_size, size_below}
use Rattle.scalar.specs.Root.{root}
use Rattle.scalar.specs.RootMeaning.{NearestRoot}
use Rattle.scalar.proofs.roots.RootMeaningLaws.{positive_root}
use Rattle.scalar.proofs.roots.RootOrderLaws.{root_at_least, root_at_most, nearest_value}
use Rattle.vector.specs.Vectors.{one}
use Rattle.vector.specs.Normalizing.{usable}
use Rattle.vector.specs.NormalizingMeaning.{zero_infinite_or_nan}

-- ---- u / v is N / D: bounds of N are bounds of u and v
u_most : (u v N D E : ℕ) → 0 < D → u * D ≡ N * v → N ≤ E * D → u ≤ E * v
u_most u v N D E p e h = le_of_mul-le-mul_right (le_trans (le_of_eq e) (le_trans (mul-le-mul_right v h) (le_of_eq (mul_right_comm E D v)))) p

v_most : (u v N D E F : ℕ) → 0 < E → u * D ≡ N * v → E ≤ N → D ≡ F * E → v ≤ u * F
v_most u v N D E F p e h k =
    le_of_mul-le-mul_right (le_trans (le_of_eq (mul_comm v E)) (le_trans (mul-le-mul_right v h) (le_of_eq (sym e ∙ ap (λ (d : ℕ). u * d) k ∙ sym (mul_assoc u F E))))) p

-- ---- 1 / y, for a y between 2 ^ -75 and 2 ^ 64: it lies between 2 ^ -64 and 2 ^ 75
lowest : T (positive (round binary32 false 1 (2 ^ 64)))
unfolding round
lowest = tt

highest : T (positive (round binary32 false (2 ^ 75) 1))
unfolding round
highest = tt

rounded_positive : (a c : ℕ) → 0 < c → 1 * c ≤ a * 2 ^ 64 → a * 1 ≤ 2 ^ 75 * c → T (positive (round binary32 false a c))
rounded_positive a c p h k =
    between (round binary32 false 1 (2 ^ 64)) (round binary32 false a c) (round binary32 false (2 ^ 75) 1) lowest highest
    (round_mono binary32 1 (2 ^ 64) a c (pow_pos 64) p h)
    (round_mono binary32 a c (2 ^ 75) 1 p (lit< tt) k)

recip_positive : (y : Float) (N : ℕ) → Value binary32 y false N → 2 ^ 74 ≤ N → N ≤ 2 ^ 213 → T (positive (div binary32 one y))
unfolding div of_bits
recip_positive nan N v h k = absurd v
recip_positive (inf s) N v h k = absurd v
recip_positive (fin true n d) N v h k = absurd (true≢false v.0)
recip_positive (fin false n d) N v h k =
    let some : 0 < n = ltb→lt 0 n (positive_of_value (fin false n d) N (2 ^ 149) v (lt_of_lt_of_le (pow_pos 74) h)) in
    rw (not_zero n some)
    (rounded_positive (1 * down d) (n * up d * 1) (mul-pos (mul-pos some (up_pos d)) (lit< tt))
    (omega (arith, u_most (n * up d) (down d) N (2 ^ 149) (2 ^ 64) (pow_pos 149) v.1 k))
    (omega (arith, v_most (n * up d) (down d) N (2 ^ 149) (2 ^ 74) (2 ^ 75) (pow_pos 74) v.1 h refl)))

-- ---- the root of an f32 above zero is such a y
-- 2 ^ -75 and 2 ^ 64
abbrev least : Float
least = of_bits binary32 0x1a000000

abbrev most : Float
most = of_bits binary32 0x5f800000

least_is : Value binary32 least false (2 ^ 74)
unfolding of_bits
least_is = (refl, refl)

most_is : Value binary32 most false (2 ^ 213)
unfolding of_bits
most_is = (refl, refl)

module _ (x : Float) (F : T (fits binary32 x)) (p : T (positive x)) where
  nearest : NearestRoot x (root x)
  nearest = positive_root x F p

  pub root_least : 2 ^ 74 ≤ size_in binary32 (root x)
  root_least = root_at_least x (root x) least (2 ^ 74) nearest (of_bits-fits binary32 0x1a000000) least_is (le_trans (lit≤ tt) (mul-le-mul_right (2 ^ 149) (positive_size binary32 x F p)))

  pub root_most : size_in binary32 (root x) ≤ 2 ^ 213
  root_most = root_at_most x (root x) most (2 ^ 213) nearest (of_bits-fits binary32 0x5f800000) most_is (le_trans (mul-le-mul_right (2 ^ 149) (le_of_lt (size_below binary32 x F (positive-finite x p)))) (lit≤ tt))

  pub root_value : Value binary32 (root x) false (size_in binary32 (root x))
  root_value = nearest_value x (root x) nearest

  pub recip_root_positive : T (positive (div binary32 one (root x)))
  recip_root_positive = recip_positive (root x) (size_in binary32 (root x)) root_value root_least root_most

-- ---- and so it is usable
positive_usable : (y : Float) → T (positive y) → usable y ≡ true
unfolding usable lt of_bits
positive_usable nan p = absurd p
positive_usable (inf s) p = absurd p
positive_usable (fin true n d) p = absurd p
positive_usable (fin false n d) p = is_true (ltb (0 * down d) (n * up d * 1)) (lt→ltb (0 * down d) (n * up d * 1) (omega (arith, mul-pos (ltb→lt 0 n p) (up_pos d))))

pub usable_exactly : (l : Float) → T (fits binary32 l) → negative l ≡ false → usable (div binary32 one (root l)) ≡ not (zero_infinite_or_nan l)
unfolding usable root div lt of_bits negative
usable_exactly nan F P = refl
usable_exactly (inf true) F P = absurd (true≢false P)
usable_exactly (inf false) F P = refl
usable_exactly (fin true m e) F P = absurd (true≢false P)
usable_exactly (fin false zero e) F P = refl
usable_exactly (fin false (suc m) e) F P =
    positive_usable (div binary32 one (root (fin false (suc m) e))) (recip_root_positive (fin false (suc m) e) F (lt→ltb 0 (suc m) (omega arith)))
    ∙ sym (ap not (not_zero (suc m) (omega arith)))
