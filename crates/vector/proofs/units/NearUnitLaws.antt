-- A vector whose exact squared length is within 5000 rounding errors (2^-24 each) of 1: scaling leaves its direction as it is, and its computed squared length and length
-- lie between 0.99 and 1.01. Assumes nothing.
use mathlib.Core.Path.{◌≡◌, refl, sym, ap, ◌∙◌, subst}
use mathlib.Core.Bool.{false}
use Prim.Native.Nat.{ℕ, ◌*◌, ◌^◌, ◌≤◌, ◌<◌}
use native.Mathlib.Nat.{le_trans, le_of_eq, lt_of_lt_of_le, mul-le-mul_right}
use lib.Dec.{T, lit≤, lit<}
use lib.Pow.{pow_pos}
use lib.Ieee.{Float, binary32, of_bits}
use lib.Ieee.Bits.{of_bits-fits}
use lib.Ieee.Scale.{finite}
use Rattle.std.specs.Prelude.{Some}
use Rattle.laws.specs.Exact.{size_in}
use Rattle.laws.proofs.values.ValueLaws.{Value, value_finite}
use Rattle.laws.proofs.values.SizeLaws.{size_of_value}
use Rattle.laws.proofs.values.ValueOrderLaws.{le_of_sizes}
use Rattle.scalar.specs.Root.{root}
use Rattle.scalar.specs.RootMeaning.{NearestRoot, radicand}
use Rattle.scalar.proofs.roots.RootMeaningLaws.{root_means}
use Rattle.scalar.proofs.roots.RootOrderLaws.{root_from, root_to}
use Rattle.vector.specs.declared.vec3.Vec3.{Vec3}
use Rattle.vector.specs.Products.{length, length_squared}
use Rattle.vector.specs.DirectionOf.{direction_of}
use Rattle.vector.specs.ExactVectors.{F32Vec, UnitWithin}
use Rattle.vector.specs.NumericLaws.{AboutOne, HasDirection, Unscaled, Refused7Never}
use Rattle.vector.proofs.values.SignedVectors.{D, E, Exact, Reads, Norm, reads_finite}
use Rattle.vector.proofs.errors.SquaredLengthLaws.{squared_fits, squared_sign}
use Rattle.vector.proofs.units.UnitLaws.{unit_of, normalized_is, normalized_unit}
use Rattle.vector.proofs.kept.AboutOneKept.{kept}
use Rattle.vector.proofs.errors.LengthErrorLaws.{Long, length_near, long_bounds}

-- ---- the bounds' sizes
-- the floats next to 0.99 and 1.01
abbrev lower : Float
lower = of_bits binary32 0x3f7d70a4

abbrev upper : Float
upper = of_bits binary32 0x3f8147ae

lower_is : Value binary32 lower false (16609444 * 2 ^ 125)
unfolding of_bits
lower_is = (refl, refl)

upper_is : Value binary32 upper false (8472494 * 2 ^ 126)
unfolding of_bits
upper_is = (refl, refl)

module _ (u : Vec3) (a : Exact) (c : ℕ) (few : c ≤ 5000) (r : Reads u a) (near : Norm a (D * D) (c * (E * D))) where
  -- the squared length
  abbrev l : Float
  l = length_squared u

  long : Long a l c
  long = length_near u a c few r near

  within : (16772211 * E ≤ long.size) × (long.size ≤ 16782221 * E)
  within = long_bounds a l c few long

  number : T (finite l)
  number = value_finite l false long.size D long.has

  squared_about_one : AboutOne l
  squared_about_one = (
    le_of_sizes lower l (16609444 * 2 ^ 125) long.size D (pow_pos 149) lower_is long.has (le_trans (lit≤ tt) within.0),
    le_of_sizes l upper long.size (8472494 * 2 ^ 126) D (pow_pos 149) long.has upper_is (le_trans within.1 (lit≤ tt)),
  )

  -- its root
  size_is : size_in binary32 l ≡ long.size
  size_is = (size_of_value binary32 l false long.size long.has).0

  nearest : NearestRoot l (root l)
  nearest = root_means l (squared_fits u) number (squared_sign u) (subst (λ (n : ℕ). 0 < n) (sym size_is) (lt_of_lt_of_le (lit< tt) within.0))

  under_is : radicand l ≡ long.size * D
  under_is = ap (λ (n : ℕ). n * D) size_is

  pub about_one : AboutOne (length u)
  unfolding length length_squared
  about_one = (
    root_from l (root l) lower (16609444 * 2 ^ 125) nearest (of_bits-fits binary32 0x3f7d70a4) lower_is (le_trans (lit≤ tt) (le_trans (mul-le-mul_right D within.0) (le_of_eq (sym under_is)))),
    root_to l (root l) upper (8472494 * 2 ^ 126) nearest (of_bits-fits binary32 0x3f8147ae) upper_is (le_trans (le_of_eq under_is) (le_trans (mul-le-mul_right D within.1) (lit≤ tt))),
  )

  -- ---- its direction
  at_least : 7 * 2 ^ 146 ≤ size_in binary32 l
  at_least = le_trans (le_trans (lit≤ tt) within.0) (le_of_eq (sym size_is))

  at_most : size_in binary32 l ≤ 2 ^ 150
  at_most = le_trans (le_of_eq size_is) (le_trans within.1 (lit≤ tt))

  pub unscaled : F32Vec u → Unscaled u
  unscaled f = kept u f number at_least at_most

  enough : 2 ^ 23 ≤ size_in binary32 l
  enough = le_trans (lit≤ tt) at_least

  pub near_is : F32Vec u → direction_of u ≡ Some (unit_of u)
  near_is f = unscaled f ∙ normalized_is u f number enough

  pub near_unit : F32Vec u → UnitWithin 15 (unit_of u)
  near_unit f = normalized_unit u f number enough

  abbrev pub near_direction : F32Vec u → HasDirection u
  near_direction f = record { direction = unit_of u; is = near_is f; unit = near_unit f }

  pub never_refused : F32Vec u → Refused7Never u
  never_refused f = record { values = f; numbers = reads_finite u a r; squared_length = squared_about_one; direction = near_direction f; unscaled = unscaled f }
