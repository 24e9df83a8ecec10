-- The reciprocal of the root of an f32 above zero, in sizes: how far its rounding goes. Assumes nothing.
use mathlib.Core.Path.{◌≡◌, sym, subst}
use mathlib.Core.Bool.{false}
use Prim.Native.Nat.{ℕ, ◌*◌, ◌^◌, ◌<◌}
use native.Mathlib.Nat.{le_trans, lt_of_lt_of_le, mul-le-mul_left}
use lib.Dec.{T, lit≤}
use lib.Pow.{pow_pos}
use lib.Ieee.{Float, binary32, fits, round, div}
use lib.Ieee.Positive.{positive, positive-finite}
use Rattle.laws.specs.Exact.{size_in}
use Rattle.laws.specs.Within.{Within}
use Rattle.laws.proofs.values.ValueLaws.{Value}
use Rattle.laws.proofs.values.SizeLaws.{size_of_value}
use Rattle.laws.proofs.operations.OperationLaws.{div_at}
use Rattle.laws.proofs.rounding.ErrorLaws.{rounded, finite_rounded, rounded_relative}
use Rattle.scalar.specs.Root.{root}
use Rattle.vector.specs.Vectors.{one}
use Rattle.vector.proofs.values.SignedVectors.{D, one_is}
use Rattle.vector.proofs.errors.ReciprocalLaws.{root_least, root_most, root_value, recip_root_positive}

module _ (x : Float) (F : T (fits binary32 x)) (p : T (positive x)) where
  root_pos : 0 < size_in binary32 (root x)
  root_pos = lt_of_lt_of_le (pow_pos 74) (root_least x F p)

  -- 1 / M, in smallest values
  abbrev M : ℕ
  M = size_in binary32 (root x)

  rounds : div binary32 one (root x) ≡ round binary32 false (D * D) (M * D)
  rounds = div_at binary32 one (root x) false false D M one_is (root_value x F p) root_pos

  value : Value binary32 (div binary32 one (root x)) false (rounded binary32 (D * D) M)
  value = finite_rounded binary32 (div binary32 one (root x)) false (D * D) M rounds (positive-finite (div binary32 one (root x)) (recip_root_positive x F p))

  size : size_in binary32 (div binary32 one (root x)) ≡ rounded binary32 (D * D) M
  size = (size_of_value binary32 (div binary32 one (root x)) false (rounded binary32 (D * D) M) value).0

  pub recip_value : Value binary32 (div binary32 one (root x)) false (size_in binary32 (div binary32 one (root x)))
  recip_value = subst (λ (n : ℕ). Value binary32 (div binary32 one (root x)) false n) (sym size) value

  pub recip_near : Within (size_in binary32 (div binary32 one (root x)) * M * 2 ^ 24) (D * D * 2 ^ 24) (D * D)
  recip_near =
      subst (λ (n : ℕ). Within (n * M * 2 ^ 24) (D * D * 2 ^ 24) (D * D)) (sym size)
      (rounded_relative binary32 (D * D) M root_pos (le_trans (mul-le-mul_left (2 ^ 23) (root_most x F p)) (lit≤ tt)))
