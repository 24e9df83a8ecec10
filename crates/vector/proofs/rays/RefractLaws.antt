-- R: a direction refracted in another, by a ratio from 0.25 to 4 and where k is not below zero, has a direction. Assumes nothing.
use mathlib.Core.Path.{◌≡◌, refl, sym, ap, subst}
use mathlib.Core.Bool.{Bool, false, cond}
use Prim.Native.Nat.{ℕ, ◌*◌, ◌^◌, ◌≤◌}
use lib.Dec.{T, lit≤}
use lib.Pow.{pow_pos}
use lib.Ieee.{Float, binary32, fits, of_bits, lt, le}
use lib.Ieee.Bits.{is_true}
use lib.Ieee.Scale.{finite}
use Rattle.std.proofs.lemmas.Float.{le_of_not-lt, T_from_false}
use Rattle.laws.specs.Exact.{negative, size_in}
use Rattle.laws.proofs.values.ValueLaws.{Value, value_finite}
use Rattle.laws.proofs.values.FiniteLaws.{between_finite, finite_number}
use Rattle.laws.proofs.values.SizeLaws.{value_of_size}
use Rattle.laws.proofs.values.ValueOrderLaws.{le_sizes, not_below_zero, above_zero}
use Rattle.vector.specs.declared.vec3.Vec3.{Vec3}
use Rattle.vector.specs.Vectors.{zer, ZERO}
use Rattle.vector.specs.Operators.{number_mul}
use Rattle.vector.specs.Products.{dot}
use Rattle.vector.specs.Optics.{refract, refract_k}
use Rattle.vector.specs.ExactVectors.{F32Vec, Direction}
use Rattle.vector.specs.NumericLaws.{quarter, four, LawR, Refused7Never}
use Rattle.vector.proofs.values.SignedVectors.{D, exact_of, reads_of}
use Rattle.vector.proofs.rays.RefractRoundings.{Number, g_of, bent_of, k_number, refracted, refracted_reads, refracted_norm}
use Rattle.vector.proofs.values.VectorFits.{difference_vector}
use Rattle.vector.proofs.units.NearUnitLaws.{never_refused}

-- ---- 0, 0.25 and 4
zero_is : Value binary32 zer false 0
unfolding of_bits
zero_is = (refl, refl)

quarter_is : Value binary32 quarter false (2 ^ 147)
unfolding of_bits
quarter_is = (refl, refl)

four_is : Value binary32 four false (4 * D)
unfolding of_bits
four_is = (refl, refl)

-- ---- a finite number that is not below zero is zero or more
pub zero_le : (x : Float) → T (finite x) → lt x zer ≡ false → T (le zer x)
zero_le x t h = le_of_not-lt x zer (finite_number x t) (finite_number zer (value_finite zer false 0 D zero_is)) (T_from_false (lt x zer) h)

-- ---- where k is not below zero
bent_is : (a b : Vec3) (u : Float) → T (le zer (refract_k a b u)) → bent_of a b u ≡ refract a b u
unfolding refract refract_k
bent_is a b u t = sym (ap (λ (c : Bool). cond c (bent_of a b u) ZERO) (is_true (le zer (refract_k a b u)) t))

bent_values : (a b : Vec3) (u : Float) → F32Vec (bent_of a b u)
bent_values a b u = difference_vector (number_mul u a) (number_mul (g_of u (dot b a)) b)

module _ (a b : Vec3) (u : Float) (da : Direction a) (db : Direction b) (fit : T (fits binary32 u)) (low : T (le quarter u)) (high : T (le u four)) where
  H : ℕ
  H = size_in binary32 u

  u_finite : Value binary32 u (negative u) H
  unfolding H
  u_finite =
      value_of_size binary32 u fit
      (between_finite u quarter four (value_finite quarter false (2 ^ 147) D quarter_is) (value_finite four false (4 * D) D four_is) low high)

  u_is : Value binary32 u false H
  u_is = subst (λ (s : Bool). Value binary32 u s H) (above_zero u quarter (negative u) H (2 ^ 147) D (pow_pos 149) (pow_pos 147) quarter_is u_finite low) u_finite

  u_le : H ≤ 4 * D
  u_le = le_sizes u four H (4 * D) D (pow_pos 149) u_is four_is high

  k : Number (refract_k a b u)
  k = k_number a b (exact_of a) (exact_of b) (reads_of a da.values da.numbers) (reads_of b db.values db.numbers) da.near db.near u H u_is u_le

  -- so the test of refusal 8 tells which k are zero or more
  pub k_from_test : lt (refract_k a b u) zer ≡ false → T (le zer (refract_k a b u))
  k_from_test h = zero_le (refract_k a b u) (value_finite (refract_k a b u) k.sign k.size D k.has) h

  refracted_direction : T (le zer (refract_k a b u)) → Refused7Never (refract a b u)
  refracted_direction free =
      let ra = reads_of a da.values da.numbers in
      let rb = reads_of b db.values db.numbers in
      let nk = not_below_zero (refract_k a b u) zer k.sign k.size D (pow_pos 149) zero_is k.has free in
      subst (λ (v : Vec3). Refused7Never v) (bent_is a b u free)
      (never_refused (bent_of a b u) (refracted a b (exact_of a) (exact_of b) ra rb da.near db.near u H u_is u_le k.sign k.size k.has nk) 4800 (lit≤ tt)
      (refracted_reads a b (exact_of a) (exact_of b) ra rb da.near db.near u H u_is u_le k.sign k.size k.has nk)
      (refracted_norm a b (exact_of a) (exact_of b) ra rb da.near db.near u H u_is u_le k.sign k.size k.has nk) (bent_values a b u))

pub law_r : LawR
law_r a b u da db fit low high free = refracted_direction a b u da db fit low high free
