-- `any_orthogonal_vector` of a finite vector is what specs/OrthogonalMeaning says: it only moves and negates components, so that nothing
-- rounds, and those that it keeps are not all zero. Assumes nothing.
use mathlib.Core.Path.{◌≡◌, refl, sym, subst}
use mathlib.Core.Bool.{Bool, true, false, not, cond}
use mathlib.Core.List.{[], ◌∷◌}
use Prim.Native.Nat.{ℕ, ◌*◌, ◌^◌, ◌≤◌, ◌<◌}
use native.Mathlib.Nat.{mul-pos, mul-le-mul}
use native.Mathlib.Omega.{arith}
use lib.Dec.{T, ltb→lt}
use lib.Pow.{pow_pos}
use lib.IntN.{ℤ, pos, neg_ℤ, ◌+ℤ◌, ◌*ℤ◌, neg_ℤ-neg_ℤ}
use lib.Ieee.{Float, nan, inf, fin, Format, binary32, of_bits, fits, neg, lt}
use lib.Ieee.Exact.{HasValue}
use lib.Ieee.Scale.{finite}
use Rattle.laws.specs.Exact.{negative, size_in, exact}
use Rattle.laws.proofs.values.SizeLaws.{value_of_size}
use Rattle.laws.proofs.values.ValueOrderLaws.{lt_is, not_lt_sizes}
use Rattle.laws.proofs.solvers.RingInt.{var, lit, ◌⊕◌, ◌⊗◌, ⊖◌, ringℤ}
use Rattle.scalar.specs.Sign.{abs}
use Rattle.scalar.proofs.floats.SignLaws.{abs_value}
use Rattle.vector.specs.declared.vec3.Vec3.{Vec3}
use Rattle.vector.specs.Vectors.{zer}
use Rattle.vector.specs.Orthogonal.{x_larger, cross_y, cross_x, any_orthogonal_vector}
use Rattle.vector.specs.OrthogonalMeaning.{ExactlyOrthogonal}
use Rattle.vector.specs.ExactVectors.{exact_dot, exact_square, F32Vec, FiniteVec}

abbrev E : Float → ℤ
E x = exact binary32 x

abbrev S : Float → ℕ
S x = size_in binary32 x

-- for each case of the test
by_test : (P : Vec3 → Type 0) (a : Vec3) → (T (x_larger a) → P (cross_y a)) → (T (not (x_larger a)) → P (cross_x a)) → P (any_orthogonal_vector a)
unfolding any_orthogonal_vector
by_test P a t f = go (x_larger a) t f
  where
    go : (b : Bool) → (T b → P (cross_y a)) → (T (not b) → P (cross_x a)) → P (cond b (cross_y a) (cross_x a))
    go true t f = t tt
    go false t f = f tt

-- ---- not zero: z is kept, and the larger one of x and y
square_neg : (x : Float) → S (neg x) * S (neg x) ≡ S x * S x
unfolding neg size_in
square_neg nan = refl
square_neg (inf s) = refl
square_neg (fin s m e) = refl

abbrev Sized : Float → Type 0
Sized x = HasValue (abs x) false (S x) (2 ^ 149)

sized : (x : Float) → T (fits binary32 x) → T (finite x) → Sized x
sized x f t = abs_value x (negative x) (S x) (2 ^ 149) (value_of_size binary32 x f t)

-- what the test says of the sizes x and y, and so of their squares
larger : (x y : Float) → Sized x → Sized y → T (lt (abs y) (abs x)) → 0 < S x * S x
larger x y h k t =
    let l = ltb→lt (S y) (S x) (subst T (lt_is (abs y) (abs x) false false (S y) (S x) (2 ^ 149) (pow_pos 149) k h) t) in
    let p : 0 < S x = omega arith in
    mul-pos p p

not_larger : (x y : Float) → Sized x → Sized y → T (not (lt (abs y) (abs x))) → S x * S x ≤ S y * S y
not_larger x y h k t = let l = not_lt_sizes (abs y) (abs x) (S y) (S x) (2 ^ 149) (pow_pos 149) k h t in mul-le-mul l l

never_zero : (a : Vec3) → F32Vec a → FiniteVec a → 0 < exact_square a → 0 < exact_square (any_orthogonal_vector a)
never_zero a v h n =
    let x = sized a.x v.f32_x h.finite_x in
    let y = sized a.y v.f32_y h.finite_y in
    by_test (λ (r : Vec3). 0 < exact_square r) a
    (λ t. omega (arith, larger a.x a.y x y t))
    (λ t. omega (arith, not_larger a.x a.y x y t, square_neg a.y))

-- ---- finite, and at a right angle

-- negation negates the exact value
exact_neg : (f : Format) (x : Float) → exact f (neg x) ≡ neg_ℤ (exact f x)
unfolding neg negative size_in
exact_neg f nan = refl
exact_neg f (inf true) = refl
exact_neg f (inf false) = refl
exact_neg f (fin true m e) = sym (neg_ℤ-neg_ℤ _)
exact_neg f (fin false m e) = refl

exact_zero : E zer ≡ pos 0
unfolding negative size_in of_bits
exact_zero = refl

finite_neg : (x : Float) → T (finite x) → T (finite (neg x))
unfolding neg
finite_neg (fin s m e) t = t
finite_neg nan t = elim t [ ]
finite_neg (inf _) t = elim t [ ]

finite_zero : T (finite zer)
unfolding of_bits
finite_zero = tt

-- (x, y, z) with (-z, 0, x), and with (0, z, -y)
with_y : (x y z : Float) → E x *ℤ E (neg z) +ℤ E y *ℤ E zer +ℤ E z *ℤ E x ≡ pos 0
with_y x y z =
    rw (exact_neg binary32 z, exact_zero)
    (ringℤ (E x ∷ E y ∷ E z ∷ []) (var 0 ⊗ ⊖ var 2 ⊕ var 1 ⊗ lit (pos 0) ⊕ var 2 ⊗ var 0) (lit (pos 0)) refl)

with_x : (x y z : Float) → E x *ℤ E zer +ℤ E y *ℤ E z +ℤ E z *ℤ E (neg y) ≡ pos 0
with_x x y z =
    rw (exact_neg binary32 y, exact_zero)
    (ringℤ (E x ∷ E y ∷ E z ∷ []) (var 0 ⊗ lit (pos 0) ⊕ var 1 ⊗ var 2 ⊕ var 2 ⊗ ⊖ var 1) (lit (pos 0)) refl)

pub any_orthogonal : (a : Vec3) → F32Vec a → FiniteVec a → ExactlyOrthogonal a (any_orthogonal_vector a)
any_orthogonal a v h = record {
  right_angle = by_test (λ (r : Vec3). exact_dot a r ≡ pos 0) a (λ t. with_y a.x a.y a.z) (λ t. with_x a.x a.y a.z);
  not_zero = never_zero a v h;
  finite_result =
      by_test FiniteVec a
      (λ t. record { finite_x = finite_neg a.z h.finite_z; finite_y = finite_zero; finite_z = h.finite_x })
      (λ t. record { finite_x = finite_zero; finite_y = h.finite_z; finite_z = finite_neg a.y h.finite_y });
}
