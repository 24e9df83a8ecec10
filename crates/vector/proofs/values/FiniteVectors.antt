-- Vectors that are finite because those that they are made of are: the lesser and the greater components, and whole numbers. Assumes nothing.
use lib.Dec.{T}
use lib.Ieee.{Float, lt}
use lib.Ieee.Scale.{finite}
use Rattle.laws.proofs.numbers.BoolLaws.{cond_any}
use Rattle.scalar.specs.Integral as Integral
use Rattle.scalar.proofs.floats.FitsLaws.{Fits32}
use Rattle.scalar.proofs.whole_numbers.IntegralMeaningLaws.{trunc_means, floor_means, round_means}
use Rattle.vector.specs.declared.vec3.Vec3.{Vec3}
use Rattle.vector.specs.Vectors.{each, both}
use Rattle.vector.specs.Elements.{gt, lesser, greater, min, max}
use Rattle.vector.specs.Rounding.{trunc, floor, round}
use Rattle.vector.specs.ExactVectors.{F32Vec, FiniteVec}

-- ---- component by component
each_finite :
    (f : Float → Float) → ((x : Float) → Fits32 x → T (finite x) → T (finite (f x))) → (a : Vec3) → F32Vec a → FiniteVec a → FiniteVec (each f a)
each_finite f h a v n =
    record { finite_x = h a.x v.f32_x n.finite_x; finite_y = h a.y v.f32_y n.finite_y; finite_z = h a.z v.f32_z n.finite_z }

both_finite :
    (f : Float → Float → Float) → ((x y : Float) → T (finite x) → T (finite y) → T (finite (f x y))) → (a b : Vec3) → FiniteVec a → FiniteVec b → FiniteVec (both f a b)
both_finite f h a b n m =
    record {
      finite_x = h a.x b.x n.finite_x m.finite_x;
      finite_y = h a.y b.y n.finite_y m.finite_y;
      finite_z = h a.z b.z n.finite_z m.finite_z;
    }

-- ---- one of two
one_finite : (x y : Float) → T (finite x) → T (finite y) → T (finite (lesser x y))
unfolding lesser
one_finite x y p q = cond_any (λ (z : Float). T (finite z)) (lt x y) x y p q

other_finite : (x y : Float) → T (finite x) → T (finite y) → T (finite (greater x y))
unfolding greater
other_finite x y p q = cond_any (λ (z : Float). T (finite z)) (gt x y) x y p q

pub min_finite : (a b : Vec3) → FiniteVec a → FiniteVec b → FiniteVec (min a b)
unfolding min
min_finite a b n m = both_finite lesser one_finite a b n m

pub max_finite : (a b : Vec3) → FiniteVec a → FiniteVec b → FiniteVec (max a b)
unfolding max
max_finite a b n m = both_finite greater other_finite a b n m

-- ---- whole numbers
pub trunc_finite : (a : Vec3) → F32Vec a → FiniteVec a → FiniteVec (trunc a)
unfolding trunc
trunc_finite a v n = each_finite Integral.trunc (λ x f t. (trunc_means x f t).whole.number) a v n

pub floor_finite : (a : Vec3) → F32Vec a → FiniteVec a → FiniteVec (floor a)
unfolding floor
floor_finite a v n = each_finite Integral.floor (λ x f t. (floor_means x f t).whole.number) a v n

pub round_finite : (a : Vec3) → F32Vec a → FiniteVec a → FiniteVec (round a)
unfolding round
round_finite a v n = each_finite Integral.round_even (λ x f t. (round_means x f t).whole.number) a v n
