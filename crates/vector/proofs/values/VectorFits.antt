-- The vector functions give vectors of binary32 values. Assumes nothing.
use mathlib.Core.Bool.{◌||◌}
use lib.Ieee as Ieee
use lib.Ieee.{Float, binary32, lt, le}
use lib.Ieee.Fits.{cond-fits, add-fits, sub-fits, mul-fits, neg-fits}
use lib.Ieee.Bits.{of_bits-fits}
use Rattle.laws.proofs.numbers.BoolLaws.{cond_any}
use Rattle.scalar.specs.Sign.{abs}
use Rattle.scalar.specs.Integral as Integral
use Rattle.scalar.specs.Euclid as Euclid
use Rattle.scalar.proofs.floats.FitsLaws.{Fits32, fused_fits, integral_fits, div_euclid_fits, rem_euclid_fits}
use Rattle.vector.specs.declared.vec3.Vec3.{Vec3}
use Rattle.vector.specs.Vectors.{ZERO, zer, each, both}
use Rattle.vector.specs.Operators.{add, sub, mul_number, div_number, number_mul}
use Rattle.vector.specs.Elements.{gt, lesser, greater, min, max}
use Rattle.vector.specs.Products.{dot, cross, length, length_squared, length_recip}
use Rattle.vector.specs.Projections.{other_len_sq_rcp, project_onto, reject_from, project_onto_normalized, reject_from_normalized}
use Rattle.vector.specs.LengthClamps.{clamp_length}
use Rattle.vector.specs.Interpolation.{half, arrived, lerp, move_towards, midpoint, mul_add}
use Rattle.vector.specs.Rounding.{trunc, floor, round, div_euclid, rem_euclid}
use Rattle.vector.specs.Scaled.{scaled}
use Rattle.vector.specs.DirectionOf.{direction_unchecked}
use Rattle.vector.specs.Optics.{reflect, refract, refract_k}
use Rattle.vector.specs.Orthogonal.{any_orthogonal_vector}
use Rattle.vector.specs.ExactVectors.{F32Vec}

each_fits : (f : Float → Float) → ((x : Float) → Fits32 (f x)) → (a : Vec3) → F32Vec (each f a)
each_fits f h a = record { f32_x = h a.x; f32_y = h a.y; f32_z = h a.z }

both_fits : (f : Float → Float → Float) → ((x y : Float) → Fits32 (f x y)) → (a b : Vec3) → F32Vec (both f a b)
both_fits f h a b = record { f32_x = h a.x b.x; f32_y = h a.y b.y; f32_z = h a.z b.z }

-- a function that gives values of binary32 for such values
kept_fits :
    (f : Float → Float → Float) → ((x y : Float) → Fits32 x → Fits32 y → Fits32 (f x y))
    → (a b : Vec3) → F32Vec a → F32Vec b → F32Vec (both f a b)
kept_fits f h a b p q =
    record {
      f32_x = h a.x b.x p.f32_x q.f32_x;
      f32_y = h a.y b.y p.f32_y q.f32_y;
      f32_z = h a.z b.z p.f32_z q.f32_z;
    }

pub zero_vector : F32Vec ZERO
zero_vector = record { f32_x = of_bits-fits binary32 0; f32_y = of_bits-fits binary32 0; f32_z = of_bits-fits binary32 0 }

-- ---- operators
pub sum_vector : (a b : Vec3) → F32Vec (add a b)
unfolding add
sum_vector a b = both_fits (Ieee.add binary32) (add-fits binary32) a b

pub difference_vector : (a b : Vec3) → F32Vec (sub a b)
unfolding sub
difference_vector a b = both_fits (Ieee.sub binary32) (sub-fits binary32) a b

pub scaled_vector : (a : Vec3) (k : Float) → F32Vec (mul_number a k)
unfolding mul_number
scaled_vector a k = each_fits (λ (v : Float). Ieee.mul binary32 v k) (λ v. mul-fits binary32 v k) a

scaled_first : (k : Float) (a : Vec3) → F32Vec (number_mul k a)
unfolding number_mul
scaled_first k a = each_fits (λ (v : Float). Ieee.mul binary32 k v) (mul-fits binary32 k) a

-- ---- elements
lesser_fits : (x y : Float) → Fits32 x → Fits32 y → Fits32 (lesser x y)
unfolding lesser
lesser_fits x y p q = cond-fits binary32 (lt x y) x y p q

greater_fits : (x y : Float) → Fits32 x → Fits32 y → Fits32 (greater x y)
unfolding greater
greater_fits x y p q = cond-fits binary32 (gt x y) x y p q

pub min_vector : (a b : Vec3) → F32Vec a → F32Vec b → F32Vec (min a b)
unfolding min
min_vector a b p q = kept_fits lesser lesser_fits a b p q

pub max_vector : (a b : Vec3) → F32Vec a → F32Vec b → F32Vec (max a b)
unfolding max
max_vector a b p q = kept_fits greater greater_fits a b p q

-- ---- products and projections
pub cross_vector : (a b : Vec3) → F32Vec (cross a b)
unfolding cross
cross_vector a b = record { f32_x = sub-fits binary32 _ _; f32_y = sub-fits binary32 _ _; f32_z = sub-fits binary32 _ _ }

pub projected_vector : (a b : Vec3) → F32Vec (project_onto a b)
unfolding project_onto
projected_vector a b = scaled_vector (mul_number b (dot a b)) (other_len_sq_rcp b)

pub rejected_vector : (a b : Vec3) → F32Vec (reject_from a b)
unfolding reject_from
rejected_vector a b = difference_vector a (project_onto a b)

pub projected_onto_unit : (a b : Vec3) → F32Vec (project_onto_normalized a b)
unfolding project_onto_normalized
projected_onto_unit a b = scaled_vector b (dot a b)

pub rejected_from_unit : (a b : Vec3) → F32Vec (reject_from_normalized a b)
unfolding reject_from_normalized
rejected_from_unit a b = difference_vector a (project_onto_normalized a b)

-- ---- clamps, interpolation, the fused product
pub clamped_vector : (a : Vec3) (u v : Float) → F32Vec a → F32Vec (clamp_length a u v)
unfolding clamp_length
clamped_vector a u v p =
    cond_any F32Vec (lt (length_squared a) (Ieee.mul binary32 u u)) _ _ (scaled_first u _)
    (cond_any F32Vec (lt (Ieee.mul binary32 v v) (length_squared a)) _ a (scaled_first v _) p)

pub between_vector : (a b : Vec3) (s : Float) → F32Vec (lerp a b s)
unfolding lerp
between_vector a b s = sum_vector _ (mul_number b s)

pub moved_vector : (a b : Vec3) (d : Float) → F32Vec b → F32Vec (move_towards a b d)
unfolding move_towards
moved_vector a b d q =
    let len = length (sub b a) in
    cond_any F32Vec (le len d || le len arrived) b _ q (sum_vector a (mul_number (div_number (sub b a) len) d))

pub middle_vector : (a b : Vec3) → F32Vec (midpoint a b)
unfolding midpoint
middle_vector a b = scaled_vector (add a b) half

pub fused_vector : (a b c : Vec3) → F32Vec (mul_add a b c)
unfolding mul_add
fused_vector a b c = record { f32_x = fused_fits a.x b.x c.x; f32_y = fused_fits a.y b.y c.y; f32_z = fused_fits a.z b.z c.z }

-- ---- rounding and remainders
pub trunc_vector : (a : Vec3) → F32Vec (trunc a)
unfolding trunc
trunc_vector a = each_fits Integral.trunc (integral_fits Integral.toward_zero) a

pub floor_vector : (a : Vec3) → F32Vec (floor a)
unfolding floor
floor_vector a = each_fits Integral.floor (integral_fits Integral.toward_negative) a

pub round_vector : (a : Vec3) → F32Vec (round a)
unfolding round
round_vector a = each_fits Integral.round_even (integral_fits Integral.ties_to_even) a

pub quotient_vector : (a b : Vec3) → F32Vec (div_euclid a b)
unfolding div_euclid
quotient_vector a b = both_fits Euclid.div_euclid div_euclid_fits a b

pub remainder_vector : (a b : Vec3) → F32Vec a → F32Vec b → F32Vec (rem_euclid a b)
unfolding rem_euclid
remainder_vector a b p q = kept_fits Euclid.rem_euclid (λ x y h k. rem_euclid_fits x y h) a b p q

-- ---- optics, and the vector at right angles
pub reflected_vector : (a b : Vec3) → F32Vec (reflect a b)
unfolding reflect
reflected_vector a b = difference_vector _ _

pub unchecked_vector : (a : Vec3) → F32Vec (direction_unchecked a)
unfolding direction_unchecked
unchecked_vector a = scaled_vector (scaled a) (length_recip (scaled a))

pub refracted_vector : (a b : Vec3) (u : Float) → F32Vec (refract a b u)
unfolding refract
refracted_vector a b u = cond_any F32Vec (le zer (refract_k a b u)) _ ZERO (difference_vector (number_mul u a) _) zero_vector

pub orthogonal_vector : (a : Vec3) → F32Vec a → F32Vec (any_orthogonal_vector a)
unfolding any_orthogonal_vector
orthogonal_vector a p =
    cond_any F32Vec (lt (abs a.y) (abs a.x)) _ _
    (record { f32_x = neg-fits binary32 a.z p.f32_z; f32_y = of_bits-fits binary32 0; f32_z = p.f32_x })
    (record { f32_x = of_bits-fits binary32 0; f32_y = p.f32_z; f32_z = neg-fits binary32 a.y p.f32_y })
