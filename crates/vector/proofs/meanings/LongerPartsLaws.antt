-- A vector with larger parts has no smaller `length_squared` and no smaller `length`: squares, sums and the root keep the order. That there is no NaN follows
-- from `<=` of the parts. Assumes nothing.
use mathlib.Core.Path.{subst₂}
use lib.Dec.{T}
use lib.Ieee.{Float, binary32, mul, le}
use Rattle.laws.proofs.values.AscendingLaws.{Ascends, ascends, ascends_le}
use Rattle.laws.proofs.operations.MonotoneLaws.{square_ascends, sum_ascends}
use Rattle.scalar.specs.Sign as Sign
use Rattle.scalar.proofs.floats.SignLaws.{abs_sign, abs_square}
use Rattle.scalar.proofs.roots.RootMonotoneLaws.{root_ascends}
use Rattle.vector.specs.declared.vec3.Vec3.{Vec3}
use Rattle.vector.specs.Operators.{sub}
use Rattle.vector.specs.Signs.{abs}
use Rattle.vector.specs.Products.{dot, length_squared, length, distance_squared, distance}
use Rattle.vector.specs.LongerParts.{LargerParts, LongerParts, LongerDifferences}
use Rattle.vector.proofs.errors.SquaredLengthLaws.{squared_fits}

squares_ascend : (x y : Float) → T (le (Sign.abs x) (Sign.abs y)) → Ascends (mul binary32 x x) (mul binary32 y y)
squares_ascend x y h =
    subst₂ Ascends (abs_square binary32 x) (abs_square binary32 y) (square_ascends binary32 (ascends (Sign.abs x) (Sign.abs y) (abs_sign x) (abs_sign y) h))

squared_ascends : (a b : Vec3) → LargerParts a b → Ascends (length_squared a) (length_squared b)
unfolding length_squared dot abs
squared_ascends a b h =
    sum_ascends binary32 (sum_ascends binary32 (squares_ascend a.x b.x h.larger_x) (squares_ascend a.y b.y h.larger_y)) (squares_ascend a.z b.z h.larger_z)

length_ascends : (a b : Vec3) → LargerParts a b → Ascends (length a) (length b)
unfolding length length_squared
length_ascends a b h = root_ascends (squared_fits a) (squared_fits b) (squared_ascends a b h)

pub longer_parts : LongerParts
longer_parts a b p q h = (ascends_le (squared_ascends a b h), ascends_le (length_ascends a b h))

pub longer_differences : LongerDifferences
unfolding distance_squared distance
longer_differences a b c d p q h = longer_parts (sub a b) (sub c d) p q h
