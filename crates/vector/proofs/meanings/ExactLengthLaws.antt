-- Lengths and distances with the mark of their roots. Assumes nothing.
use mathlib.Core.Path.{refl}
use lib.Ieee.{binary32}
use lib.Ieee.Fits.{add-fits}
use Rattle.scalar.specs.ExactRoot.{root_and_exactness}
use Rattle.scalar.specs.ExactRootMeaning.{ExactRootMeaning}
use Rattle.scalar.proofs.roots.ExactMeaningLaws.{exact_root_means}
use Rattle.vector.specs.declared.vec3.Vec3.{Vec3}
use Rattle.vector.specs.Operators as Operators
use Rattle.vector.specs.Products.{dot, length, length_squared, distance, distance_squared, length_and_exactness, distance_and_exactness}
use Rattle.vector.specs.ExactLengths.{ExactLengths}

squared_means : (a : Vec3) → ExactRootMeaning (length_squared a)
unfolding length_squared dot
squared_means a = exact_root_means (length_squared a) (add-fits binary32 _ _)

pub exact_lengths : ExactLengths
unfolding length length_squared distance distance_squared length_and_exactness distance_and_exactness root_and_exactness
exact_lengths = record {
  length_first = λ a. refl;
  distance_first = λ a b. refl;
  length_mark = λ a. refl;
  distance_mark = λ a b. refl;
  length_means = squared_means;
  distance_means = λ a b. squared_means (Operators.sub a b);
}
