-- What the marks of `length_and_exactness` and `distance_and_exactness` are about (document 02, c: "`length` and `distance` carry this up").
use Rattle.std.specs.Prelude.{◌≡◌}
use Rattle.scalar.specs.ExactRoot.{exact_root}
use Rattle.scalar.specs.ExactRootMeaning.{ExactRootMeaning}
use Rattle.vector.specs.declared.vec3.Vec3.{Vec3}
use Rattle.vector.specs.Products.{length, length_squared, distance, distance_squared, length_and_exactness, distance_and_exactness}

pub record ExactLengths : Type 0 where
  -- the first parts are `length` and `distance`
  pub length_first : (a : Vec3) → (length_and_exactness a).root ≡ length a
  pub distance_first : (a b : Vec3) → (distance_and_exactness a b).root ≡ distance a b
  -- "The mark is about the root alone; the sum of squares before it may have been rounded": it is that of the root of the squared length as computed
  pub length_mark : (a : Vec3) → (length_and_exactness a).exact ≡ exact_root (length_squared a)
  pub distance_mark : (a b : Vec3) → (distance_and_exactness a b).exact ≡ exact_root (distance_squared a b)
  -- set exactly if this squared length is the square of an f32
  pub length_means : (a : Vec3) → ExactRootMeaning (length_squared a)
  pub distance_means : (a b : Vec3) → ExactRootMeaning (distance_squared a b)
