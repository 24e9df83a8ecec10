-- An element by its index (document 01, "Refused, and by whose doing": "10, a component or `test` index above 2").
use Rattle.std.specs.Prelude.{ℕ, cond, eqb, Float, Option, Some, None}
use Rattle.vector.specs.declared.vec3.Vec3.{Vec3}
use Rattle.vector.specs.Vectors.{zer}
use Rattle.vector.specs.Answers.{Answer, given, refused}

abbrev pub out_of_range : {A : Type 0} → A → Answer A
out_of_range zero = refused 10 zero

-- match index { 0 => self.x, 1 => self.y, 2 => self.z, _ => panic!("index out of bounds") }
unfoldable pub indexed : {A : Type 0} → A → A → A → A → ℕ → Answer A
indexed zero x y z i =
    cond (eqb i 0) (given x) (cond (eqb i 1) (given y) (cond (eqb i 2) (given z) (out_of_range zero)))

-- the paper's number and value for each case of the answer
abbrev pub answer_of : Option Float → Answer Float
answer_of (Some v) = given v
answer_of None = out_of_range zer

unfoldable pub component : Vec3 → ℕ → Answer Float
component a i = indexed zer a.x a.y a.z i
