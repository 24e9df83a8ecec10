-- Masks (document 01, "Masks and vectors": "BVec3: `new`, `splat`, `test`, `bitmask`, and, or, not"), as src/bool/bvec3.rs has them.
use Rattle.std.specs.Prelude.{ℕ, ◌+◌, ◌*◌, Bool, false, cond, ◌&&◌, ◌||◌, Option, Some, None}
use Rattle.std.proofs.Math.Bool as Bools
use Rattle.vector.specs.declared.bvec3.BVec3.{BVec3}
use Rattle.vector.specs.Answers.{Answer, given}
use Rattle.vector.specs.Indexed.{out_of_range, indexed}

abbrev pub mask : Bool → Bool → Bool → BVec3
mask x y z = record { x = x; y = y; z = z }

-- b as u32
abbrev pub bit : Bool → ℕ
bit b = cond b 1 0

-- (self.x as u32) | ((self.y as u32) << 1) | ((self.z as u32) << 2)
unfoldable pub bitmask : BVec3 → ℕ
bitmask m = bit m.x + bit m.y * 2 + bit m.z * 4

-- the paper's number and value for each case of the answer
abbrev pub answer_of : Option Bool → Answer Bool
answer_of (Some b) = given b
answer_of None = out_of_range false

abbrev pub test : BVec3 → ℕ → Answer Bool
test m i = indexed false m.x m.y m.z i

-- self.x & rhs.x and so on
unfoldable pub and : BVec3 → BVec3 → BVec3
and a b = mask (a.x && b.x) (a.y && b.y) (a.z && b.z)

-- self.x | rhs.x and so on
unfoldable pub or : BVec3 → BVec3 → BVec3
or a b = mask (a.x || b.x) (a.y || b.y) (a.z || b.z)

-- !self.x and so on
unfoldable pub not : BVec3 → BVec3
not a = mask (Bools.not a.x) (Bools.not a.y) (Bools.not a.z)
