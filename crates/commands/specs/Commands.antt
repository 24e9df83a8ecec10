-- The table of commands (document 01, "The plain sheet", the list of commands; document 02): for each number the fields that it uses, with the kinds that its sources may have,
-- what it works out by the Rust function, and what that function asserts by glam_assert.
use Rattle.std.specs.Prelude.{ℕ, Bool, true, cond, List, [], ◌∷◌, get_or, Float}
use Rattle.vector.specs.declared.vec3.Vec3.{Vec3}
use Rattle.vector.specs.Vectors.{vec}
use Rattle.vector.specs.Operators.{add, sub, mul_number}
use Rattle.vector.specs.Elements.{min, max, min_position, max_position}
use Rattle.vector.specs.Comparisons.{cmple}
use Rattle.vector.specs.Masks.{bitmask}
use Rattle.vector.specs.Products.{dot, cross, length_and_exactness, distance_and_exactness}
use Rattle.vector.specs.Projections.{project_onto, reject_from, project_onto_normalized, reject_from_normalized}
use Rattle.vector.specs.LengthClamps.{clamp_length}
use Rattle.vector.specs.Interpolation.{lerp, move_towards, midpoint, mul_add}
use Rattle.vector.specs.Rounding.{trunc, floor, round, div_euclid, rem_euclid}
use Rattle.vector.specs.DirectionOf.{direction_unchecked}
use Rattle.vector.specs.Optics.{reflect, refract, angle_between}
use Rattle.vector.specs.Orthogonal.{any_orthogonal_vector, any_orthonormal_pair}
use Rattle.vector.specs.Asserts.{asserts_clamp_length, asserts_project_onto, asserts_reject_from, asserts_project_onto_normalized, asserts_reject_from_normalized, asserts_reflect, asserts_refract, asserts_angle_between, asserts_any_orthonormal_pair}
use Rattle.commands.specs.Fields.{Vectors, Points, Directions, Planes, Filled, Uses, uses_none, uses_t, uses_tuvw, uses_ta, uses_tau, uses_tauv, uses_tab, uses_tabu, uses_tabuvw, uses_tabrow, uses_a, uses_ab, Sources}
use Rattle.commands.specs.Planes.{offset_through, height, meeting}
use Rattle.commands.specs.Results.{Result, Empties, Point, Aim, Directed, DirectedPair, Plane, Number, Root, Whole, Shows, Undoes, is_direction}

-- a row of the table
pub record Entry : Type 0 where
  pub uses : Uses
  pub result : Sources → Result
  pub asserts : Sources → Bool

-- one whose function asserts nothing
abbrev pub entry : Uses → (Sources → Result) → Entry
entry uses result = record { uses = uses; result = result; asserts = λ (s : Sources). true }

abbrev pub asserting : Uses → (Sources → Result) → (Sources → Bool) → Entry
asserting uses result asserts = record { uses = uses; result = result; asserts = asserts }

-- functions of a, of a and b, and of these and u
abbrev pub of_a : {A : Type 0} → (A → Result) → (Vec3 → A) → Sources → Result
of_a r f s = r (f s.a.numbers)

abbrev pub of_ab : {A : Type 0} → (A → Result) → (Vec3 → Vec3 → A) → Sources → Result
of_ab r f s = r (f s.a.numbers s.b.numbers)

abbrev pub of_au : {A : Type 0} → (A → Result) → (Vec3 → Float → A) → Sources → Result
of_au r f s = r (f s.a.numbers s.u)

abbrev pub of_abu : {A : Type 0} → (A → Result) → (Vec3 → Vec3 → Float → A) → Sources → Result
of_abu r f s = r (f s.a.numbers s.b.numbers s.u)

-- (u, v, w)
abbrev pub values : Sources → Vec3
values s = vec s.u s.v s.w

-- "11 and 12 use the `_normalized` function where b is a direction"
abbrev pub by_kind : {A : Type 0} → (Vec3 → Vec3 → A) → (Vec3 → Vec3 → A) → Sources → A
by_kind of_direction of_point s =
    cond (is_direction s.b.kind) (of_direction s.a.numbers s.b.numbers) (of_point s.a.numbers s.b.numbers)

unfoldable pub table : List Entry
table =
    -- 0 empties t
    entry uses_t (λ (s : Sources). Empties)
    -- 1: point (u, v, w)
    ∷ entry uses_tuvw (λ (s : Sources). Point (values s))
    -- 2: direction of a
    ∷ entry (uses_ta Vectors) (of_a Aim (λ (a : Vec3). a))
    -- 3 to 21: "Points, by the Rust function on a (and b)". 3: a + b; 4: a - b; 5: `cross`; 6: `min`; 7: `max`
    ∷ entry (uses_tab Vectors Vectors) (of_ab Point add)
    ∷ entry (uses_tab Vectors Vectors) (of_ab Point sub)
    ∷ entry (uses_tab Vectors Vectors) (of_ab Point cross)
    ∷ entry (uses_tab Vectors Vectors) (of_ab Point min)
    ∷ entry (uses_tab Vectors Vectors) (of_ab Point max)
    -- 8: a times u; 9: a.`mul_add`(b, (u, v, w)); 10: `clamp_length`(u, v)
    ∷ entry (uses_tau Vectors) (of_au Point mul_number)
    ∷ entry (uses_tabuvw Vectors Vectors) (λ (s : Sources). Point (mul_add s.a.numbers s.b.numbers (values s)))
    ∷ asserting (uses_tauv Vectors) (λ (s : Sources). Point (clamp_length s.a.numbers s.u s.v)) (λ (s : Sources). asserts_clamp_length s.a.numbers s.u s.v)
    -- 11: project a onto b; 12: reject a from b
    ∷ asserting (uses_tab Vectors Vectors) (λ (s : Sources). Point (by_kind project_onto_normalized project_onto s)) (by_kind asserts_project_onto_normalized asserts_project_onto)
    ∷ asserting (uses_tab Vectors Vectors) (λ (s : Sources). Point (by_kind reject_from_normalized reject_from s)) (by_kind asserts_reject_from_normalized asserts_reject_from)
    -- 13: `lerp`(u); 14: `move_towards`(u); 15: `midpoint`
    ∷ entry (uses_tabu Vectors Vectors) (of_abu Point lerp)
    ∷ entry (uses_tabu Vectors Vectors) (of_abu Point move_towards)
    ∷ entry (uses_tab Vectors Vectors) (of_ab Point midpoint)
    -- 16 to 21: `trunc`, `floor`, `round`, `div_euclid`, `rem_euclid`, `any_orthogonal_vector`
    ∷ entry (uses_ta Vectors) (of_a Point trunc)
    ∷ entry (uses_ta Vectors) (of_a Point floor)
    ∷ entry (uses_ta Vectors) (of_a Point round)
    ∷ entry (uses_tab Vectors Vectors) (of_ab Point div_euclid)
    ∷ entry (uses_tab Vectors Vectors) (of_ab Point rem_euclid)
    ∷ entry (uses_ta Vectors) (of_a Point any_orthogonal_vector)
    -- 22: direction of `reflect`(a, b); 23: direction of `refract`(a, b, u); both without a test (document 02, g)
    ∷ asserting (uses_tab Directions Directions) (of_ab Directed (λ (a b : Vec3). direction_unchecked (reflect a b))) (λ (s : Sources). asserts_reflect s.a.numbers s.b.numbers)
    ∷ asserting (uses_tabu Directions Directions) (of_abu Directed (λ (a b : Vec3) (u : Float). direction_unchecked (refract a b u))) (λ (s : Sources). asserts_refract s.a.numbers s.b.numbers)
    -- 24: directions of the two vectors of `any_orthonormal_pair`(a), into t and t+1, likewise
    ∷ asserting (uses_ta Directions) (λ (s : Sources). let p = any_orthonormal_pair s.a.numbers in DirectedPair (direction_unchecked p.first) (direction_unchecked p.second)) (λ (s : Sources). asserts_any_orthonormal_pair s.a.numbers)
    -- 25: `dot`; 26: `length` of a; 27: `distance`, both with the mark of their root; 28: `angle_between`
    ∷ entry (uses_ab Vectors Vectors) (of_ab Number dot)
    ∷ entry (uses_a Vectors) (of_a Root length_and_exactness)
    ∷ entry (uses_ab Vectors Vectors) (of_ab Root distance_and_exactness)
    ∷ asserting (uses_ab Vectors Vectors) (of_ab Number angle_between) (λ (s : Sources). asserts_angle_between s.a.numbers s.b.numbers)
    -- 29: `min_position`; 30: `max_position`; 31: bitmask of a.`cmple`(b)
    ∷ entry (uses_a Vectors) (of_a Whole min_position)
    ∷ entry (uses_a Vectors) (of_a Whole max_position)
    ∷ entry (uses_ab Vectors Vectors) (of_ab Whole (λ (a b : Vec3). bitmask (cmple a b)))
    -- 32 shows a
    ∷ entry (uses_a Filled) (λ (s : Sources). Shows s.at s.a)
    -- 33 takes back
    ∷ entry uses_none (λ (s : Sources). Undoes)
    -- 34: the plane through point a with direction b as its normal; 35: how far point a is from plane b, along its normal
    ∷ entry (uses_tab Points Directions) (λ (s : Sources). Plane s.b.numbers (offset_through s.a.numbers s.b.numbers))
    ∷ entry (uses_ab Points Planes) (λ (s : Sources). Number (height s.a.numbers s.b))
    -- 36: where the line from point a along direction b meets the plane in the row that u gives; 37: the offset of plane a
    ∷ entry (uses_tabrow Points Directions Planes) (λ (s : Sources). Point (meeting s.a.numbers s.b.numbers s.row))
    ∷ entry (uses_a Planes) (λ (s : Sources). Number s.a.offset)
    ∷ []

-- the row of a command; one that is not in the table uses nothing, and 2 refuses it
unfoldable pub entry_at : ℕ → Entry
entry_at n = get_or table n (entry uses_none (λ (s : Sources). Empties))
