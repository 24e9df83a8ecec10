-- The refusals of a command (document 01, "Refused, and by whose doing"), each with its condition, in the order in which they are checked: "2, 3, 4, 5, 8, 7, 6",
-- 11 "checked after 3" (document 02, a) and 12 "checked just before 6" (d).
use Rattle.std.specs.Prelude.{ℕ, Bool, true, false, cond, not, ◌&&◌, ◌||◌, List, [], ◌∷◌, ◌++◌, eqb, ltb, Option, Some, None, Float}
use Rattle.std.specs.Float.{binary32}
use Rattle.std.specs.Float.Ieee.{of_bits, lt, le}
use Rattle.std.specs.Float.Ieee.Scale.{finite}
use Rattle.vector.specs.declared.vec3.Vec3.{Vec3}
use Rattle.vector.specs.Vectors.{zer}
use Rattle.vector.specs.Comparisons.{is_finite}
use Rattle.vector.specs.Projections.{other_len_sq_rcp}
use Rattle.vector.specs.Optics.{refract_k}
use Rattle.vector.specs.DirectionOf.{direction_of}
use Rattle.vector.specs.NumericLaws.{quarter, four}
use Rattle.vector.specs.AssertLaws.{zero_length}
use Rattle.commands.specs.declared.command.Command.{Command}
use Rattle.commands.specs.Codes.{last, undo, point_kind, unknown_command, row_outside, unfit_source, value_outside, result_infinite, direction_missing, all_reflected, history_empty, line_parallel}
use Rattle.commands.specs.Rows.{ModelRow}
use Rattle.commands.specs.Fields.{is_used, allows, Sources}
use Rattle.commands.specs.Planes.{is_parallel}
use Rattle.commands.specs.Results.{Result, Empties, Point, Aim, Directed, DirectedPair, Plane, Number, Root, Whole, Shows, Undoes}
use Rattle.commands.specs.Commands.{entry_at}

-- "2, command above 32"; "refusal 2 begins above the highest command in use"
unfoldable pub unknown : ℕ → Bool
unknown n = ltb last n

-- "3, a used row above 63, or t = 63 in 24"; "A field u above 63 in 36 is refused by 3"
unfoldable pub no_row : Command → Bool
no_row c =
    let uses = (entry_at c.number).uses in
    uses.t && ltb 63 c.t
    || is_used uses.a && ltb 63 c.a
    || is_used uses.b && ltb 63 c.b
    || is_used uses.row && ltb 63 c.u
    || eqb c.number 24 && eqb c.t 63

-- "Command 33 with nothing remembered is refused by 11, checked after 3"
unfoldable pub nothing_remembered : ℕ → Bool → Bool
nothing_remembered n remembers = eqb n undo && not remembers

-- "4, a source empty, or no direction in 22 to 24"; "A row called point, direction or plane here must be of that kind, else 4; earlier commands refuse a plane as a
-- source by 4, but for 32"
unfoldable pub bad_source : ℕ → ℕ → ℕ → ℕ → Bool
bad_source n kind_a kind_b kind_row =
    let uses = (entry_at n).uses in
    not (allows uses.a kind_a) || not (allows uses.b kind_b) || not (allows uses.row kind_row)

-- "5, a used value not finite, or in 10 not 0 ≤ u ≤ v, or in 23 u outside 0.25 to 4"
unfoldable pub out_of_order : ℕ → Float → Float → Bool
out_of_order n u v = eqb n 10 && not (le zer u && le u v)

unfoldable pub out_of_range : ℕ → Float → Bool
out_of_range n u = eqb n 23 && not (le quarter u && le u four)

unfoldable pub bad_value : ℕ → Float → Float → Float → Bool
bad_value n u v w =
    let uses = (entry_at n).uses in
    uses.u && not (finite u) || uses.v && not (finite v) || uses.w && not (finite w) || out_of_order n u v || out_of_range n u

-- "8, in 23, `refract`'s k below zero"
unfoldable pub no_refraction : ℕ → Sources → Bool
no_refraction n s = eqb n 23 && lt (refract_k s.a.numbers s.b.numbers s.u) zer

-- "7, in 2 .. no direction; in 11 and 12 with b a point, 1/(b·b) not finite; in 28 a `length_squared` of zero"; from 22 to 24 "7 is struck" (document 02, g)
unfoldable pub is_nothing : Option Vec3 → Bool
is_nothing (Some v) = false
is_nothing None = true

unfoldable pub lacks_direction : Result → Bool
lacks_direction (Aim v) = is_nothing (direction_of v)
lacks_direction (Directed v) = false
lacks_direction (DirectedPair v w) = false
lacks_direction (Plane n o) = false
lacks_direction Empties = false
lacks_direction (Point v) = false
lacks_direction (Number x) = false
lacks_direction (Root r) = false
lacks_direction (Whole n) = false
lacks_direction (Shows i r) = false
lacks_direction Undoes = false

unfoldable pub no_factor : ModelRow → Bool
no_factor b = eqb b.kind point_kind && not (finite (other_len_sq_rcp b.numbers))

unfoldable pub no_direction : ℕ → Sources → Bool
no_direction n s =
    (eqb n 11 || eqb n 12) && no_factor s.b
    || eqb n 28 && (zero_length s.a.numbers || zero_length s.b.numbers)
    || lacks_direction ((entry_at n).result s)

-- "a computed n·b of zero by 12", in 36
unfoldable pub no_meeting : ℕ → Sources → Bool
no_meeting n s = eqb n 36 && is_parallel s.b.numbers s.row

-- "6, a point or number result not finite"; "an offset not finite by 6"
unfoldable pub not_finite : Result → Bool
not_finite (Point v) = not (is_finite v)
not_finite (Number x) = not (finite x)
not_finite (Root r) = not (finite r.root)
not_finite Empties = false
not_finite (Aim v) = false
not_finite (Directed v) = false
not_finite (DirectedPair v w) = false
not_finite (Plane n o) = not (finite o)
not_finite (Whole n) = false
not_finite (Shows i r) = false
not_finite Undoes = false

-- a refusal's number, and whether its condition holds
pub record Refusal : Type 0 where
  pub number : ℕ
  pub holds : Bool

abbrev pub refuses : ℕ → Bool → Refusal
refuses k b = record { number = k; holds = b }

-- the number of the first whose condition holds, or 0
unfoldable pub first : List Refusal → ℕ
first [] = 0
first (r ∷ rest) = cond r.holds r.number (first rest)

-- "Checked in the order .. 2, 3, 4, 5, 8, 7, 6", 11 "checked after 3", 12 "checked just before 6": those that the fields, the history and the sources' kinds decide, then those that the work decides
unfoldable pub early : Command → Bool → ℕ → ℕ → ℕ → List Refusal
early c remembers kind_a kind_b kind_row =
    refuses unknown_command (unknown c.number)
    ∷ refuses row_outside (no_row c)
    ∷ refuses history_empty (nothing_remembered c.number remembers)
    ∷ refuses unfit_source (bad_source c.number kind_a kind_b kind_row)
    ∷ refuses value_outside (bad_value c.number (of_bits binary32 c.u) (of_bits binary32 c.v) (of_bits binary32 c.w))
    ∷ []

unfoldable pub late : ℕ → Sources → List Refusal
late n s =
    refuses all_reflected (no_refraction n s)
    ∷ refuses direction_missing (no_direction n s)
    ∷ refuses line_parallel (no_meeting n s)
    ∷ refuses result_infinite (not_finite ((entry_at n).result s))
    ∷ []

unfoldable pub refusals : Command → Bool → Sources → List Refusal
refusals c remembers s = early c remembers s.a.kind s.b.kind s.row.kind ++ late c.number s

unfoldable pub refusal_of : Command → Bool → Sources → ℕ
refusal_of c remembers s = first (refusals c remembers s)
