-- The numbers of the program's kinds of rows (Codes).
use Rattle.std.specs.Prelude.{ℕ, cond, eqb, Result, Ok, Err}
use Rattle.commands.specs.declared.codes.Kind.{Kind}
use Rattle.commands.specs.declared.codes.Kind.TheVariants.{Empty, Point, Direction, Plane}
use Rattle.commands.specs.Codes.{empty_kind, point_kind, direction_kind, plane_kind}

abbrev pub kind_number : Kind → ℕ
kind_number Empty = empty_kind
kind_number Point = point_kind
kind_number Direction = direction_kind
kind_number Plane = plane_kind

-- the kind of a number, which may be any in words that a caller lends
unfoldable pub kind_of : ℕ → Result Kind ℕ
kind_of n =
    cond (eqb n empty_kind) (Ok Empty)
    (cond (eqb n point_kind) (Ok Point)
    (cond (eqb n direction_kind) (Ok Direction)
    (cond (eqb n plane_kind) (Ok Plane) (Err n))))
