-- The fields of a command (document 01, "The plain sheet": "A command has a number, target t, sources a and b, values u, v, w .. Fields a command doesn't
-- use are ignored once their form is right").
use Rattle.std.specs.Prelude.{ℕ, Bool, true, false, not, ◌||◌, List, eqb, get_or, Float}
use Rattle.std.specs.Float.{binary32}
use Rattle.std.specs.Float.Ieee.{of_bits}
use Rattle.commands.specs.declared.command.Command.{Command}
use Rattle.commands.specs.declared.row.Row.{Row}
use Rattle.commands.specs.declared.row.StoredRow.{StoredRow}
use Rattle.commands.specs.Codes.{empty_kind, point_kind, direction_kind, plane_kind}
use Rattle.commands.specs.Rows.{ModelRow, row_of, stored_row}

-- the kinds that a row may have, where a command uses it as a source
pub data Kinds : Type 0 where
  -- it does not use it
  Unused : Kinds
  -- a point or a direction: "A source may be of either kind unless a direction is asked for"
  Vectors : Kinds
  -- "A row called point, direction or plane here must be of that kind"
  Points : Kinds
  Directions : Kinds
  Planes : Kinds
  -- any but an empty one
  Filled : Kinds

abbrev pub is_used : Kinds → Bool
is_used Unused = false
is_used Vectors = true
is_used Points = true
is_used Directions = true
is_used Planes = true
is_used Filled = true

unfoldable pub allows : Kinds → ℕ → Bool
allows Unused kind = true
allows Vectors kind = eqb kind point_kind || eqb kind direction_kind
allows Points kind = eqb kind point_kind
allows Directions kind = eqb kind direction_kind
allows Planes kind = eqb kind plane_kind
allows Filled kind = not (eqb kind empty_kind)

-- which fields a command uses: t; its sources, rows a and b and, in 36, the row "whose row number is the whole number in field u"; and the values u, v and w
pub record Uses : Type 0 where
  pub t : Bool
  pub a : Kinds
  pub b : Kinds
  pub row : Kinds
  pub u : Bool
  pub v : Bool
  pub w : Bool

-- those that occur, by the letters of the fields
abbrev pub uses_none : Uses
uses_none = record { t = false; a = Unused; b = Unused; row = Unused; u = false; v = false; w = false }

abbrev pub uses_t : Uses
uses_t = record { t = true; a = Unused; b = Unused; row = Unused; u = false; v = false; w = false }

abbrev pub uses_tuvw : Uses
uses_tuvw = record { t = true; a = Unused; b = Unused; row = Unused; u = true; v = true; w = true }

abbrev pub uses_ta : Kinds → Uses
uses_ta a = record { t = true; a = a; b = Unused; row = Unused; u = false; v = false; w = false }

abbrev pub uses_tau : Kinds → Uses
uses_tau a = record { t = true; a = a; b = Unused; row = Unused; u = true; v = false; w = false }

abbrev pub uses_tauv : Kinds → Uses
uses_tauv a = record { t = true; a = a; b = Unused; row = Unused; u = true; v = true; w = false }

abbrev pub uses_tab : Kinds → Kinds → Uses
uses_tab a b = record { t = true; a = a; b = b; row = Unused; u = false; v = false; w = false }

abbrev pub uses_tabu : Kinds → Kinds → Uses
uses_tabu a b = record { t = true; a = a; b = b; row = Unused; u = true; v = false; w = false }

abbrev pub uses_tabuvw : Kinds → Kinds → Uses
uses_tabuvw a b = record { t = true; a = a; b = b; row = Unused; u = true; v = true; w = true }

abbrev pub uses_tabrow : Kinds → Kinds → Kinds → Uses
uses_tabrow a b row = record { t = true; a = a; b = b; row = row; u = false; v = false; w = false }

abbrev pub uses_a : Kinds → Uses
uses_a a = record { t = false; a = a; b = Unused; row = Unused; u = false; v = false; w = false }

abbrev pub uses_ab : Kinds → Kinds → Uses
uses_ab a b = record { t = false; a = a; b = b; row = Unused; u = false; v = false; w = false }

-- the rows that a command may read, which "are read before anything is written": a, b, and the row whose number is field u
pub record Read : Type 0 where
  pub a : ModelRow
  pub b : ModelRow
  pub row : ModelRow

abbrev pub read_of : Row → Row → StoredRow → Read
read_of a b row = record { a = row_of a; b = row_of b; row = stored_row row }

-- what a command works on: the number of row a, those rows, and its values, given as bits
pub record Sources : Type 0 where
  pub at : ℕ
  pub a : ModelRow
  pub b : ModelRow
  pub row : ModelRow
  pub u : Float
  pub v : Float
  pub w : Float

abbrev pub sources_of : Command → Read → Sources
sources_of c r =
    record { at = c.a; a = r.a; b = r.b; row = r.row; u = of_bits binary32 c.u; v = of_bits binary32 c.v; w = of_bits binary32 c.w }

-- the command that the first seven numbers give
unfoldable pub command_of : List ℕ → Command
command_of l = record { number = get_or l 0 0; t = get_or l 1 0; a = get_or l 2 0; b = get_or l 3 0; u = get_or l 4 0; v = get_or l 5 0; w = get_or l 6 0 }
