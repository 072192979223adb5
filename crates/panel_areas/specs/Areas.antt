-- The edges of an area by its name and axis, whatever the state, the tables and the stores hold: those that are drawn, and those that names
-- make (SHEET.md, Area edges and suffixes). Lines are numbered from 1, as in an `area` line and in an entry.
use Rattle.std.specs.Prelude.{ℕ, suc, cond, List, Option, Some, None, Result, Ok, Err}
use Rattle.std.specs.Option.{unwrap_or}
use Rattle.coordinates.specs.declared.axis.Axis.{Axis}
use Rattle.coordinates.specs.declared.line.Line.{Line}
use Rattle.coordinates.specs.declared.refusal.Fault.{Fault}
use Rattle.coordinates.specs.declared.refusal.Fault.TheVariants.{Name}
use Rattle.coordinates.specs.Refusals.{number_of, name, short}
use Rattle.coordinates.specs.Types.{LinePair}
use Rattle.name_rules.specs.Css.{Bytes, AxisNames}
use Rattle.name_rules.specs.Rule.{Seek, at, left, named?}
use Rattle.name_entries.specs.Names.{is_name}
use Rattle.name_lines.specs.declared.GridAreaEnd.{GridAreaEnd}
use Rattle.name_lines.specs.declared.GridAreaEnd.TheVariants.{Start, End}
use Rattle.name_resolver.specs.Questions.{edge_found}
use Rattle.panel_tables.specs.declared.Grid.{Grid}
use Rattle.panel_tables.specs.Areas.{area_at, edges_in}
use Rattle.panel_tables.specs.Places.{area_place_in}
use Rattle.panel_rules.specs.Calls.{NameTables, NamedWords, names_in, short_names}
use Rattle.panel_areas.specs.declared.AreaAnswer.{AreaAnswer}

-- the lines of both edges, where there are any
abbrev pub AreaLines : Type 0
AreaLines = Line (Option ℕ)

-- ---- a drawn area

abbrev pub both_lines : LinePair → AreaLines
both_lines p = record { start = Some p.start; end = Some p.end }

-- that at a place of the table
abbrev pub lines_at : List ℕ → Axis → Option ℕ → AreaLines
lines_at words a (Some i) = both_lines (edges_in (area_at words i).edges a)
lines_at words a None = record { start = None; end = None }

-- the first that has the name; a sheet has one of a name at most
unfoldable pub lines_drawn : Grid → NamedWords → Axis → Bytes → AreaLines
lines_drawn g t a nm = lines_at t.words a (area_place_in g.areas t.words t.bytes nm)

-- ---- the area that names make

abbrev pub number_found : Seek → Option ℕ
number_found (at l) = Some (suc l)
number_found (left m) = None

-- the first line of NAME-start or NAME-end: what a placement by the name alone takes, before it is held
unfoldable pub edge_number : AxisNames → Bytes → GridAreaEnd → Option ℕ
edge_number x nm e = number_found (edge_found (named? x) nm (Some e))

unfoldable pub lines_named : AxisNames → Bytes → AreaLines
unfolding edge_number
lines_named x nm = record { start = edge_number x nm Start; end = edge_number x nm End }

-- ---- answers as numbers: 0 for a line that there is not, or a refusal and zeros

abbrev pub area_answer : AreaLines → AreaAnswer
area_answer l = record { number = 0; start = unwrap_or l.start 0; end = unwrap_or l.end 0 }

abbrev pub refused_area : ℕ → AreaAnswer
refused_area n = record { number = n; start = 0; end = 0 }

abbrev pub answered_area : Result AreaLines Fault → AreaAnswer
answered_area (Ok l) = area_answer l
answered_area (Err fault) = refused_area (number_of fault)

-- what is no name is refused by 2
abbrev pub name_check : Bytes → Result (Unit {0}) Fault
name_check nm = cond (is_name nm) (Ok tt) (Err Name)

unfoldable pub drawn_area : Grid → NamedWords → Axis → Bytes → AreaAnswer
unfolding lines_drawn
drawn_area g t a nm = cond (is_name nm) (area_answer (lines_drawn g t a nm)) (refused_area name)

-- then by 10 a short store
unfoldable pub named_area : Grid → NameTables → NamedWords → Axis → Bytes → AreaAnswer
unfolding lines_named
named_area g t areas a nm =
    cond (is_name nm) (cond (short_names t) (refused_area short) (area_answer (lines_named (names_in g t areas a) nm))) (refused_area name)
