-- The answers of the calls on a panel, as numbers. An axis is a number: 0 the columns, 1 the rows; any other is refused by 4.
use Rattle.std.specs.Prelude.{ℕ, ◌-◌, min, Bool, true, false, cond, leb, Result, Ok, Err}
use Rattle.coordinates.specs.declared.refusal.Fault.{Fault}
use Rattle.coordinates.specs.Refusals.{number_of, name, count}
use Rattle.name_rules.specs.Css.{Bytes}
use Rattle.name_entries.specs.declared.NameEntry.{NameEntry}
use Rattle.name_entries.specs.Names.{is_name}
use Rattle.name_resolver.specs.Placements.{resolved_kind_of, resolved_number_of}
use Rattle.track_rules.specs.Records.{records_in}
use Rattle.panel_tables.specs.declared.Grid.{Grid}
use Rattle.panel_tables.specs.declared.Panel.{Panel}
use Rattle.panel_tables.specs.Axes.{grid_in}
use Rattle.panel_tables.specs.Placements.{axis_mark}
use Rattle.coordinates.specs.Axes.{axis_of}
use Rattle.sheet_rules.specs.Panels.{Tables}
use Rattle.sheet_rules.specs.Answers as Read
use Rattle.sheet_rules.specs.Read.{SheetRead, DisplayRead}
use Rattle.panel_rules.specs.Placing.{PlacementAnswer}
use Rattle.axis_tables.specs.declared.AxisSize.{AxisSize}
use Rattle.panel_rules.specs.Calls.{NameTables, EnteredName, enter_name, explicit_size, line_count_in, axis_tracks}
use Rattle.library_numbers.specs.declared.SheetAnswer.{SheetAnswer}
use Rattle.library_numbers.specs.declared.DisplayAnswer.{DisplayAnswer}
use Rattle.library_numbers.specs.declared.PanelAnswer.{PanelAnswer}
use Rattle.library_numbers.specs.declared.SizeAnswer.{SizeAnswer}
use Rattle.library_numbers.specs.declared.CountAnswer.{CountAnswer}
use Rattle.library_numbers.specs.declared.NameAnswer.{NameAnswer}
use Rattle.library_numbers.specs.declared.PlacementNumbers.{PlacementNumbers}

-- whether a number is that of an axis
abbrev pub is_axis : ℕ → Bool
is_axis n = leb n 1

-- ---- `palgwern_read_sheet` and `palgwern_display_sheet`

abbrev pub sheet_answer : Read.SheetAnswer → SheetAnswer
sheet_answer a = record { number = a.refusal.number; line = a.refusal.line; earlier = a.earlier; later = a.later; panel = a.panel }

-- the answer, and everything lent
pub record SheetNumbers : Type 0 where
  pub answer : SheetAnswer
  pub tables : Tables

unfoldable pub sheet_numbers : SheetRead → SheetNumbers
sheet_numbers s = record { answer = sheet_answer s.answer; tables = s.tables }

abbrev pub display_answer : Read.DisplayAnswer → DisplayAnswer
display_answer a = record { number = a.refusal.number; line = a.refusal.line; earlier = a.earlier; later = a.later; grid = a.grid }

pub record DisplayNumbers : Type 0 where
  pub answer : DisplayAnswer
  pub tables : Tables

unfoldable pub display_numbers : DisplayRead → DisplayNumbers
display_numbers s = record { answer = display_answer s.answer; tables = s.tables }

-- ---- `palgwern_enter_name`

-- the answer, and the words and the stores lent
pub record PanelEntered : Type 0 where
  pub answer : PanelAnswer
  pub tables : NameTables

abbrev pub panel_entered : EnteredName → PanelEntered
panel_entered e =
    record { answer = record { number = e.answer.refusal.number; line = e.answer.refusal.line; panel = e.answer.panel }; tables = e.tables }

-- what an entry in no axis is refused by: lowest number first
abbrev pub no_axis_entry : Bytes → ℕ
no_axis_entry nm = cond (is_name nm) count name

unfoldable pub name_entered : Panel → NameTables → ℕ → ℕ → Bytes → PanelEntered
name_entered p t axis line nm =
    cond (is_axis axis) (panel_entered (enter_name p t (axis_of axis) line nm))
    (record { answer = record { number = no_axis_entry nm; line = 0; panel = p }; tables = t })

-- ---- `palgwern_explicit_size`, `palgwern_line_count`, `palgwern_record_count`

abbrev pub size_answer : AxisSize → SizeAnswer
size_answer s = record { number = 0; repetitions = s.repetitions; explicit = s.explicit }

-- the numbers of an axis's size, or of a refusal
abbrev pub answered_size : Result AxisSize Fault → SizeAnswer
answered_size (Ok s) = size_answer s
answered_size (Err fault) = record { number = number_of fault; repetitions = 0; explicit = 0 }

unfoldable pub size_of : Grid → ℕ → SizeAnswer
size_of g axis = cond (is_axis axis) (size_answer (explicit_size g (axis_of axis))) (record { number = count; repetitions = 0; explicit = 0 })

-- a count, or a refusal and 0
abbrev pub counted : ℕ → CountAnswer
counted n = record { number = 0; count = n }

abbrev pub uncounted : ℕ → CountAnswer
uncounted n = record { number = n; count = 0 }

-- the numbers and values of what a call that counts answers
abbrev pub answered_count_numbers : Result ℕ Fault → CountAnswer
answered_count_numbers (Ok n) = counted n
answered_count_numbers (Err fault) = uncounted (number_of fault)

unfoldable pub line_count_of : Grid → ℕ → CountAnswer
line_count_of g axis = cond (is_axis axis) (counted (line_count_in g (axis_of axis))) (uncounted count)

unfoldable pub record_count_of : Grid → ℕ → CountAnswer
record_count_of g axis = cond (is_axis axis) (counted (records_in (axis_tracks (grid_in g (axis_of axis))))) (uncounted count)

-- ---- `palgwern_resolve_placement`

-- a mark is 1 where it is set
abbrev pub mark_number : Bool → ℕ
mark_number true = 1
mark_number false = 0

-- its axis, 2 more where it is a cell's half; kinds 0 `auto`, 1 `line`, 3 `span`, each with its number, and the marks of both ends
unfoldable pub placement_numbers : PlacementAnswer → PlacementNumbers
placement_numbers a =
    record {
      number = a.refusal.number;
      axis = axis_mark a.axis a.cell;
      startkind = resolved_kind_of a.line.start;
      startnumber = resolved_number_of a.line.start;
      endkind = resolved_kind_of a.line.end;
      endnumber = resolved_number_of a.line.end;
      startheld = mark_number a.held.start;
      endheld = mark_number a.held.end;
    }

-- ---- `palgwern_line_name`

-- where the name of an entry lies in a store of so many bytes: cut where the store ends
abbrev pub name_part : ℕ → NameEntry → NameAnswer
name_part bytes e = record { number = 0; offset = min e.offset bytes; length = min e.length (bytes - e.offset) }

-- where a name lies, or a refusal and zeros
abbrev pub answered_name : Result NameAnswer Fault → NameAnswer
answered_name (Ok part) = part
answered_name (Err fault) = record { number = number_of fault; offset = 0; length = 0 }
