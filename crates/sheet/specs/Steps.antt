-- The steps of reading a sheet: on the words that are lent, and under either rule.
use Rattle.std.specs.Prelude.{List, ℕ, ◌<◌, ◌≡◌, Bool, cond, eqb, replicate, Option, Some, None, Result, Ok, Err}
use Rattle.coordinates.specs.declared.axis.Axis.{Axis}
use Rattle.axis_tables.specs.declared.AxisState.{AxisState}
use Rattle.axis_tables.specs.Readings.{AxisReading}
use Rattle.axis_tables.specs.Runs.{with_part, put_bytes, part_of}
use Rattle.panel_tables.specs.Regions.{panel_words, panel_bytes, first_word, axis_words_in}
use Rattle.coordinates.specs.declared.refusal.Fault.{Fault}
use Rattle.coordinates.specs.Refusals.{overlap, number_of}
use Rattle.panel_tables.specs.Written.{zero_panel, zero_panel_reading, PanelHeld, panel_held_of}
use Rattle.sheet_rules.specs.declared.Overlap.{Overlap}
use Rattle.sheet_rules.specs.declared.LineFault.{LineFault}
use Rattle.sheet_rules.specs.declared.SheetFault.{SheetFault}
use Rattle.sheet_rules.specs.Answers.{SheetAnswer, noted, accepted_with, refused_with}
use Rattle.sheet_rules.specs.Panels.{Tables}
use Rattle.sheet_rules.specs.Sheet.{display_of, overlap_of}
use Rattle.sheet_rules.specs.Read.{SheetRead, read_by, read_sheet}
use Rattle.sheet_end.specs.End.{EndedAxis, end_in}
use Rattle.sheet.specs.declared.ReadPanel.{ReadPanel}
use Rattle.sheet.specs.Runs.{HeldRun}

-- an ended axis, put back among the words
abbrev pub back_in : Axis → List ℕ → EndedAxis → EndedAxis
back_in a w x = record { answer = x.answer; words = with_part w (first_word a) 12480 x.words }

-- an axis ends in its part of the words
unfoldable pub ended_in : Axis → AxisState → AxisReading → List ℕ → EndedAxis
ended_in a s r w = back_in a w (end_in s r (axis_words_in a w))

-- ---- what lines and end are refused by

-- a line that may be absent: 0 where there is none. Lines are numbered from 1
abbrev pub line_or_none : Option ℕ → ℕ
line_or_none None = 0
line_or_none (Some n) = n

abbrev pub IsLine : Option ℕ → Type 0
IsLine None = Unit {0}
IsLine (Some n) = 0 < n

-- the number of a fault at a line, 0 where there is none
abbrev pub fault_in : {A : Type 0} → Result A LineFault → ℕ
fault_in (Ok a) = 0
fault_in (Err f) = number_of f.fault

-- where the lines stop: at a refused one, or before the line after the last
abbrev pub stop_in : Result ℕ LineFault → ℕ
stop_in (Ok n) = n
stop_in (Err f) = f.line

-- the line of a refusal, 0 where there is none
abbrev pub line_of : Result (Unit {0}) LineFault → ℕ
line_of (Ok u) = 0
line_of (Err f) = f.line

-- a fault at a line
abbrev pub at_line : ℕ → Result (Unit {0}) Fault → Result (Unit {0}) LineFault
at_line n (Ok u) = Ok u
at_line n (Err fault) = Err (record { fault = fault; line = n })

-- a sheet ends as a run does: refused at the same line, or not, with what the run holds
abbrev pub EndsAsRun : Result (Unit {0}) LineFault → PanelHeld → HeldRun → Type 0
EndsAsRun (Ok u) h r = (r.fault ≡ 0) × (h ≡ r.held)
EndsAsRun (Err f) h r = (number_of f.fault ≡ r.fault) × (f.line ≡ r.line)

-- ---- under the former rule, by which an overlap is no fault, or the new one

-- a refusal with zeros, or none
abbrev pub refused_answer : ℕ → ℕ → SheetAnswer
refused_answer number line = record { refusal = record { number = number; line = line }; earlier = 0; later = 0; panel = zero_panel }

-- an overlap with its pair
abbrev pub overlap_answer : Overlap → SheetAnswer
overlap_answer p = record { refusal = record { number = overlap; line = p.line }; earlier = p.earlier; later = p.later; panel = zero_panel }

-- what lines and end are refused by
abbrev pub judged_by : Bool → Overlap → ℕ → ℕ → SheetAnswer
judged_by former p fault line = cond former (refused_answer fault line) (cond (eqb p.later 0) (refused_answer fault line) (overlap_answer p))

-- what a sheet is refused by, if it is
abbrev pub judgement : Result (Unit {0}) SheetFault → SheetAnswer
judgement (Ok u) = refused_answer 0 0
judgement (Err fault) = refused_with fault

-- ---- what is lent, and what is read into

-- zeros
abbrev pub zero_held : PanelHeld
zero_held = panel_held_of zero_panel zero_panel_reading (replicate panel_words 0) (replicate panel_bytes 0) (replicate 32768 0) (replicate 32768 0)

-- once the tables of what is held are copied out: the names of an axis at the start of its store, of which the rest stays
abbrev pub copied : PanelHeld → List ℕ → List ℕ → Tables
copied h column_store row_store =
    record {
      columns = h.columns;
      rows = h.rows;
      column_marks = h.column_marks;
      row_marks = h.row_marks;
      areas = h.areas;
      area_bytes = h.area_bytes;
      placements = h.placements;
      placement_bytes = h.placement_bytes;
      column_store = put_bytes column_store 0 (part_of h.column_bytes 0 h.panel.room.columns.used);
      row_store = put_bytes row_store 0 (part_of h.row_bytes 0 h.panel.room.rows.used);
    }

-- a panel with the first overlap of its sheet, or why it is refused
abbrev pub answered_read : Result ReadPanel SheetFault → SheetAnswer
answered_read (Ok r) = accepted_with (noted r.overlap) r.panel
answered_read (Err fault) = refused_with fault

unfoldable pub read_under : Bool → List ℕ → Tables → SheetRead
read_under former s t = cond former (read_by (overlap_of s) (display_of s) t) (read_sheet s t)
