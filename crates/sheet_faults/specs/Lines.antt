-- One line of a sheet on what a panel holds, whatever that is: the same faults as on its view. A line that is refused may have written:
-- the sheet's reader drops what it holds then.
use Rattle.std.specs.Prelude.{ℕ, List, cond, eqb}
use Rattle.sheet_forms.specs.Said.{Record}
use Rattle.sheet_forms.specs.Said.{Fault, Axis as AxisLine, Area, Name, Track, Repeat, End, Spare, Extra, Item, Place, PictureRow, Cell}
use Rattle.sheet_forms.specs.Words.{at}
use Rattle.sheet_forms.specs.Faults.{first_of}
use Rattle.sheet_forms.specs.Records.{record_of, fault_of}
use Rattle.panel_tables.specs.View.{next_line}
use Rattle.panel_tables.specs.Areas.{has_area_in}
use Rattle.panel_tables.specs.Axes.{reading_in}
use Rattle.panel_tables.specs.Written.{PanelHeld, PanelStepped}
use Rattle.panel_cells.specs.Steps.{first_sharing_in}
use Rattle.sheet_rules.specs.Lines.{late_at, edges_of}
use Rattle.sheet_rules.specs.Steps.{held_step}

-- twice: an area name or axis record again
abbrev pub twice_in : PanelHeld → List (List ℕ) → Record → ℕ
twice_in h fs (Fault n) = 0
twice_in h fs (AxisLine a) = cond (reading_in h.reading a.axis).seen 6 0
twice_in h fs (Area a) = cond (has_area_in h.panel.grid.areas h.areas h.area_bytes (at fs 1)) 6 0
twice_in h fs (Name a) = 0
twice_in h fs (Track a min max) = 0
twice_in h fs (Repeat a n) = 0
twice_in h fs (End a) = 0
twice_in h fs (Spare a min max) = 0
twice_in h fs (Extra a n p) = 0
twice_in h fs (Item a i) = 0
twice_in h fs (Place a s e) = 0
twice_in h fs (PictureRow n) = 0
twice_in h fs (Cell cs ce rs re) = 0

-- the place of a record in the kind order; a line that is no record keeps the one reached
abbrev pub stage_in : ℕ → Record → ℕ
stage_in stage (Fault n) = stage
stage_in stage (AxisLine a) = 0
stage_in stage (Area a) = 1
stage_in stage (Name a) = 3
stage_in stage (Track a min max) = 3
stage_in stage (Repeat a n) = 3
stage_in stage (End a) = 3
stage_in stage (Spare a min max) = 3
stage_in stage (Extra a n p) = 3
stage_in stage (Item a i) = 3
stage_in stage (Place a s e) = 3
stage_in stage (PictureRow n) = 2
stage_in stage (Cell cs ce rs re) = 3

-- late: a record earlier in kind than one before it
abbrev pub late_in : ℕ → Record → ℕ
late_in stage r = cond (late_at (stage_in stage r) stage) 7 0

-- of the faults that a record has before it is written, the one that comes first
unfoldable pub fault_before : PanelHeld → List (List ℕ) → Record → ℕ
fault_before h fs r = first_of (fault_of r) (first_of (twice_in h fs r) (late_in h.reading.stage r))

-- the number of the first area before it that shares a cell with an area, from 1; 0 where none does
abbrev pub shared_in : PanelHeld → Record → ℕ
shared_in h (Fault n) = 0
shared_in h (AxisLine a) = 0
shared_in h (Area a) = first_sharing_in h.panel.grid.areas h.areas (edges_of a)
shared_in h (Name a) = 0
shared_in h (Track a min max) = 0
shared_in h (Repeat a n) = 0
shared_in h (End a) = 0
shared_in h (Spare a min max) = 0
shared_in h (Extra a n p) = 0
shared_in h (Item a i) = 0
shared_in h (Place a s e) = 0
shared_in h (PictureRow n) = 0
shared_in h (Cell cs ce rs re) = 0

-- that number where an overlap is the first fault: after those before it is written, and before that of writing it
abbrev pub noted_by : ℕ → ℕ → ℕ → ℕ
noted_by before shared written = cond (eqb (first_of before (first_of (cond (eqb shared 0) 0 12) written)) 12) shared 0

-- one line more is read
abbrev pub at_stage : ℕ → PanelHeld → PanelHeld
at_stage n h =
    record {
      panel = h.panel;
      reading = record { stage = n; lines = next_line h.reading.lines; picture = h.reading.picture; columns = h.reading.columns; rows = h.reading.rows };
      columns = h.columns;
      rows = h.rows;
      column_marks = h.column_marks;
      row_marks = h.row_marks;
      column_bytes = h.column_bytes;
      row_bytes = h.row_bytes;
      areas = h.areas;
      area_bytes = h.area_bytes;
      placements = h.placements;
      placement_bytes = h.placement_bytes;
    }

-- the record is written, and of all its faults the one that comes first is the line's
unfoldable pub record_in : PanelHeld → List (List ℕ) → Record → PanelStepped
record_in h fs r =
    record {
      fault = first_of (fault_before h fs r) (held_step h fs r).fault;
      held = at_stage (stage_in h.reading.stage r) (held_step h fs r).held;
    }

-- a line as its fields
unfoldable pub line_in : PanelHeld → List (List ℕ) → PanelStepped
line_in h fs = record_in h fs (record_of fs)

-- the first area that it shares a cell with, where that is its first fault, else 0
unfoldable pub line_shared : PanelHeld → List (List ℕ) → ℕ
line_shared h fs = noted_by (fault_before h fs (record_of fs)) (shared_in h (record_of fs)) (held_step h fs (record_of fs)).fault
