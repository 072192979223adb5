-- What one line of a sheet does to the panel that the lines before it describe (document 01, panel sheet and the table of refusals;
-- SHEET.md, Lines of a sheet).
use Rattle.std.specs.Prelude.{ℕ, List, [], Bool, cond, ◌&&◌, ◌||◌, eqb, ltb, drop}
use Rattle.sheet_forms.specs.Said.{Record}
use Rattle.sheet_forms.specs.Said.{Fault, Axis as AxisLine, Area, Name, Track, Repeat, End, Spare, Extra, Item, Place, PictureRow, Cell}
use Rattle.sheet_forms.specs.declared.AreaRecord.{AreaRecord}
use Rattle.sheet_forms.specs.Said.{PlaceEnd}
use Rattle.sheet_forms.specs.Words.{at}
use Rattle.sheet_forms.specs.Faults.{first_of}
use Rattle.sheet_forms.specs.Ends.{uses_name}
use Rattle.sheet_forms.specs.Records.{record_of, fault_of}
use Rattle.axis_tables.specs.View.{track_step, repeat_step, end_step, name_step, spare_step, item_step, extra_step, axis_step}
use Rattle.panel_tables.specs.declared.AreaEdges.{AreaEdges}
use Rattle.panel_tables.specs.View.{PanelView, PanelOutcome, End as PlacedEnd, has_area, refused, accepted, area_step, place_step, next_line, cell_step}
use Rattle.panel_tables.specs.Axes.{view_in, step_in}
use Rattle.panel_cells.specs.Steps.{first_sharing}
use Rattle.sheet_rules.specs.Pictures.{picture_step}

-- ---- the kind order

-- a place in it is late after a later one; "a row after an area record is late", though both have one place in document 01's order
abbrev pub late_at : ℕ → ℕ → Bool
late_at place stage = ltb place stage || (eqb place 2 && eqb stage 1)

-- ---- what the record of a line writes, and the fault of its own: 1 by nesting, 8 by a limit, 13 by the width of a row

abbrev pub bit : Bool → ℕ
bit b = cond b 1 0

abbrev pub edges_of : AreaRecord → AreaEdges
edges_of a = record { rowstart = a.rowstart; rowend = a.rowend; columnstart = a.columnstart; columnend = a.columnend }

-- an end with its name, which is empty where it is unused
abbrev pub placed_end : List ℕ → PlaceEnd → PlacedEnd
placed_end f e = record { end = record { kind = e.kind; number = e.number }; name = cond (uses_name e.kind) f [] }

-- what a record makes of a view; a late row draws nothing
unfoldable pub record_step : PanelView → List (List ℕ) → Record → PanelOutcome
record_step v fs (Fault n) = accepted v
record_step v fs (AxisLine a) = step_in v a.axis (axis_step (view_in v a.axis) (bit a.definite) a.inner a.rule a.gap)
record_step v fs (Area a) = area_step v (at fs 1) (edges_of a)
record_step v fs (Name a) = step_in v a (name_step (view_in v a) (at fs 2))
record_step v fs (Track a min max) = step_in v a (track_step (view_in v a) min max)
record_step v fs (Repeat a n) = step_in v a (repeat_step (view_in v a) n.kind n.number)
record_step v fs (End a) = step_in v a (end_step (view_in v a))
record_step v fs (Spare a min max) = step_in v a (spare_step (view_in v a) min max)
record_step v fs (Extra a n p) = step_in v a (extra_step (view_in v a) n p)
record_step v fs (Item a i) = step_in v a (item_step (view_in v a) i)
record_step v fs (Place a s e) = place_step v a (placed_end (at fs 3) s) (placed_end (at fs 6) e)
record_step v fs (Cell cs ce rs re) = cell_step v (placed_end (at fs 2) cs) (placed_end (at fs 5) ce) (placed_end (at fs 8) rs) (placed_end (at fs 11) re)
record_step v fs (PictureRow n) = cond (late_at 2 v.stage) (accepted v) (picture_step v (drop 1 fs))

-- ---- faults by the lines before it

-- twice: an area name or axis record again
abbrev pub twice_fault : PanelView → List (List ℕ) → Record → ℕ
twice_fault v fs (Fault n) = 0
twice_fault v fs (AxisLine a) = cond (eqb (view_in v a.axis).line.seen 0) 0 6
twice_fault v fs (Area a) = cond (has_area (at fs 1) v.areas) 6 0
twice_fault v fs (Name a) = 0
twice_fault v fs (Track a min max) = 0
twice_fault v fs (Repeat a n) = 0
twice_fault v fs (End a) = 0
twice_fault v fs (Spare a min max) = 0
twice_fault v fs (Extra a n p) = 0
twice_fault v fs (Item a i) = 0
twice_fault v fs (Place a s e) = 0
twice_fault v fs (PictureRow n) = 0
twice_fault v fs (Cell cs ce rs re) = 0

-- "kind order: `axis`, then `area`, then the rest, freely mixed"; a line that is no record has no place in it. "Rows stand where area records do"
abbrev pub stage_of : PanelView → Record → ℕ
stage_of v (Fault n) = v.stage
stage_of v (AxisLine a) = 0
stage_of v (Area a) = 1
stage_of v (Name a) = 3
stage_of v (Track a min max) = 3
stage_of v (Repeat a n) = 3
stage_of v (End a) = 3
stage_of v (Spare a min max) = 3
stage_of v (Extra a n p) = 3
stage_of v (Item a i) = 3
stage_of v (Place a s e) = 3
stage_of v (PictureRow n) = 2
stage_of v (Cell cs ce rs re) = 3

-- late: a record earlier in kind than one before it
abbrev pub late_fault : PanelView → Record → ℕ
late_fault v r = cond (late_at (stage_of v r) v.stage) 7 0

-- the number of the first area before it that shares a cell with an area, from 1; 0 where none does
abbrev pub shared_with : PanelView → Record → ℕ
shared_with v (Fault n) = 0
shared_with v (AxisLine a) = 0
shared_with v (Area a) = first_sharing (edges_of a) v.areas
shared_with v (Name a) = 0
shared_with v (Track a min max) = 0
shared_with v (Repeat a n) = 0
shared_with v (End a) = 0
shared_with v (Spare a min max) = 0
shared_with v (Extra a n p) = 0
shared_with v (Item a i) = 0
shared_with v (Place a s e) = 0
shared_with v (PictureRow n) = 0
shared_with v (Cell cs ce rs re) = 0

-- overlap: an area that shares a cell with one before it (document 02, request 03)
abbrev pub overlap_fault : PanelView → Record → ℕ
overlap_fault v r = cond (eqb (shared_with v r) 0) 0 12

-- ---- the line

-- of all its faults but an overlap the one that comes first
unfoldable pub record_fault : PanelView → List (List ℕ) → Record → ℕ
record_fault v fs r = first_of (fault_of r) (first_of (twice_fault v fs r) (first_of (late_fault v r) (record_step v fs r).fault))

-- one line more is accepted
abbrev pub at_stage : ℕ → PanelView → PanelView
at_stage n v =
    record {
      columns = v.columns;
      rows = v.rows;
      areas = v.areas;
      picture = v.picture;
      placements = v.placements;
      cells = v.cells;
      stage = n;
      lines = next_line v.lines;
    }

-- a refused line changes nothing
abbrev pub record_outcome : PanelView → List (List ℕ) → Record → PanelOutcome
record_outcome v fs r =
    cond (eqb (record_fault v fs r) 0) (accepted (at_stage (stage_of v r) (record_step v fs r).panel)) (refused (record_fault v fs r) v)

-- and of all its faults
unfoldable pub strict_fault : PanelView → List (List ℕ) → Record → ℕ
strict_fault v fs r = first_of (first_of (fault_of r) (first_of (twice_fault v fs r) (late_fault v r))) (first_of (overlap_fault v r) (record_step v fs r).fault)

-- a line as its fields: the first of all its faults
unfoldable pub line_fault : PanelView → List (List ℕ) → ℕ
line_fault v fs = strict_fault v fs (record_of fs)

-- the first area that it shares a cell with, where that is its first fault, else 0
unfoldable pub shared_at : PanelView → List (List ℕ) → ℕ
shared_at v fs = cond (eqb (line_fault v fs) 12) (shared_with v (record_of fs)) 0

-- what it does where an overlap is no fault
unfoldable pub line_step : PanelView → List (List ℕ) → PanelOutcome
line_step v fs = record_outcome v fs (record_of fs)
