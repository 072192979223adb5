-- The step of a line on what a panel holds, whatever that is: the small state and the tables.
use Rattle.std.specs.Prelude.{ℕ, ◌+◌, List, Bool, true, cond, eqb, leb, drop}
use Rattle.coordinates.specs.declared.axis.Axis.{Axis}
use Rattle.coordinates.specs.declared.axis.Axis.TheVariants.{Column, Row}
use Rattle.sheet_forms.specs.Said.{Record}
use Rattle.sheet_forms.specs.Said.{Fault, Axis as AxisLine, Area, Name, Track, Repeat, End, Spare, Extra, Item, Place, PictureRow, Cell}
use Rattle.sheet_forms.specs.Words.{at}
use Rattle.axis_tables.specs.Store.{put, InWords, InMarks, InNames, put_track, open_repeat, close_repeat, put_name, put_spare, put_item, put_extra, put_axis}
use Rattle.axis_tables.specs.Written.{Held}
use Rattle.axis_tables.specs.Store.{AxisPut}
use Rattle.panel_tables.specs.View.{next_line}
use Rattle.panel_tables.specs.Areas.{put_area}
use Rattle.panel_tables.specs.Placements.{put_placement, put_cell}
use Rattle.panel_tables.specs.Written.{PanelHeld, PanelStepped, of_areas, of_placements}
use Rattle.panel_tables.specs.Axes.{state_in, held_in}
use Rattle.picture_rules.specs.Picture.{Word}
use Rattle.picture_areas.specs.Runs.{InPicture}
use Rattle.picture_rows.specs.Steps.{row_in}
use Rattle.sheet_forms.specs.Faults.{first_of}
use Rattle.panel_tables.specs.Readings.{PictureReading}
use Rattle.sheet_rules.specs.Lines.{bit, late_at, edges_of, placed_end}

-- what is held of an axis
abbrev pub axis_held : PanelHeld → Axis → Held
axis_held h Column = record { answer = put 0 (state_in h.panel Column) h.reading.columns; words = h.columns; marks = h.column_marks; bytes = h.column_bytes }
axis_held h Row = record { answer = put 0 (state_in h.panel Row) h.reading.rows; words = h.rows; marks = h.row_marks; bytes = h.row_bytes }

-- an axis with an answer, and its words, marks or names
abbrev pub answered : Held → AxisPut → Held
answered h x = record { answer = x; words = h.words; marks = h.marks; bytes = h.bytes }

abbrev pub in_words : Held → InWords → Held
in_words h x = record { answer = x.answer; words = x.words; marks = h.marks; bytes = h.bytes }

abbrev pub in_marks : Held → InMarks → Held
in_marks h x = record { answer = x.answer; words = h.words; marks = x.marks; bytes = h.bytes }

abbrev pub in_names : Held → InNames → Held
in_names h x = record { answer = x.answer; words = x.words; marks = h.marks; bytes = x.bytes }

abbrev pub stayed : PanelHeld → PanelStepped
stayed h = record { fault = 0; held = h }

-- what a record does to an axis
abbrev pub axis_record : Held → List (List ℕ) → Record → Held
axis_record h fs (Fault n) = h
axis_record h fs (AxisLine a) = answered h (put_axis h.answer.state h.answer.reading (bit a.definite) a.inner a.rule a.gap)
axis_record h fs (Area a) = h
axis_record h fs (Name a) = in_names h (put_name h.answer.state h.answer.reading h.words h.bytes (at fs 2))
axis_record h fs (Track a min max) = in_words h (put_track h.answer.state h.answer.reading h.words min max)
axis_record h fs (Repeat a n) = answered h (open_repeat h.answer.state h.answer.reading n.kind n.number)
axis_record h fs (End a) = in_words h (close_repeat h.answer.state h.answer.reading h.words)
axis_record h fs (Spare a min max) = in_words h (put_spare h.answer.state h.answer.reading h.words min max)
axis_record h fs (Extra a n p) = answered h (put_extra h.answer.state h.answer.reading n p)
axis_record h fs (Item a i) = in_marks h (put_item h.answer.state h.answer.reading h.marks i)
axis_record h fs (Place a s e) = h
axis_record h fs (PictureRow n) = h
axis_record h fs (Cell cs ce rs re) = h

abbrev pub on_held : PanelHeld → Axis → List (List ℕ) → Record → PanelStepped
on_held h a fs r = held_in h a (axis_record (axis_held h a) fs r)

-- ---- a row of a picture

-- another width than the first row's is 13
abbrev pub width_fault : PictureReading → ℕ → ℕ
width_fault p width = cond (eqb p.rows 0) 0 (cond (eqb width p.width) 0 13)

-- what is kept after a row; nothing mends a broken picture
abbrev pub with_row : PictureReading → ℕ → Bool → PictureReading
with_row p width broken = record { rows = p.rows + 1; width = width; broken = cond broken true p.broken }

-- a row that is drawn into the table of areas, beside the tables that it does not touch
abbrev pub of_row : PanelHeld → ℕ → InPicture → PanelStepped
of_row h width x =
    record {
      fault = first_of x.answer.fault (width_fault h.reading.picture width);
      held = record {
        panel = x.answer.panel;
        reading = record { stage = h.reading.stage; lines = h.reading.lines; picture = with_row h.reading.picture width x.answer.broken; columns = h.reading.columns; rows = h.reading.rows };
        columns = h.columns;
        rows = h.rows;
        column_marks = h.column_marks;
        row_marks = h.row_marks;
        column_bytes = h.column_bytes;
        row_bytes = h.row_bytes;
        areas = x.words;
        area_bytes = x.bytes;
        placements = h.placements;
        placement_bytes = h.placement_bytes;
      };
    }

-- words of a row, and how many there are; 8 for a 10,001st row
unfoldable pub held_row : PanelHeld → List Word → ℕ → PanelStepped
held_row h ws width =
    cond (leb 10000 h.reading.picture.rows) (record { fault = 8; held = h })
    (of_row h width (row_in h.panel h.areas h.area_bytes ws (h.reading.picture.rows + 1)))

-- ---- and to the panel

unfoldable pub held_step : PanelHeld → List (List ℕ) → Record → PanelStepped
held_step h fs (Fault n) = stayed h
held_step h fs (AxisLine a) = on_held h a.axis fs (AxisLine a)
held_step h fs (Area a) = of_areas h (put_area h.panel h.areas h.area_bytes (at fs 1) (edges_of a))
held_step h fs (Name a) = on_held h a fs (Name a)
held_step h fs (Track a min max) = on_held h a fs (Track a min max)
held_step h fs (Repeat a n) = on_held h a fs (Repeat a n)
held_step h fs (End a) = on_held h a fs (End a)
held_step h fs (Spare a min max) = on_held h a fs (Spare a min max)
held_step h fs (Extra a n p) = on_held h a fs (Extra a n p)
held_step h fs (Item a i) = on_held h a fs (Item a i)
held_step h fs (Place a s e) =
    of_placements h
    (put_placement h.panel h.placements h.placement_bytes a (placed_end (at fs 3) s) (placed_end (at fs 6) e))
held_step h fs (Cell cs ce rs re) =
    of_placements h
    (put_cell h.panel h.placements h.placement_bytes (next_line h.reading.lines) (placed_end (at fs 2) cs) (placed_end (at fs 5) ce) (placed_end (at fs 8) rs) (placed_end (at fs 11) re))
held_step h fs (PictureRow n) = cond (late_at 2 h.reading.stage) (stayed h) (held_row h (drop 1 fs) n)
