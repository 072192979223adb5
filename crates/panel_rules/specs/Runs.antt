-- Runs: "any accepted panel and then any list of entry calls on it, refused ones included"; each call gets what the last returned and left.
-- They step by exactly the definitions that the contracts of `read_sheet` and `enter_name` cite.
use Rattle.std.specs.Prelude.{ℕ, ◌≡◌, List, [], ◌∷◌, length}
use Rattle.coordinates.specs.declared.axis.Axis.{Axis}
use Rattle.coordinates.specs.Refusals.{Refusal, no_refusal}
use Rattle.name_rules.specs.Css.{Bytes}
use Rattle.name_entries.specs.LineNames.{of_axis}
use Rattle.track_rules.specs.declared.GridTrack.{GridTrack}
use Rattle.track_rules.specs.Tracks.{RecordAnswer}
use Rattle.track_run.specs.Run.{FillAnswer}
use Rattle.track_run.specs.Run.{fill_answer_of, run_after}
use Rattle.axis_tables.specs.declared.AxisGrid.{AxisGrid}
use Rattle.axis_tables.specs.declared.AxisSize.{AxisSize}
use Rattle.panel_tables.specs.declared.Panel.{Panel}
use Rattle.panel_tables.specs.Axes.{grid_in}
use Rattle.sheet_rules.specs.Panels.{Tables}
use Rattle.sheet_rules.specs.Read.{read_sheet}
use Rattle.panel_rules.specs.Placing.{PlacementAnswer}
use Rattle.panel_rules.specs.Calls.{NameTables, NamedWords, EnteredName, enter_name, template_in, spares_in, axis_tracks, explicit_size, line_count_in, line_name_in, track_record, words_in}
use Rattle.panel_rules.specs.Placing.{resolve_placement}

-- the state and everything lent with it
pub record Held : Type 0 where
  pub panel : Panel
  pub tables : Tables

abbrev pub names_of : Tables → NameTables
names_of t = record { columns = t.columns; rows = t.rows; column_store = t.column_store; row_store = t.row_store }

abbrev pub with_names : Tables → NameTables → Tables
with_names t n =
    record {
      columns = n.columns;
      rows = n.rows;
      column_marks = t.column_marks;
      row_marks = t.row_marks;
      areas = t.areas;
      area_bytes = t.area_bytes;
      placements = t.placements;
      placement_bytes = t.placement_bytes;
      column_store = n.column_store;
      row_store = n.row_store;
    }

abbrev pub areas_of : Tables → NamedWords
areas_of t = record { words = t.areas; bytes = t.area_bytes }

abbrev pub placements_of : Tables → NamedWords
placements_of t = record { words = t.placements; bytes = t.placement_bytes }

-- the item marks of an axis
abbrev pub marks_of : Tables → Axis → List ℕ
marks_of t a = of_axis a t.column_marks t.row_marks

-- ---- the calls

-- a direct entry: any axis, any line number, any bytes
pub record Call : Type 0 where
  pub axis : Axis
  pub line : ℕ
  pub name : Bytes

abbrev pub entered : Held → Call → EnteredName
entered h c = enter_name h.panel (names_of h.tables) c.axis c.line c.name

-- the refusal that a call answers, and what is held after it
abbrev pub refusal_in : Held → Call → Refusal
refusal_in h c = (entered h c).answer.refusal

abbrev pub after : Held → Call → Held
after h c = record { panel = (entered h c).answer.panel; tables = with_names h.tables (entered h c).tables }

-- the calls one after the other
unfoldable pub after_calls : Held → List Call → Held
after_calls h [] = h
after_calls h (c ∷ cs) = after_calls (after h c) cs

-- ---- a run

abbrev pub Accepted : List ℕ → Tables → Type 0
Accepted sheet t = (read_sheet sheet t).answer.refusal ≡ no_refusal

-- what is held after a sheet
abbrev pub sheet_held : List ℕ → Tables → Held
sheet_held sheet t = record { panel = (read_sheet sheet t).answer.panel; tables = (read_sheet sheet t).tables }

-- and after the calls
abbrev pub run_of : List ℕ → Tables → List Call → Held
run_of sheet t calls = after_calls (sheet_held sheet t) calls

-- ---- the answers of the other calls on what is held

abbrev pub size_of : Held → Axis → AxisSize
size_of h a = explicit_size h.panel.grid a

abbrev pub placement_of : Held → ℕ → PlacementAnswer
placement_of h i = resolve_placement h.panel.grid (names_of h.tables) (areas_of h.tables) (placements_of h.tables) i

abbrev pub lists_of : Held → Axis → ℕ
lists_of h a = line_count_in h.panel.grid a

abbrev pub name_of : Held → Axis → ℕ → ℕ → Bytes
name_of h a line place = line_name_in h.panel.grid (names_of h.tables) a line place

-- a record, for any item bytes
abbrev pub record_with : Held → Axis → List ℕ → ℕ → RecordAnswer
record_with h a items index = track_record (grid_in h.panel.grid a) (words_in (names_of h.tables) a) items index

-- and for the sheet's marks
abbrev pub record_of : Held → Axis → ℕ → RecordAnswer
record_of h a index = record_with h a (marks_of h.tables a) index

-- a lent run of records after the call that fills it
abbrev pub run_with : Held → Axis → List ℕ → List GridTrack → List GridTrack
run_with h a items run =
    let g : AxisGrid = grid_in h.panel.grid a in
    let words : List ℕ = words_in (names_of h.tables) a in
    run_after (axis_tracks g) (template_in g words) (spares_in g words) items run

-- and what that call answers
abbrev pub fill_with : Held → Axis → List ℕ → List GridTrack → FillAnswer
fill_with h a items run = fill_answer_of (axis_tracks (grid_in h.panel.grid a)) (length run) (length items)
