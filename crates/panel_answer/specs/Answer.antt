-- The lines of an answer (document 01, panel sheet; document 02, Req 10).
use Rattle.std.specs.Prelude.{ℕ, suc, cond, List, [], ◌∷◌, ◌++◌}
use Rattle.coordinates.specs.declared.axis.Axis.{Axis}
use Rattle.coordinates.specs.declared.axis.Axis.TheVariants.{Column, Row}
use Rattle.track_rules.specs.declared.GridTrack.{GridTrack}
use Rattle.track_rules.specs.Records.{listed, records_in, records_of}
use Rattle.panel_tables.specs.declared.Grid.{Grid}
use Rattle.panel_tables.specs.Axes.{grid_in}
use Rattle.panel_tables.specs.declared.LentPanel.{LentPanel}
use Rattle.sheet_rules.specs.Panels.{Tables, tables_in}
use Rattle.panel_rules.specs.Placing.{PlacementAnswer}
use Rattle.panel_rules.specs.Calls.{words_in, template_in, spares_in, axis_tracks, explicit_size}
use Rattle.panel_rules.specs.Placing.{resolve_placement}
use Rattle.panel_rules.specs.Runs.{names_of, areas_of, placements_of, marks_of}
use Rattle.free_cells.specs.Words.{rectangle_in}
use Rattle.panel_text.specs.Lines.{size_line, record_line, place_line, cell_line}

-- what answers, everything lent with it, and a word for each cell in sheet order: where it lands
pub record GridHeld : Type 0 where
  pub grid : Grid
  pub tables : Tables
  pub lands : List ℕ

-- a grid, what is lent of its panel, and where its cells land
abbrev pub held_with : Grid → LentPanel → List ℕ → GridHeld
held_with grid x lands = record { grid = grid; tables = tables_in x.words.now x.bytes.now x.columnstore.now x.rowstore.now; lands = lands }

-- "`size`: axis, repetitions, explicit count"
abbrev pub size_line_of : GridHeld → Axis → List ℕ
size_line_of h a = size_line a (explicit_size h.grid a).repetitions (explicit_size h.grid a).explicit

-- the records of an axis, for the marks of its `item` lines
abbrev pub records_of_axis : GridHeld → Axis → List GridTrack
records_of_axis h a =
    let g = grid_in h.grid a in
    let words = words_in (names_of h.tables) a in
    records_of (axis_tracks g) (template_in g words) (spares_in g words) (marks_of h.tables a)

-- how many there are
abbrev pub record_count : GridHeld → Axis → ℕ
record_count h a = records_in (axis_tracks (grid_in h.grid a))

-- a line for each record from record i on
abbrev pub record_lines : ℕ → List GridTrack → List (List ℕ)
record_lines i [] = []
record_lines i (r ∷ rs) = record_line i r ∷ record_lines (suc i) rs

-- "`place`: axis, kind and number twice"; a cell's half has no line of its own
abbrev pub placed_line : PlacementAnswer → List ℕ
placed_line p = cond p.cell [] (place_line p.axis p.line)

abbrev pub place_line_of : GridHeld → ℕ → List ℕ
place_line_of h i = placed_line (resolve_placement h.grid (names_of h.tables) (areas_of h.tables) (placements_of h.tables) i)

-- `cell`, "its two column lines and two row lines"
abbrev pub cell_line_of : GridHeld → ℕ → List ℕ
cell_line_of h k = cell_line (rectangle_in h.lands k)

abbrev pub axis_lines : GridHeld → Axis → List (List ℕ)
axis_lines h a = size_line_of h a ∷ record_lines 0 (records_of_axis h a)

-- "columns come first, then rows, then placements in sheet order"; cells "print after the placements, in sheet order"
unfoldable pub answer_lines : GridHeld → List (List ℕ)
answer_lines h = axis_lines h Column ++ (axis_lines h Row ++ (listed (place_line_of h) h.grid.placements ++ listed (cell_line_of h) h.grid.cells))

-- lines one after the other
abbrev pub text_of : List (List ℕ) → List ℕ
text_of [] = []
text_of (l ∷ ls) = l ++ text_of ls
