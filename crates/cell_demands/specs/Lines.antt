-- Document 02, Req 10, from the lines of a sheet to the answer of a placing: its cells are the `cell` lines of the sheet, in order, each settled
-- as the two halves of its line, and "an item" is refused "by 15, at its line". proofs/ proves it of every accepted sheet, after any entry calls.
use Rattle.std.specs.Prelude.{ℕ, ◌+◌, ◌<◌, ◌≡◌, List, length, get_or, Result, Ok, Err}
use Rattle.coordinates.specs.declared.axis.Axis.{Axis}
use Rattle.coordinates.specs.declared.axis.Axis.TheVariants.{Column, Row}
use Rattle.coordinates.specs.declared.refusal.Fault.TheVariants.{Unplaced}
use Rattle.coordinates.specs.Axes.{of_axis}
use Rattle.name_resolver.specs.Placements.{resolved_ends}
use Rattle.panel_tables.specs.Placements.{cell_line}
use Rattle.sheet_rules.specs.declared.LineFault.{LineFault}
use Rattle.sheet_rules.specs.Contents.{Line, lines_of, cells_from}
use Rattle.sheet_rules.specs.Panels.{Tables}
use Rattle.panel_rules.specs.Runs.{Held, names_of, areas_of, placements_of, Call, Accepted, run_of, size_of}
use Rattle.panel_demands.specs.Cells.{CellLine, half_at, settled_half}
use Rattle.panel_hits.specs.Settled.{Lent, settled}
use Rattle.cell_sides.specs.Css.{CssSide}
use Rattle.free_cells.specs.Free.{last_row_line}
use Rattle.cell_placing.specs.declared.Item.{Item}
use Rattle.cell_placing.specs.declared.Packing.{Packing}
use Rattle.cell_placing.specs.Css.{Answers}
use Rattle.panel_placing.specs.Cells.{cells_in, CellsAnswered}

-- ---- the cells

-- what is lent to a placing on what a run holds
abbrev pub lent_by : Held → Lent
lent_by h = record { names = names_of h.tables; areas = areas_of h.tables; placements = placements_of h.tables }

-- the cells that it places
abbrev pub cells_by : Held → List ℕ
cells_by h = cells_in h.panel.grid (lent_by h)

-- the numbers of the `cell` lines of a sheet
abbrev pub cell_lines : List ℕ → List ℕ
cell_lines s = cells_from 1 (lines_of s)

-- how many of them stand in the lines before: which cell the next one is
abbrev pub cell_after : List Line → ℕ
cell_after before = length (cells_from 1 before)

-- the cell of the line after these
pub record CellOfLine (h : Held) (before : List Line) : Type 0 where
  pub placed : cell_after before < length (cells_by h)
  -- its columns are the first of the halves of that line
  pub columns : get_or (cells_by h) (cell_after before) 0 ≡ half_at before Column
  -- and both are settled as demands 2 and 3 say
  pub halves : (a : Axis) → settled h.panel.grid (lent_by h) (get_or (cells_by h) (cell_after before) 0 + of_axis a 0 1) ≡ settled_half h before a
  -- its line is the number of that line
  pub line : cell_line h.tables.placements (cell_after before) ≡ length before + 1

-- the line of the sheet that gives cell k
pub record LineOf (s : List ℕ) (k : ℕ) : Type 0 where
  pub before : List Line
  pub line : Line
  pub after : List Line
  pub gives : CellLine s before line after
  pub number : cell_after before ≡ k

-- the cells are those of the `cell` lines, no more and no fewer
pub record CellsOfLines (s : List ℕ) (h : Held) : Type 0 where
  pub count : length (cells_by h) ≡ length (cell_lines s)
  pub each : (before after : List Line) (l : Line) → CellLine s before l after → CellOfLine h before
  pub every : (k : ℕ) → k < length (cells_by h) → LineOf s k

abbrev pub CellsAreLines : Type 0
CellsAreLines = (s : List ℕ) (t : Tables) (calls : List Call) → Accepted s t → CellsOfLines s (run_of s t calls)

-- ---- where they land

-- the sides of the cell of the line after these, by CSS (8.3.1) from its settled fields: "columns fixed at the explicit count and rows growing up
-- to 10,000"
pub record LineSides (h : Held) (before : List Line) (item : Item) : Type 0 where
  pub column : CssSide (size_of h Column).explicit ((size_of h Column).explicit + 1) (resolved_ends (settled_half h before Column).line) item.column
  pub row : CssSide (size_of h Row).explicit last_row_line (resolved_ends (settled_half h before Row).line) item.row

-- how many `cell` lines there are; or "15, at its line"
abbrev pub answer_on : List ℕ → Result (Unit {0}) ℕ → Result ℕ LineFault
answer_on s (Ok all) = Ok (length (cell_lines s))
answer_on s (Err k) = Err (record { fault = Unplaced; line = get_or (cell_lines s) k 0 })

-- what is answered, and what the lent words hold then: what CSS (8.5) comes to for the `cell` lines, in sheet order
pub record LinesPlaced (s : List ℕ) (h : Held) (packing : Packing) (old new : List ℕ) (r : Result ℕ LineFault) : Type 0 where
  pub items : ℕ → Item
  pub sides : (before after : List Line) (l : Line) → CellLine s before l after → LineSides h before (items (cell_after before))
  pub outcome : Result (Unit {0}) ℕ
  pub lands : Answers packing ((size_of h Column).explicit + 1) (length (cell_lines s)) items old new outcome
  pub answers : r ≡ answer_on s outcome

-- of each answer that the contract of `place_cells` lets through
abbrev pub CellsPlaced : Type 0
CellsPlaced =
    (s : List ℕ) (t : Tables) (calls : List Call) → Accepted s t → (packing : Packing) (old new : List ℕ) (r : Result ℕ LineFault)
    → CellsAnswered (run_of s t calls).panel.grid (lent_by (run_of s t calls)) packing old new r → LinesPlaced s (run_of s t calls) packing old new r
