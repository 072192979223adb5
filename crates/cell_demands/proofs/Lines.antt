-- The cells that are placed after a run are those of the `cell` lines of its sheet. Assumes nothing.
use Prim.Native.Nat.{ℕ, ◌+◌, ◌-◌, ◌<◌}
use mathlib.Core.Path.{◌≡◌, ap, ap₂, ◌∙◌}
use mathlib.Core.List.{List}
use native.Mathlib.Omega.{arith}
use lib.ListN.{length, get_or, take}
use lib.Seq.{take-length}
use Rattle.coordinates.specs.declared.axis.Axis.{Axis}
use Rattle.coordinates.specs.declared.axis.Axis.TheVariants.{Column}
use Rattle.coordinates.specs.Axes.{of_axis}
use Rattle.panel_tables.specs.View.{PanelView}
use Rattle.panel_tables.specs.Placements.{cell_line}
use Rattle.panel_tables.specs.Written.{placement_words}
use Rattle.panel_tables.proofs.Fits.{FitsPanel}
use Rattle.placement_hits.specs.Steps.{passing}
use Rattle.sheet_rules.specs.Sheet.{sheet_of}
use Rattle.sheet_rules.specs.Contents.{Line, lines_of, placements_of, PanelSays}
use Rattle.sheet_rules.specs.Panels.{Tables, sized_panel, tables_of}
use Rattle.sheet_rules.proofs.Contents.{view_says}
use Rattle.sheet_rules.proofs.Fits.{sheet_fits}
use Rattle.panel_rules.specs.Runs.{Held, Call, Accepted, run_of, placement_of}
use Rattle.panel_rules.specs.Views.{held_after}
use Rattle.panel_rules.proofs.Sheets.{accepted_sheet}
use Rattle.panel_rules.proofs.Held.{run-held}
use Rattle.panel_demands.specs.Cells.{CellLine, half_at, settled_half}
use Rattle.panel_demands.proofs.Cells.{cell_settled}
use Rattle.panel_hits.specs.Settled.{settled}
use Rattle.panel_placing.specs.Held.{cell_of, HeldCells}
use Rattle.panel_placing.proofs.Held.{cells-held}
use Rattle.cell_demands.specs.Lines.{lent_by, cells_by, cell_lines, cell_after, CellOfLine, LineOf, CellsAreLines}
use Rattle.cell_demands.proofs.Starts.{cells_among, passing_among, starts, among_starts, starts_counted, start_at, start_held, Found, line_found}

module _ (s : List ℕ) (t : Tables) (calls : List Call) (ok : Accepted s t) where
  abbrev v : PanelView
  v = (sheet_of s).view

  abbrev h : Held
  h = run_of s t calls

  says : PanelSays (lines_of s) v
  says = view_says s (accepted_sheet s t ok).0

  fits : FitsPanel v
  fits = sheet_fits s

  -- ---- what is held

  pub words-held : h.tables.placements ≡ placement_words v.placements v.cells
  unfolding held_after tables_of
  words-held = ap (λ (x : Held). x.tables.placements) (run-held s t calls ok)

  placements-held : h.panel.grid.placements ≡ length v.placements
  unfolding held_after sized_panel
  placements-held = ap (λ (x : Held). x.panel.grid.placements) (run-held s t calls ok)

  count-held : h.panel.grid.cells ≡ length v.cells
  unfolding held_after sized_panel
  count-held = ap (λ (x : Held). x.panel.grid.cells) (run-held s t calls ok)

  -- ---- the cells

  -- they are those of the view, and so are their lines
  held : HeldCells v h.panel.grid (lent_by h)
  held = cells-held v fits h.panel.grid (lent_by h) (record { placements = placements-held; cells = count-held; words = words-held })

  all-starts : passing (cell_of v.placements) 0 (length v.placements - 1) ≡ starts 0 (lines_of s)
  all-starts =
      passing_among (cell_of v.placements) 0 v.placements (λ i k. let z : 0 + i ≡ i = omega arith in ap (cell_of v.placements) z)
      ∙ ap (cells_among 0) says.placements
      ∙ among_starts 0 (lines_of s)

  cells-there : cells_by h ≡ starts 0 (lines_of s)
  cells-there =
      let n : length v.cells ≡ length (starts 0 (lines_of s)) = omega (arith, ap length says.cells, starts_counted 0 1 (lines_of s)) in
      held.cells ∙ ap₂ (λ (k : ℕ) (l : List ℕ). take k l) n all-starts ∙ take-length (starts 0 (lines_of s))

  pub counted : length (cells_by h) ≡ length (cell_lines s)
  counted = ap length cells-there ∙ starts_counted 0 1 (lines_of s)

  -- the line of cell k
  pub line-held : (k : ℕ) → k < length (cell_lines s) → cell_line h.tables.placements k ≡ get_or (cell_lines s) k 0
  line-held k b = held.lines k (omega (arith, ap length says.cells)) ∙ ap (λ (x : List ℕ). get_or x k 0) says.cells

  module _ (before after : List Line) (l : Line) (c : CellLine s before l after) where
    columns : get_or (cells_by h) (cell_after before) 0 ≡ half_at before Column
    columns =
        let z : 0 + length (placements_of before) ≡ half_at before Column = omega arith in
        ap (λ (x : List ℕ). get_or x (cell_after before) 0) (cells-there ∙ ap (starts 0) c.lines)
        ∙ start_at 0 1 before after l c.word
        ∙ z

    halves : (a : Axis) → settled h.panel.grid (lent_by h) (get_or (cells_by h) (cell_after before) 0 + of_axis a 0 1) ≡ settled_half h before a
    halves a =
        let z : half_at before Column + of_axis a 0 1 ≡ half_at before a = omega arith in
        ap (λ (i : ℕ). placement_of h (i + of_axis a 0 1)) columns ∙ ap (λ (i : ℕ). placement_of h i) z

    among : cell_after before < length (cells_by h)
    among = omega (arith, ap length (cells-there ∙ ap (starts 0) c.lines), start_held 0 1 before after l c.word)

    own-line : cell_line h.tables.placements (cell_after before) ≡ length before + 1
    own-line = held.lines (cell_after before) (omega (arith, among, counted, ap length says.cells)) ∙ (cell_settled s t calls ok before after l c).line

    pub cell-of-line : CellOfLine h before
    cell-of-line = record { placed = among; columns = columns; halves = halves; line = own-line }

  line-of : (k : ℕ) → k < length (cells_by h) → LineOf s k
  line-of k b =
      let f : Found 1 (lines_of s) k = line_found 1 (lines_of s) k (omega (arith, counted)) in
      record { before = f.before; line = f.line; after = f.after; gives = record { lines = f.lines; word = f.word }; number = f.number }

-- after every accepted sheet and any entry calls
pub cells_are_lines : CellsAreLines
cells_are_lines s t calls ok =
    record { count = counted s t calls ok; each = λ before after l c. cell-of-line s t calls ok before after l c; every = λ k b. line-of s t calls ok k b }
