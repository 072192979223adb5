-- The cells of a panel by what its sheet says, where the tables hold that: which placements they are, and their lines of the sheet.
use Rattle.std.specs.Prelude.{ℕ, suc, ◌+◌, ◌-◌, ◌<◌, ◌≡◌, Bool, true, false, ◌&&◌, List, [], ◌∷◌, eqb, length, get_or, take}
use Rattle.coordinates.specs.declared.axis.Axis.{Axis}
use Rattle.coordinates.specs.declared.axis.Axis.TheVariants.{Column, Row}
use Rattle.coordinates.specs.Axes.{axis_number}
use Rattle.panel_tables.specs.declared.Grid.{Grid}
use Rattle.panel_tables.specs.Placements.{cell_line}
use Rattle.panel_tables.specs.View.{Placement, PanelView, no_placement}
use Rattle.panel_tables.specs.Written.{placement_words}
use Rattle.placement_hits.specs.Steps.{passing}
use Rattle.panel_hits.specs.Settled.{Lent}
use Rattle.panel_placing.specs.Cells.{cells_in}

-- a placement is the half of a cell on an axis
abbrev pub half_of : Axis → Placement → Bool
half_of a p = p.cell && eqb (axis_number p.axis) (axis_number a)

-- placement i is a cell's columns, and the next one its rows
abbrev pub cell_of : List Placement → ℕ → Bool
cell_of ps i = half_of Column (get_or ps i no_placement) && half_of Row (get_or ps (i + 1) no_placement)

-- the cells of a panel, in sheet order, by the placement that is their columns
abbrev pub cells_of : PanelView → List ℕ
cells_of v = take (length v.cells) (passing (cell_of v.placements) 0 (length v.placements - 1))

-- the table of placements holds those of a panel, and the grid counts them
pub record Holds (v : PanelView) (g : Grid) (l : Lent) : Type 0 where
  pub placements : g.placements ≡ length v.placements
  pub cells : g.cells ≡ length v.cells
  pub words : l.placements.words ≡ placement_words v.placements v.cells

-- what is placed then, and the line that 15 has
pub record HeldCells (v : PanelView) (g : Grid) (l : Lent) : Type 0 where
  pub cells : cells_in g l ≡ cells_of v
  pub lines : (k : ℕ) → k < length v.cells → cell_line l.placements.words k ≡ get_or v.cells k 0

-- placements as `place` and `cell` lines give them, and how many `cell` lines there are
pub data Lined : List Placement → ℕ → Type 0 where
  none : Lined [] 0
  place : {p : Placement} {ps : List Placement} {n : ℕ} → p.cell ≡ false → Lined ps n → Lined (p ∷ ps) n
  cell : {p q : Placement} {ps : List Placement} {n : ℕ} → half_of Column p ≡ true → half_of Row q ≡ true → Lined ps n → Lined (p ∷ q ∷ ps) (suc n)
