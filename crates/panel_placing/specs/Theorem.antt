-- What an answer of a placing means (document 02, Req 10); proofs/Theorem.antt proves it of every state, whatever the tables and stores hold.
use Rattle.std.specs.Prelude.{ℕ, ◌+◌, ◌≤◌, ◌<◌, ◌≡◌, List, length, get_or, Result, Ok, Err}
use Rattle.panel_tables.specs.declared.Grid.{Grid}
use Rattle.sheet_rules.specs.declared.LineFault.{LineFault}
use Rattle.panel_hits.specs.Settled.{Lent}
use Rattle.free_cells.specs.Words.{rectangle_in}
use Rattle.free_cells.specs.Free.{Covers, last_row_line}
use Rattle.cell_placing.specs.declared.Item.{Item}
use Rattle.cell_placing.specs.declared.Packing.{Packing}
use Rattle.cell_placing.specs.Items.{group_of}
use Rattle.cell_placing.specs.Css.{Keeps, On}
use Rattle.panel_placing.specs.Cells.{cells_in, SidesOf, CellsAnswered}

-- the sides of cell k, in sheet order, are these
abbrev pub CellSides : Grid → Lent → ℕ → Item → Type 0
CellSides g l k item = SidesOf g l (get_or (cells_in g l) k 0) item

-- how many cells are placed
abbrev pub placed_cells : Result ℕ LineFault → ℕ
placed_cells (Ok n) = n
placed_cells (Err fault) = 0

-- of an answer, and of the lent words before and after it; cell k lands in the rectangle of word k, for each that is placed
pub record CellsTheorem (g : Grid) (l : Lent) (packing : Packing) (before after : List ℕ) (r : Result ℕ LineFault) : Type 0 where
  -- "columns fixed at the explicit count and rows growing up to 10,000"
  pub inside : (k : ℕ) → k < placed_cells r → On (g.columns.size.explicit + 1) (rectangle_in after k).columns × On last_row_line (rectangle_in after k).rows
  -- a cell's lines are kept, and its spans
  pub fixed : (k : ℕ) (item : Item) → k < placed_cells r → CellSides g l k item → Keeps item.column (rectangle_in after k).columns × Keeps item.row (rectangle_in after k).rows
  -- "No two automatic items share a cell"; nor does an automatic one share any with one that has a line in both axes
  pub apart : (i j : ℕ) (item : Item) (column row : ℕ) → i < placed_cells r → j < placed_cells r → (i ≡ j → ⊥) → CellSides g l i item → (group_of item ≡ 0 → ⊥)
      → Covers (rectangle_in after i) column row → Covers (rectangle_in after j) column row → ⊥
  -- words past the cells stay, and all where nothing is placed
  pub past : (k : ℕ) → placed_cells r ≤ k → get_or after k 0 ≡ get_or before k 0
  -- there is no other answer, and no cell lands elsewhere, whatever was lent
  pub only : (lent other : List ℕ) (s : Result ℕ LineFault) → length lent ≡ 256 → CellsAnswered g l packing lent other s
      → (s ≡ r) × ((k : ℕ) → k < placed_cells r → rectangle_in other k ≡ rectangle_in after k)
