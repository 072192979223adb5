-- Document 02, Req 10: the answer of a placing, whatever the state, the tables and the stores hold: the cells of a panel, their sides by CSS
-- (8.3.1) from their settled fields, and where CSS (8.5) places them.
use Rattle.std.specs.Prelude.{ℕ, ◌+◌, ◌-◌, ◌<◌, ◌≡◌, min, Bool, cond, ◌&&◌, List, eqb, ltb, length, get_or, take, Result, Ok, Err}
use Rattle.coordinates.specs.declared.axis.Axis.{Axis}
use Rattle.coordinates.specs.declared.axis.Axis.TheVariants.{Column, Row}
use Rattle.coordinates.specs.Axes.{axis_number}
use Rattle.coordinates.specs.declared.refusal.Fault.{Fault}
use Rattle.coordinates.specs.declared.refusal.Fault.TheVariants.{Count, Short, Unplaced}
use Rattle.name_resolver.specs.Placements.{resolved_ends}
use Rattle.panel_tables.specs.declared.Grid.{Grid}
use Rattle.panel_tables.specs.Placements.{most_placements, placement_at, cell_line}
use Rattle.panel_tables.specs.View.{most_items}
use Rattle.sheet_rules.specs.declared.LineFault.{LineFault}
use Rattle.panel_rules.specs.Calls.{short_names}
use Rattle.placement_hits.specs.Steps.{passing}
use Rattle.panel_hits.specs.Settled.{Lent, settled}
use Rattle.cell_sides.specs.Css.{CssSide}
use Rattle.free_cells.specs.Free.{last_row_line}
use Rattle.cell_placing.specs.declared.Item.{Item}
use Rattle.cell_placing.specs.declared.Packing.{Packing}
use Rattle.cell_placing.specs.Css.{Answers}

-- ---- the cells

-- placement i of the table is the half of a cell on an axis
abbrev pub is_half : List ℕ → Axis → ℕ → Bool
is_half words a i = (placement_at words i).cell && eqb (axis_number (placement_at words i).axis) (axis_number a)

-- it is a cell's columns, and the next one its rows
unfoldable pub is_cell : List ℕ → ℕ → Bool
is_cell words i = is_half words Column i && is_half words Row (i + 1)

-- the placements that have another behind them, of so many; a panel holds 512 at most
abbrev pub pairs : ℕ → ℕ
pairs placements = min placements most_placements - 1

-- the cells, in sheet order, by the placement that is their columns: as many as the panel counts, 256 at most
unfoldable pub cells_in : Grid → Lent → List ℕ
unfolding is_cell passing
cells_in g l = take (min g.cells most_items) (passing (is_cell l.placements.words) 0 (pairs g.placements))

-- the sides of the cell whose columns are placement i, from its settled fields: "columns fixed at the explicit count and rows growing up to
-- 10,000"
pub record SidesOf (g : Grid) (l : Lent) (i : ℕ) (item : Item) : Type 0 where
  pub column : CssSide g.columns.size.explicit (g.columns.size.explicit + 1) (resolved_ends (settled g l i).line) item.column
  pub row : CssSide g.rows.size.explicit last_row_line (resolved_ends (settled g l (i + 1)).line) item.row

-- the sides of all cells, in sheet order
abbrev pub AllSides : Grid → Lent → (ℕ → Item) → Type 0
AllSides g l items = (k : ℕ) → k < length (cells_in g l) → SidesOf g l (get_or (cells_in g l) k 0) (items k)

-- ---- the answers

-- 4 for an explicit count above 10,000, then 10 for a store below 32,768 bytes
unfoldable pub cells_check : Grid → Lent → Result (Unit {0}) Fault
cells_check g l =
    cond (ltb 10000 g.columns.size.explicit) (Err Count)
    (cond (ltb 10000 g.rows.size.explicit) (Err Count)
    (cond (short_names l.names) (Err Short) (Ok tt)))

-- "an item by 15, at its line, the first in placing order": what is answered of so many cells, where they land or cell k is stuck
abbrev pub answer_of : Lent → ℕ → Result (Unit {0}) ℕ → Result ℕ LineFault
answer_of l n (Ok all) = Ok n
answer_of l n (Err k) = Err (record { fault = Unplaced; line = cell_line l.placements.words k })

-- what is answered, and what the lent words hold then: refused, at no line of the sheet, and all as it was; or what placing answers and leaves
-- (8.5) of cells that have these sides
pub data CellsAnswered (g : Grid) (l : Lent) (packing : Packing) (before after : List ℕ) (r : Result ℕ LineFault) : Type 0 where
  refused : (fault : Fault) → cells_check g l ≡ Err fault → after ≡ before → r ≡ Err (record { fault = fault; line = 0 }) → CellsAnswered g l packing before after r
  answered : cells_check g l ≡ Ok tt → (items : ℕ → Item) → AllSides g l items → (outcome : Result (Unit {0}) ℕ)
      → Answers packing (g.columns.size.explicit + 1) (length (cells_in g l)) items before after outcome → r ≡ answer_of l (length (cells_in g l)) outcome
      → CellsAnswered g l packing before after r
