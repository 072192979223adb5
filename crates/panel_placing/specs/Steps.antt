-- What the code has on the way: the cells of a run of numbers, and their words.
use Rattle.std.specs.Prelude.{ℕ, ◌+◌, ◌<◌, min, ◌≡◌, List, ℤ, length, get_or}
use Rattle.panel_tables.specs.declared.Grid.{Grid}
use Rattle.placement_hits.specs.Steps.{ends_at, passing}
use Rattle.panel_hits.specs.Settled.{Lent}
use Rattle.cell_sides.specs.declared.cell.CellLines.{CellLines}
use Rattle.cell_sides.specs.Css.{CssSide}
use Rattle.free_cells.specs.Free.{last_row_line}
use Rattle.cell_placing.specs.declared.Item.{Item}
use Rattle.cell_placing.specs.Items.{item_word, item_in}
use Rattle.panel_placing.specs.declared.gather.Settled.{Settled}
use Rattle.panel_placing.specs.Cells.{is_cell, cells_in, SidesOf}

-- the lines of both axes
pub record LinesOf (g : Grid) (columns rows : CellLines) : Type 0 where
  pub across : columns ≡ record { explicit = g.columns.size.explicit; last = g.columns.size.explicit + 1 }
  pub down : rows ≡ record { explicit = g.rows.size.explicit; last = last_row_line }

-- a cell by the sides that eight numbers of its columns and eight of its rows give
pub record ItemAt (numbers : List ℤ) (columns rows : CellLines) (i : ℕ) (item : Item) : Type 0 where
  pub column : CssSide columns.explicit columns.last (ends_at numbers i) item.column
  pub row : CssSide rows.explicit rows.last (ends_at numbers (i + 1)) item.row

-- of the first placements of the table, those that are a cell's columns
unfoldable pub cells_before : List ℕ → ℕ → List ℕ
unfolding is_cell passing
cells_before words i = passing (is_cell words) 0 i

-- the word of cell k
pub record WordAt (s : Settled) (at w : ℕ) : Type 0 where
  pub item : Item
  pub sides : ItemAt s.numbers.now s.columns s.rows at item
  pub word : w ≡ item_word item

-- the words of these cells, so many at most
pub record Collected (s : Settled) (most i : ℕ) (items : List ℕ) (count : ℕ) : Type 0 where
  pub counted : count ≡ min most (length (cells_before s.words.now i))
  pub each : (k : ℕ) → k < count → (get_or (cells_before s.words.now i) k 0 < i) × WordAt s (get_or (cells_before s.words.now i) k 0) (get_or items k 0)

-- the words of the cells of a panel
pub record Gathered (g : Grid) (l : Lent) (items : List ℕ) (count : ℕ) : Type 0 where
  pub counted : count ≡ length (cells_in g l)
  pub sides : (k : ℕ) → k < count → SidesOf g l (get_or (cells_in g l) k 0) (item_in items k)
