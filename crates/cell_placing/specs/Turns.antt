-- The turn of a cell, of which the contracts speak.
use Rattle.std.specs.Prelude.{Option, length}
use Rattle.free_cells.specs.declared.Rectangle.{Rectangle}
use Rattle.cell_placing.specs.declared.Item.{Item}
use Rattle.cell_placing.specs.declared.Turn.{Turn}
use Rattle.cell_placing.specs.Items.{item_in}
use Rattle.cell_placing.specs.Steps.{Landing}

-- the cell by its sides
abbrev pub item_at : Turn → Item
item_at t = item_in t.cells.items.now t.index

-- where it lands; nowhere where it is stuck
abbrev pub Lands : Turn → Option Rectangle → Type 0
Lands t land = Landing t.cells.packing t.cells.last (length t.cells.items.now) t.cells.items.now t.placed.now t.index land
