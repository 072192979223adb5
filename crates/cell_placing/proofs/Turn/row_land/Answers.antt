use lib.ListN.{length}
use Rattle.cell_placing.proofs.Turns.{row-lands}
use Rattle.cell_placing.proofs.Turn.row_land.Goals as goal

pub returns : goal.returns
returns c = let a = c.args in row-lands a.self.cells.packing a.self.cells.last (length a.self.cells.items.now) a.self.cells.items.now a.self.placed.now a.self.index a.self.ready a.tracks _ a.rows _ c.requires c.cursor_column-from.ensures c.along_land.ensures
