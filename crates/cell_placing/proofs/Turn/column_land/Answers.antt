use lib.ListN.{length}
use Rattle.cell_placing.proofs.Turns.{column-lands}
use Rattle.cell_placing.proofs.Cursors.{cursor-small}
use Rattle.cell_placing.proofs.Turn.column_land.Goals as goal

pub start_row-from-requires : goal.start_row-from-requires
start_row-from-requires c = cursor-small c.args.self.cells.packing c.args.self.cells.items.now c.args.self.placed.now c.args.self.index _ c.cursor_place-cursor.ensures

pub returns : goal.returns
returns c = let a = c.args in column-lands a.self.cells.packing a.self.cells.last (length a.self.cells.items.now) a.self.cells.items.now a.self.placed.now a.self.index a.self.ready a.columns a.tracks _ _ _ c.requires c.cursor_place-cursor.ensures c.start_row-from.ensures c.along_land.ensures
