use lib.ListN.{length}
use Rattle.cell_placing.proofs.Turns.{area-lands}
use Rattle.cell_placing.proofs.Turn.free_land.Goals as goal

pub returns : goal.returns
returns c = let a = c.args in area-lands a.self.cells.packing a.self.cells.last (length a.self.cells.items.now) a.self.cells.items.now a.self.placed.now a.self.index a.self.ready a.size _ _ c.requires c.cursor_place.ensures c.free_area.ensures
