use lib.ListN.{length}
use borrow.Author.Rules.{rules}
use Rattle.cell_placing.proofs.Turns.{both-land}
use Rattle.cell_placing.proofs.Turn.land_of.Goals as goal

pub returns-in-Fixed-Fixed : goal.returns-in-Fixed-Fixed
returns-in-Fixed-Fixed c = let a = c.args in both-land a.self.cells.packing a.self.cells.last (length a.self.cells.items.now) a.self.cells.items.now a.self.placed.now a.self.index a.self.ready _ _ _ (search rules) c.fixed_land.ensures
