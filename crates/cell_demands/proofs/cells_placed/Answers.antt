use Rattle.cell_demands.proofs.Placed as Placed
use Rattle.cell_demands.proofs.cells_placed.Goals as goal

pub returns : goal.returns
returns c = Placed.cells_placed
