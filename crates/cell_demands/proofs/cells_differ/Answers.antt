use Rattle.cell_demands.proofs.Differ as Differ
use Rattle.cell_demands.proofs.cells_differ.Goals as goal

pub returns : goal.returns
returns c = Differ.cells_differ
