use Rattle.cell_demands.proofs.Lines as Lines
use Rattle.cell_demands.proofs.cells_are_lines.Goals as goal

pub returns : goal.returns
returns c = Lines.cells_are_lines
