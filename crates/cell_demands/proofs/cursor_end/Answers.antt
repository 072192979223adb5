use Rattle.cell_demands.proofs.Ends as Ends
use Rattle.cell_demands.proofs.cursor_end.Goals as goal

pub returns : goal.returns
returns c = Ends.cursor_end
