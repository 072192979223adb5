use Rattle.history_demands.proofs.Columns as Columns
use Rattle.history_demands.proofs.history_columns.Goals as goal

pub returns : goal.returns
returns c = Columns.history_columns
