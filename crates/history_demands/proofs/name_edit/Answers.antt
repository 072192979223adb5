use Rattle.history_demands.proofs.Kept as Kept
use Rattle.history_demands.proofs.name_edit.Goals as goal

pub returns : goal.returns
returns c = Kept.name_edit
