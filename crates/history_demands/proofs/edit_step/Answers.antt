use Rattle.history_demands.proofs.Edits as Edits
use Rattle.history_demands.proofs.edit_step.Goals as goal

pub returns : goal.returns
returns c = Edits.edit_step
