use Rattle.history_demands.proofs.Recalls as Recalls
use Rattle.history_demands.proofs.recall_step.Goals as goal

pub returns : goal.returns
returns c = Recalls.recall_step
