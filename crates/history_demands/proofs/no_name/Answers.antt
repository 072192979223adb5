use Rattle.history_demands.proofs.Kept as Kept
use Rattle.history_demands.proofs.no_name.Goals as goal

pub returns : goal.returns
returns c = Kept.no_name
