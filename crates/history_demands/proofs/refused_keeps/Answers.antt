use Rattle.history_demands.proofs.Kept as Kept
use Rattle.history_demands.proofs.refused_keeps.Goals as goal

pub returns : goal.returns
returns c = Kept.refused_keeps
