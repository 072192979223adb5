use Rattle.history_demands.proofs.Recalls as Recalls
use Rattle.history_demands.proofs.seventeen.Goals as goal

pub returns : goal.returns
returns c = Recalls.seventeen
