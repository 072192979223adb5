use Rattle.history_demands.proofs.Answers as Answers
use Rattle.history_demands.proofs.history_order.Goals as goal

pub returns : goal.returns
returns c = Answers.history_order
