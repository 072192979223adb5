use Rattle.history_demands.proofs.Runs as Runs
use Rattle.history_demands.proofs.run_held.Goals as goal

pub returns : goal.returns
returns c = Runs.run_held
