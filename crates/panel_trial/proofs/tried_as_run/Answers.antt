use Rattle.panel_trial.proofs.Runs as Runs
use Rattle.panel_trial.proofs.tried_as_run.Goals as goal

pub returns : goal.returns
returns c = Runs.tried_as_run
