use Rattle.panel_trial.proofs.Copies.{copied}
use Rattle.panel_trial.proofs.store.copy_reached.Goals as goal

pub returns : goal.returns
returns c = rw c.copy_from_slice.ensures.after (copied c.args.store.now c.args.copy.now c.min-count.result c.min-count.ensures)
