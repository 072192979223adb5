use mathlib.Core.Path.{sym, ◌∙◌}
use Rattle.palgwern.specs.Trial.{answered}
use Rattle.palgwern.proofs.trial.palgwern_try_name.Goals as goal

pub returns : goal.returns
returns c = answered c.in-Some.tried c.try_name.result (sym c.trial_in.ensures ∙ c.in-Some.is) c.try_name.ensures c.from-2.ensures
