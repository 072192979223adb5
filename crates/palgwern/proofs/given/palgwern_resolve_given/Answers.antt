use mathlib.Core.Path.{ap}
use Rattle.palgwern.specs.Given.{given_numbers}
use Rattle.palgwern.proofs.given.palgwern_resolve_given.Goals as goal

pub returns : goal.returns
returns c = rw c.from.ensures (ap given_numbers c.resolve_given.ensures)
