use mathlib.Core.Path.{sym}
use Rattle.given_placements.proofs.Runs.{call-few}
use Rattle.given_placements.proofs.resolve_given.Goals as goal

pub write_given-requires : goal.write_given-requires
write_given-requires c = let a = c.args in call-few a.names.now a.given.now (sym c.in-Ok.ensures)
