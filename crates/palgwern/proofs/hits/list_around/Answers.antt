use mir.Facts.{to_z-of_z}
use Rattle.panel_hits.specs.Settled.{lent_of}
use Rattle.panel_hits.specs.Lists.{answered_hits}
use Rattle.palgwern.proofs.Counted.{around-listed}
use Rattle.palgwern.proofs.hits.list_around.Goals as goal

pub returns : goal.returns
returns c = let a = c.args in around-listed a.grid a.lent.words.now (lent_of a.lent) a.axis a.items.now a.hits.now _ c.in_ok-axis.axis (answered_hits c.placements_around.result) c.in_ok-axis.ensures.0 c.in_ok-axis.ensures.1 a.line _ (to_z-of_z c.ranges.line) c.placements_around.ensures
