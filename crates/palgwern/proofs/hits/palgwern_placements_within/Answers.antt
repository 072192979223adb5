use Rattle.panel_hits.specs.Settled.{lent_in}
use Rattle.panel_hits.specs.Lists.{answered_hits}
use Rattle.palgwern.proofs.Counted.{within-counted}
use Rattle.palgwern.proofs.hits.palgwern_placements_within.Goals as goal

pub returns : goal.returns
returns c = let a = c.args in within-counted a.grid a.words.now (lent_in a.words.now a.bytes.now a.columnstore.now a.rowstore.now) a.axis a.items.now a.hits.now _ c.in-Ok.axis (answered_hits c.placements_within.result) c.in-Ok.ensures.0 c.in-Ok.ensures.1 c.hits_count.result c.hits_count.ensures a.low a.high c.placements_within.ensures
