use mathlib.Core.Path.{refl}
use Rattle.panel_hits.specs.Settled.{lent_of}
use Rattle.panel_hits.proofs.Numbers.{settled-listed}
use Rattle.panel_hits.proofs.settled.write_settled.Goals as goal

pub returns : goal.returns
returns c = let a = c.args in let l = lent_of a.lent in
    settled-listed a.grid l _ _ a.axis a.question c.counts_in.result a.hits.now _ c.counts_in.ensures c.write_placements-written.ensures c.requires refl (rw c.of_axis-asked.ensures at c.write_hits.ensures)
