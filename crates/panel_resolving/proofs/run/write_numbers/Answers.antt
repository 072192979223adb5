use Rattle.panel_resolving.specs.Lent.{lent_areas, lent_names, lent_placements}
use Rattle.panel_resolving.proofs.Choosing.{axes-written}
use Rattle.panel_resolving.proofs.run.write_numbers.Goals as goal

pub returns : goal.returns
returns c = let a = c.args in
    axes-written a.grid (lent_names a.lent) (lent_areas a.lent) (lent_placements a.lent) a.first a.count a.numbers.now c.requires.count_bound.0 c.requires.bound c.run_of-ofcolumns.result c.run_of-ofrows.result c.names-columnnames.result.entries.now c.names-rownames.result.entries.now _ _
    c.run_of-ofcolumns.ensures (rw c.from-names.ensures at c.names-columnnames.ensures.entries) c.run_of-ofrows.ensures (rw c.from-names.ensures at c.names-rownames.ensures.entries) (rw (c.names-columnnames.ensures.store, c.from-names.ensures) at c.write_axis.ensures) (rw (c.names-rownames.ensures.store, c.from-names.ensures) at c.write_axis-2.ensures)
