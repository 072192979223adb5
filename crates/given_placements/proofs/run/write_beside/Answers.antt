use mathlib.Core.Path.{◌∙◌}
use Rattle.given_placements.proofs.Copies.{copy-written}
use Rattle.given_placements.proofs.run.write_beside.Goals as goal

pub returns : goal.returns
returns c = let a = c.args in let l = c.put_tables.ensures.lengths in let w = c.put_tables.ensures.written in
    rw (w.0, w.1) at c.write_placements.ensures
    ∙ copy-written a.lent.words.now a.lent.bytes.now a.placed.now a.named.now l.0 l.1 l.2 l.3 a.grid a.lent.columnstore.now a.lent.rowstore.now a.numbers.now
