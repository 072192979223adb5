use mathlib.Core.Path.{refl}
use Rattle.panel_hits.specs.Settled.{lent_of}
use Rattle.panel_placing.proofs.Answer.{gathered-none, gathered}
use Rattle.panel_placing.proofs.gather.gather_cells.Goals as goal

pub returns-then-grid-eq0 : goal.returns-then-grid-eq0
returns-then-grid-eq0 c = let a = c.args in gathered-none a.grid (lent_of a.lent) a.items.now c.if-grid-eq0.true

pub returns : goal.returns
returns c = let a = c.args in
    gathered a.grid (lent_of a.lent) _ _ _ c.write_placements-written.ensures c.requires.2 refl c.placement_words.ensures refl _ _ c.requires.0 c.lines_of.ensures
    (rw (c.min.ensures, c.pairs.ensures) at c.gather.ensures)
