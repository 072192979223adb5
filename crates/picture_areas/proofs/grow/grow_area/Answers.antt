-- `picture_areas::grow_area` meets its contract. Assumes nothing.
use Rattle.picture_areas.proofs.Runs.{grown_so}
use Rattle.picture_areas.proofs.grow.grow_area.Goals as goal

pub returns-then-continues : goal.returns-then-continues
returns-then-continues c =
    let a = c.args in
    grown_so a.words.now a.index a.run c.area_at.result
    c.run_continues-continues.result c.from.result _
    c.area_at.ensures
    c.run_continues-continues.ensures
    c.if-continues.true
    c.from.ensures
    c.set_at.ensures
