use mathlib.Core.Path.{sym, ◌∙◌}
use native.Mathlib.Omega.{arith}
use Rattle.panel_placing.proofs.Collecting.{collected-other, collected-full, collected-more}
use Rattle.panel_placing.proofs.gather.Settled.put_cell.Goals.{else-count-most-via-then-count-most+else-is_cell, else-count-most-via-else-count-most}
use Rattle.panel_placing.proofs.gather.Settled.put_cell.Goals as goal

pub returns-then-is_cell : goal.returns-then-is_cell
returns-then-is_cell c = let a = c.args in
    rw c.from.ensures
    (collected-more a.self a.most a.index a.count a.items.now c.item.result (sym c.is_cell.ensures ∙ c.if-is_cell.true) c.if-count-most.true (omega (arith, c.if-count-most.true, c.requires.1, c.told-items)) c.item.ensures c.requires.2)

pub returns : goal.returns
returns c = let a = c.args in
    elim c.else-count-most.branch [
      | else-count-most-via-then-count-most+else-is_cell w ↦ collected-other a.self a.most a.index a.count a.items.now (sym w.is_cell.ensures ∙ w.if-is_cell.false) c.requires.2
      | else-count-most-via-else-count-most w ↦ collected-full a.self a.most a.index a.count a.items.now w.if-count-most.false c.requires.2
    ]
