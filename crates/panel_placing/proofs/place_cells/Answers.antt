use mathlib.Core.Path.{refl, sym, ◌∙◌}
use native.Mathlib.Omega.{arith}
use lib.ListN.{length-take}
use Rattle.panel_hits.specs.Settled.{lent_of}
use Rattle.panel_placing.specs.Cells.{refused}
use Rattle.panel_placing.proofs.Answer.{few_cells, unrefused, answer-placed}
use Rattle.panel_placing.proofs.place_cells.Goals as goal

pub returns-in-Err : goal.returns-in-Err
returns-in-Err c = refused c.in-Err.fault (sym c.check_panel.ensures ∙ c.in-Err.is) refl refl

pub gather_cells-count-requires : goal.gather_cells-count-requires
gather_cells-count-requires c = let a = c.args in unrefused a.grid (lent_of a.lent) (sym c.in_default.is ∙ c.check_panel.ensures)

pub overflow_cast-last : goal.overflow_cast-last
overflow_cast-last c = let a = c.args in let u = unrefused a.grid (lent_of a.lent) (sym c.in_default.is ∙ c.check_panel.ensures) in record { fits = omega (arith, u.0) }

pub overflow_add-last : goal.overflow_add-last
overflow_add-last c = let a = c.args in let u = unrefused a.grid (lent_of a.lent) (sym c.in_default.is ∙ c.check_panel.ensures) in record { fits = omega (arith, u.0) }

pub slice_bounds-items-end : goal.slice_bounds-items-end
slice_bounds-items-end c = let a = c.args in omega (arith, few_cells a.grid (lent_of a.lent), c.gather_cells-count.ensures.counted, c.gather_cells-count.array_long)

pub slice_bounds-place_items-end : goal.slice_bounds-place_items-end
slice_bounds-place_items-end c = let a = c.args in
    omega (arith, few_cells a.grid (lent_of a.lent), c.gather_cells-count.ensures.counted, c.gather_cells-count.array_long, length-take c.gather_cells-count.result c.gather_cells-count.new.items)

pub returns-in-Ok : goal.returns-in-Ok
returns-in-Ok c = let a = c.args in
    answer-placed a.grid (lent_of a.lent) a.packing a.lands.now _ _ _ _ _ _ (sym c.in_default.is ∙ c.check_panel.ensures) c.gather_cells-count.ensures refl c.gather_cells-count.array_long c.place_items.ensures (rw c.in-Ok.is refl)

pub returns-in-Err-place_items : goal.returns-in-Err-place_items
returns-in-Err-place_items c = let a = c.args in
    answer-placed a.grid (lent_of a.lent) a.packing a.lands.now _ _ _ _ _ _ (sym c.in_default.is ∙ c.check_panel.ensures) c.gather_cells-count.ensures refl c.gather_cells-count.array_long c.place_items.ensures
    (rw (c.in-Err-place_items.is, c.cell_line.ensures, c.placement_words.ensures) refl)
