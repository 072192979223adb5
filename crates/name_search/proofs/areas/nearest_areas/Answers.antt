-- The loop's invariant says what is still to be passed: the edges of the areas from i on.
use native.Mathlib.Omega.{arith}
use Prim.Native.Nat.{◌+◌}
use lib.ListN.{drop, get_or}
use Rattle.name_rules.specs.Rule.{any}
use Rattle.name_lines.specs.Areas.{area_of, areas_of, edged?, side_of}
use Rattle.name_lines.proofs.Tables.{areas-step, areas-end}
use Rattle.name_search.specs.Nearest.{number_at}
use Rattle.name_search.proofs.Passes.{rest-step, rest_end}
use Rattle.name_search.proofs.areas.nearest_areas.Goals as goal

pub loop-i-preserved : goal.loop-i-preserved
loop-i-preserved c = let a = c.args in let l = c.loop-i in
    rest-step (λ d. any (edged? a.name.now (side_of a.end) (number_at a.sought.nth.way a.sought.nth.from d)) (areas_of a.sought.axis (drop l.i a.areas.edges.now) (drop l.i a.areas.names.now) a.areas.store.now)) (λ d. edged? a.name.now (side_of a.end) (number_at a.sought.nth.way a.sought.nth.from d) (area_of a.sought.axis (get_or a.areas.edges.now l.i 0) (get_or a.areas.names.now l.i 0) a.areas.store.now)) (λ d. any (edged? a.name.now (side_of a.end) (number_at a.sought.nth.way a.sought.nth.from d)) (areas_of a.sought.axis (drop (l.i + 1) a.areas.edges.now) (drop (l.i + 1) a.areas.names.now) a.areas.store.now)) (λ d. any (edged? a.name.now (side_of a.end) (number_at a.sought.nth.way a.sought.nth.from d)) (areas_of a.sought.axis a.areas.edges.now a.areas.names.now a.areas.store.now)) a.limit l.best c.nearest_area-best.result
    (λ d. areas-step (edged? a.name.now (side_of a.end) (number_at a.sought.nth.way a.sought.nth.from d)) a.sought.axis a.areas.edges.now a.areas.names.now a.areas.store.now l.i (omega arith)) l.invariant (rw (c.area.ensures.edges, c.area.ensures.name, c.area.ensures.store) at c.nearest_area-best.ensures)

pub returns : goal.returns
returns c = let a = c.args in let l = c.loop-i in
    rest_end (λ d. any (edged? a.name.now (side_of a.end) (number_at a.sought.nth.way a.sought.nth.from d)) (areas_of a.sought.axis (drop l.i a.areas.edges.now) (drop l.i a.areas.names.now) a.areas.store.now)) (λ d. any (edged? a.name.now (side_of a.end) (number_at a.sought.nth.way a.sought.nth.from d)) (areas_of a.sought.axis a.areas.edges.now a.areas.names.now a.areas.store.now)) a.limit l.best (λ d. areas-end (edged? a.name.now (side_of a.end) (number_at a.sought.nth.way a.sought.nth.from d)) a.sought.axis a.areas.edges.now a.areas.names.now a.areas.store.now l.i (omega arith)) l.invariant
