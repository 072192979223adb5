-- The loop's invariant says what is still to be marked: the edges of the areas from i on.
use native.Mathlib.Omega.{arith}
use Prim.Native.Nat.{◌+◌}
use lib.ListN.{drop, get_or}
use Rattle.name_rules.specs.Rule.{any}
use Rattle.name_lines.specs.Areas.{area_of, areas_of, edged?, side_of}
use Rattle.name_lines.proofs.Tables.{areas-step, areas-end}
use Rattle.name_search.proofs.Marked.{left-step, left_end}
use Rattle.name_search.proofs.marks.Marks.mark_areas.Goals as goal

pub loop-i-preserved : goal.loop-i-preserved
loop-i-preserved c = let a = c.args in let l = c.loop-i in
    left-step a.self.now l.self c.mark_area.new.self (λ n. any (edged? a.name.now (side_of a.end) n) (areas_of a.axis (drop l.i a.areas.edges.now) (drop l.i a.areas.names.now) a.areas.store.now)) (λ n. edged? a.name.now (side_of a.end) n (area_of a.axis (get_or a.areas.edges.now l.i 0) (get_or a.areas.names.now l.i 0) a.areas.store.now)) (λ n. any (edged? a.name.now (side_of a.end) n) (areas_of a.axis (drop (l.i + 1) a.areas.edges.now) (drop (l.i + 1) a.areas.names.now) a.areas.store.now)) (λ n. any (edged? a.name.now (side_of a.end) n) (areas_of a.axis a.areas.edges.now a.areas.names.now a.areas.store.now))
    (λ n. areas-step (edged? a.name.now (side_of a.end) n) a.axis a.areas.edges.now a.areas.names.now a.areas.store.now l.i (omega arith)) l.invariant (rw (c.area.ensures.edges, c.area.ensures.name, c.area.ensures.store) at c.mark_area.ensures)

pub returns : goal.returns
returns c = let a = c.args in let l = c.loop-i in
    left_end a.self.now l.self (λ n. any (edged? a.name.now (side_of a.end) n) (areas_of a.axis (drop l.i a.areas.edges.now) (drop l.i a.areas.names.now) a.areas.store.now)) (λ n. any (edged? a.name.now (side_of a.end) n) (areas_of a.axis a.areas.edges.now a.areas.names.now a.areas.store.now)) (λ n. areas-end (edged? a.name.now (side_of a.end) n) a.axis a.areas.edges.now a.areas.names.now a.areas.store.now l.i (omega arith)) l.invariant
