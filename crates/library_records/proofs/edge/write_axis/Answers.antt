use Prim.Native.Nat.{◌-◌, ◌/◌}
use mathlib.Core.Path.{refl}
use Rattle.panel_rules.specs.Calls.{axis_tracks, template_in, spares_in}
use Rattle.library_records.proofs.Running.{axis-words}
use Rattle.library_records.proofs.edge.write_axis.Goals as goal

pub returns : goal.returns
returns c =
    let a = c.args in
    let head = c.head_count-head.result in
    axis-words (axis_tracks a.lent.grid) (template_in a.lent.grid a.lent.tables.now) (spares_in a.lent.grid a.lent.tables.now) a.lent.items.now c.plan-plan.result c.plan-plan.ensures a.words.now c.write_edge.new.words c.write_pairs.new.words c.write_edge-2.new.words
    a.first a.count head ((a.count - head) / 2) c.head_count-head.ensures refl c.write_edge.ensures c.write_pairs.ensures c.write_edge-2.ensures
