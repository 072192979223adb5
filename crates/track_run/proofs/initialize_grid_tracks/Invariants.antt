use Rattle.std.proofs.Common.{◌≡◌}
use Rattle.template_rules.specs.Template.{template_of}
use Rattle.track_rules.specs.Written.{spares_of}
use Rattle.track_rules.specs.Records.{item_at}
use Rattle.track_run.specs.Steps.{filled_to, state_at}
use Rattle.track_run.proofs.initialize_grid_tracks.Given as goal

-- The records up to the index are written, and the state belongs to the next one.
abbrev pub invariant-loop-index : goal.invariant-loop-index
invariant-loop-index l =
    (l.at ≡ state_at l.fn.axis (template_of l.lent.template.components.now l.lent.template.sizes.minimums.now l.lent.template.sizes.maximums.now) (item_at l.lent.items.now) l.index)
    × (l.record-items ≡ filled_to l.fn.axis (template_of l.lent.template.components.now l.lent.template.sizes.minimums.now l.lent.template.sizes.maximums.now) (spares_of l.lent.spares.minimums.now l.lent.spares.maximums.now) (item_at l.lent.items.now) l.index l.initial.record-items)
