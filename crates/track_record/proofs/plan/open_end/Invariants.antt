use Prim.Native.Nat.{◌+◌, ◌-◌, ◌≤◌, ◌<◌}
use mathlib.Core.Path.{◌≡◌}
use lib.ListN.{drop}
use Rattle.template_rules.specs.Template.{template_of}
use Rattle.track_rules.specs.Records.{item_at, open_to}
use Rattle.track_rules.specs.Steps.{word_totals, sum_of}
use Rattle.track_record.specs.Plans.{closed_from}
use Rattle.track_record.proofs.Components.{totals, Runs}
use Rattle.track_record.proofs.plan.open_end.Given as goal

abbrev pub invariant-loop-word : goal.invariant-loop-word
invariant-loop-word l =
    (l.done ≤ l.count) × (0 < l.count - l.done → 0 + (l.count - l.done) ≤ sum_of (drop l.word-index (totals l.repetitions l.template.components.now)))
    × Runs l.repetitions l.template.components.now (0 + l.done) l.word-index 0 (l.count - l.done)
    × (l.opened ≡ open_to (closed_from (word_totals l.repetitions l.template.components.now) (template_of l.template.components.now l.template.sizes.minimums.now l.template.sizes.maximums.now) (item_at l.items) 0) l.done)
