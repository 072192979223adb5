use Prim.Native.Nat.{◌+◌, ◌-◌, ◌≤◌, ◌<◌}
use mathlib.Core.Path.{◌≡◌}
use lib.ListN.{length, drop}
use lib.Seq.{sets}
use Rattle.template_rules.specs.Template.{template_of}
use Rattle.track_rules.specs.Steps.{sum_of}
use Rattle.track_record.proofs.Components.{totals, Runs}
use Rattle.library_records.specs.Pairs.{joined, template_pair}
use Rattle.library_records.proofs.Pairs.{written}
use Rattle.library_records.proofs.template.write_template.Given as goal

abbrev pub invariant-loop-done : goal.invariant-loop-done
invariant-loop-done l =
    (l.done ≤ l.tracks.count) × (0 < l.tracks.count - l.done → l.at.offset + (l.tracks.count - l.done) ≤ sum_of (drop l.at.component (totals l.lent.grid.size.repetitions l.template.components.now)))
    × Runs l.lent.grid.size.repetitions l.template.components.now (l.offset + l.done) l.at.component l.at.offset (l.tracks.count - l.done) × (length l.words ≡ length l.initial.words)
    × (written (template_pair (totals l.lent.grid.size.repetitions l.template.components.now) (template_of l.template.components.now l.template.sizes.minimums.now l.template.sizes.maximums.now) l.lent.items.now l.offset l.tracks.first l.fn.gutters) l.words l.tracks.place l.tracks.first l.tracks.count l.done
    ≡ sets l.initial.words l.tracks.place (joined (template_pair (totals l.lent.grid.size.repetitions l.template.components.now) (template_of l.template.components.now l.template.sizes.minimums.now l.template.sizes.maximums.now) l.lent.items.now l.offset l.tracks.first l.fn.gutters) l.tracks.first l.tracks.count))

abbrev pub decreases-loop-done : goal.decreases-loop-done
decreases-loop-done l =
    length l.template.components.now - l.at.component
