use Rattle.std.proofs.Common.{◌≡◌, ℕ, List}
use lib.Ieee.{Float}
use Rattle.template_rules.specs.Template.{tracks_from, with_tracks}
use Rattle.template_rules.specs.Steps.{totals_of, step_by, summary_step}
use Rattle.template_rules.specs.declared.GridTemplateComponent.{GridTemplateComponent}
use Rattle.template_rules.specs.declared.TrackTotals.{TrackTotals}
use Rattle.template_rules.specs.declared.TemplateSummary.{TemplateSummary}
use Rattle.template_rules.proofs.Bounds.{length-tracks}
use Rattle.template_summary.proofs.summary.add_component.Goals as goal

-- over plain values: t are the totals of the component
stepped : (minimums maximums : List ℕ) (inner : Float) (s : TemplateSummary) (k : GridTemplateComponent) (t : TrackTotals) (r : TemplateSummary)
    → t ≡ totals_of inner k.count (tracks_from minimums maximums k.first k.length) → r ≡ step_by s k.count k.length t → r ≡ summary_step inner s (with_tracks minimums maximums k)
unfolding summary_step
stepped minimums maximums inner s k t r f g = rw (length-tracks minimums maximums k.first k.length, ← f) g

pub returns : goal.returns
returns c = stepped _ _ _ _ _ _ _ c.component_totals-totals.ensures c.add_totals.ensures
