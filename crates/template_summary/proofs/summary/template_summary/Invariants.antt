-- What is gathered so far, with what the steps that are left reach of the other components added in order, is what the first part gives.
use Rattle.std.proofs.Common.{◌≡◌, drop}
use mathlib.Core.List.{foldl}
use Rattle.template_rules.specs.Template.{template_of, components_of}
use Rattle.template_rules.specs.Summary.{first_part}
use Rattle.template_rules.specs.Steps.{summary_step, summary_of}
use Rattle.template_rules.specs.Bounds.{Gathered}
use Rattle.template_summary.proofs.summary.template_summary.Given as goal

abbrev pub invariant-loop-word : goal.invariant-loop-word
invariant-loop-word l =
    Gathered l.word-index l.summary
    × (foldl (summary_step l.inner) l.summary (first_part l.left (template_of (drop l.word-index l.template.components.now) l.template.sizes.minimums.now l.template.sizes.maximums.now))
    ≡ summary_of l.inner (first_part l.fn.steps (components_of l.template)))
