use Rattle.std.proofs.Common.{◌≡◌, ℕ, ◌^◌, ◌<◌, sym, ap, subst, ◌∙◌}
use Rattle.template_rules.specs.Template.{component_of}
use Rattle.template_rules.specs.Steps.{cut_after}
use Rattle.template_rules.specs.Bounds.{OfWord}
use Rattle.template_rules.specs.declared.GridTemplateComponent.{GridTemplateComponent}
use Rattle.template_rules.proofs.Bounds.{of_word}
use Rattle.template_rules.proofs.FirstPart.{cut-of-word}
use Rattle.template_summary.proofs.component.component_after.Goals as goal

cut : (w k : ℕ) (c d : GridTemplateComponent) → w < 2 ^ 64 → c ≡ component_of w → d ≡ cut_after k c → OfWord d
cut w k c d h e f = subst OfWord (sym (f ∙ ap (cut_after k) e)) (cut-of-word k (component_of w) (of_word w h))

pub invariant_of-result : goal.invariant_of-result
invariant_of-result c =
    let w = cut c.args.word c.args.steps _ _ c.ranges.word.fits c.from.ensures c.first_tracks.ensures in
    record { counted = w.counted; small = (w.first, w.length) }
