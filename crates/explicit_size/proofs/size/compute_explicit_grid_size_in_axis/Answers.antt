use Rattle.std.specs.Prelude.{Option}
use Rattle.std.proofs.Common.{rules}
use mathlib.Core.Path.{◌≡◌, sym, ap, ◌∙◌}
use mathlib.Core.Bool.{true}
use mathlib.Core.List.{List}
use Prim.Native.Nat.{ℕ, ◌<◌, ◌≤◌}
use borrow.Author.Tests.{le-leb, lt-leb}
use lib.Ieee.{Float}
use lib.ListN.{length}
use Rattle.sizing.specs.declared.Sizing.{Sizing}
use Rattle.template_rules.specs.Template.{template_of}
use Rattle.template_rules.specs.Explicit.{SizeAnswer, inner_value, template_size_of, refused_size, with_areas, crowded_by, explicit_size_of, space_in_range, explicit_answer_of}
use Rattle.template_rules.specs.declared.AutoRepeatStrategy.{AutoRepeatStrategy}
use Rattle.template_rules.specs.declared.TemplateSize.{TemplateSize}
use Rattle.template_rules.specs.declared.TemplateSummary.{TemplateSummary}
use Rattle.explicit_size.specs.Repeat.{gathered_of}
use Rattle.explicit_size.proofs.Counted.{length-template}
use Rattle.explicit_size.proofs.size.compute_explicit_grid_size_in_axis.Goals as goal

-- over plain lists
module _ (words minimums maximums : List ℕ) where
  inside : (inner : Option Float) (strategy : AutoRepeatStrategy) (gap : Sizing) (areas : ℕ) (r : SizeAnswer) → space_in_range inner gap ≡ true
      → r ≡ explicit_size_of inner strategy gap areas (template_of words minimums maximums) → r ≡ explicit_answer_of inner strategy gap areas (template_of words minimums maximums)
  unfolding explicit_answer_of
  inside inner strategy gap areas r h e = rw h e

  crowds : (inner : Option Float) (strategy : AutoRepeatStrategy) (gap : Sizing) (areas n : ℕ) → 64 < length words → n ≡ crowded_by areas
      → refused_size n ≡ explicit_size_of inner strategy gap areas (template_of words minimums maximums)
  unfolding explicit_size_of
  crowds inner strategy gap areas n h m = rw (length-template words minimums maximums, lt-leb (length words) 64 h) (ap refused_size m)

  counts : (inner : Option Float) (strategy : AutoRepeatStrategy) (gap : Sizing) (areas : ℕ) (value : Float) (s : TemplateSummary) (t : TemplateSize) (r : SizeAnswer) → length words ≤ 64
      → value ≡ inner_value inner → s ≡ gathered_of value (template_of words minimums maximums) → t ≡ template_size_of inner strategy gap s → r ≡ with_areas areas t
      → r ≡ explicit_size_of inner strategy gap areas (template_of words minimums maximums)
  unfolding explicit_size_of gathered_of
  counts inner strategy gap areas value s t r h v e f g =
      rw (length-template words minimums maximums, le-leb (length words) 64 h)
      (g ∙ ap (with_areas areas) (f ∙ ap (template_size_of inner strategy gap) (rw (length-template words minimums maximums, le-leb (length words) 64 h, v) at e)))

pub returns-then-template-gt-MOST_COMPONENTS : goal.returns-then-template-gt-MOST_COMPONENTS
returns-then-template-gt-MOST_COMPONENTS c =
    let t = c.args.template in
    inside t.components.now t.sizes.minimums.now t.sizes.maximums.now _ _ _ _ _ (sym c.space_in_range.ensures ∙ c.if-not-space_in_range.false)
    (crowds t.components.now t.sizes.minimums.now t.sizes.maximums.now _ _ _ _ _ c.if-template-gt-MOST_COMPONENTS.true c.crowded_by.ensures)

pub returns : goal.returns
returns c =
    let t = c.args.template in
    let value : c.unwrap_or.result ≡ inner_value c.args.space.inner = search rules in
    inside t.components.now t.sizes.minimums.now t.sizes.maximums.now _ _ _ _ _ (sym c.space_in_range.ensures ∙ c.if-not-space_in_range.false)
    (counts t.components.now t.sizes.minimums.now t.sizes.maximums.now _ _ _ _ _ _ _ _ c.if-template-gt-MOST_COMPONENTS.false value c.gathered-summary.ensures
    c.template_size-size.ensures c.size_with_areas.ensures)
