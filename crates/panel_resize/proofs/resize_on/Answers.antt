use Prim.Native.Nat.{ℕ}
use mathlib.Core.Path.{◌≡◌, ap, ◌∙◌}
use mathlib.Core.List.{List}
use Rattle.std.specs.Prelude.{Option}
use Rattle.sizing.specs.Words.{sizing_of}
use Rattle.sizing.specs.declared.Sizing.{Sizing}
use Rattle.template_rules.specs.Template.{Component}
use Rattle.template_rules.specs.declared.AutoRepeatStrategy.{AutoRepeatStrategy}
use Rattle.axis_tables.specs.declared.AxisGrid.{AxisGrid}
use Rattle.axis_tables.specs.Reads.{strategy_in}
use Rattle.panel_rules.specs.Calls.{template_in}
use Rattle.least_resize.specs.declared.ResizeAnswer.{ResizeAnswer}
use Rattle.least_resize.specs.Answer.{resize_answer, definite_number, bits_of_inner, inner_by}
use Rattle.least_resize.proofs.Asked.{inner-by}
use Rattle.panel_resize.specs.Resize.{axis_resize}
use Rattle.panel_resize.proofs.resize_on.Goals as goal

-- over plain values: what each call answered
answered : (g : AxisGrid) (words : List ℕ) (cs : List Component) (r : Option ℕ) (strategy : AutoRepeatStrategy) (gap : Sizing) (x : ResizeAnswer) →
    cs ≡ template_in g words → r ≡ inner_by g.space.definite g.space.inner → strategy ≡ strategy_in g.space → gap ≡ sizing_of g.space.gap →
    x ≡ resize_answer (definite_number r) (bits_of_inner r) strategy gap cs → x ≡ axis_resize g words
unfolding axis_resize
answered g words cs r strategy gap x e i s q h =
    h ∙ inner-by g.space.definite g.space.inner strategy gap cs r i
    ∙ ap (resize_answer g.space.definite g.space.inner strategy gap) e
    ∙ ap (λ (y : Sizing). resize_answer g.space.definite g.space.inner strategy y (template_in g words)) q
    ∙ ap (λ (y : AutoRepeatStrategy). resize_answer g.space.definite g.space.inner y (sizing_of g.space.gap) (template_in g words)) s

pub returns : goal.returns
returns c =
    answered c.args.grid c.args.words.now _ _ _ _ _ c.template_on.ensures.template c.inner_bits.ensures c.from.ensures c.from-2.ensures c.resize_answer.ensures
