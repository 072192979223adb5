-- The least resize after an accepted sheet and any entry calls. Assumes nothing.
use Rattle.std.specs.Prelude.{Option, Some}
use Prim.Native.Nat.{ℕ}
use mathlib.Core.Path.{◌≡◌, refl, sym, ap, ◌∙◌, subst}
use mathlib.Core.Bool.{Bool, cond}
use mathlib.Core.List.Memᴰ
use mathlib.Core.List.{List, [], Memᴰ}
use borrow.Author.Tests.{le-leb, ne_eqb}
use lib.ListN.{length}
use lib.Ieee.{Float}
use Rattle.coordinates.specs.declared.axis.Axis.{Axis}
use Rattle.coordinates.specs.declared.axis.Axis.TheVariants.{Column, Row}
use Rattle.sizing.specs.Words.{sizing_of}
use Rattle.sizing.specs.declared.Sizing.{Sizing}
use Rattle.sizing.specs.declared.Sizing.TheVariants.{Length}
use Rattle.template_rules.specs.Template.{Component}
use Rattle.template_rules.specs.Space.{whole32}
use Rattle.template_rules.specs.Summary.{meaning_of, no_components}
use Rattle.template_rules.specs.Explicit.{template_size_of, inner_value}
use Rattle.template_rules.specs.declared.AutoRepeatStrategy.{AutoRepeatStrategy}
use Rattle.template_rules.specs.declared.TemplateSize.{TemplateSize}
use Rattle.explicit_size.specs.Repeat.{gathered_of, repetitions_in}
use Rattle.axis_tables.specs.declared.AxisSpace.{AxisSpace}
use Rattle.axis_tables.specs.declared.AxisSize.{AxisSize}
use Rattle.axis_tables.specs.View.{Item, AxisLine, components_of}
use Rattle.panel_tables.specs.Axes.{grid_in}
use Rattle.sheet_rules.specs.Sheet.{inner_of, strategy_of, counted}
use Rattle.sheet_rules.specs.Panels.{Tables, sized_state}
use Rattle.sheet_rules.proofs.Counted.{counted_css}
use Rattle.axis_tables.specs.Reads.{strategy_in}
use Rattle.panel_rules.specs.Calls.{words_in, template_in}
use Rattle.panel_rules.specs.Runs.{Held, names_of, Call, Accepted, run_of, size_of}
use Rattle.panel_rules.specs.Views.{state_after, held_after, size_after}
use Rattle.panel_rules.specs.Added.{sheet_axis}
use Rattle.panel_rules.proofs.Held.{run-held}
use Rattle.panel_rules.proofs.Runs.{run-sizes, run-template}
use Rattle.panel_rules.proofs.Counted.{size_for, counted-size}
use Rattle.least_resize.specs.declared.ResizeAnswer.{ResizeAnswer}
use Rattle.least_resize.specs.Search.{repetitions_at}
use Rattle.least_resize.specs.Answer.{refused_resize, resize_answer}
use Rattle.least_resize.specs.Asked.{Asked, ResizeAnswered, resize_found, resize_refused}
use Rattle.least_resize.proofs.Asked.{resize-answered, count-css}
use Rattle.panel_resize.specs.Resize.{axis_resize}
use Rattle.panel_resize.specs.Runs.{resize_of, line_of, counted_of, AskedIn, count_at, ResizeTheorem}

-- an empty template has no repeat to ask for
none-asked : (definite inner : ℕ) (strategy : AutoRepeatStrategy) (gap : Sizing) (cs : List Component) (r : ResizeAnswer) → ResizeAnswered definite inner strategy gap cs r → cs ≡ [] → r ≡ refused_resize
none-asked definite inner strategy gap cs _ (resize_found size between q a l) e = let c = a.repeat in absurd (Memᴰ.not-nil (subst (Memᴰ c.0) e c.1))
none-asked definite inner strategy gap cs _ (resize_refused h) e = refl

-- ---- the count now
module _ (l : AxisLine) (is : List Item) (size : ℕ) (between : Float) (a : Asked l.definite l.inner (sizing_of l.gap) (components_of is) size between) where
  inner-is : inner_of l ≡ Some (whole32 size)
  inner-is = rw (ne_eqb l.definite 0 a.sized) (ap Some a.pixels.same)

  -- layer 3's answer for the `axis` record, at the size that it says
  size_is : size_for l is ≡ template_size_of (Some (whole32 size)) (strategy_of l) (Length between) (meaning_of (whole32 size) (components_of is))
  size_is =
      ap (λ (i : Option Float). template_size_of i (strategy_of l) (sizing_of l.gap) (meaning_of (inner_value i) (components_of is))) inner-is
      ∙ ap (λ (g : Sizing). template_size_of (Some (whole32 size)) (strategy_of l) g (meaning_of (whole32 size) (components_of is))) a.apart

  count-is : repetitions_at (strategy_of l) between (components_of is) size ≡ (size_for l is).repetitions
  unfolding repetitions_in gathered_of
  count-is =
      ap (λ (t : Bool). (template_size_of (Some (whole32 size)) (strategy_of l) (Length between) (cond t (meaning_of (whole32 size) (components_of is)) no_components)).repetitions)
      (le-leb (length (components_of is)) 64 a.few)
      ∙ ap (λ (t : TemplateSize). t.repetitions) (sym size_is)

-- ---- after a run
module _ (s : List ℕ) (t : Tables) (calls : List Call) (ok : Accepted s t) where
  -- the space of an axis is what its `axis` line says
  run-space : (a : Axis) → (grid_in (run_of s t calls).panel.grid a).space
      ≡ record { definite = (line_of s a).definite; inner = (line_of s a).inner; rule = (line_of s a).rule; gap = (line_of s a).gap }
  unfolding held_after state_after sized_state
  run-space Column = ap (λ (h : Held). (grid_in h.panel.grid Column).space) (run-held s t calls ok)
  run-space Row = ap (λ (h : Held). (grid_in h.panel.grid Row).space) (run-held s t calls ok)

  resize-of : (a : Axis) → resize_of (run_of s t calls) a ≡ resize_answer (line_of s a).definite (line_of s a).inner (strategy_of (line_of s a)) (sizing_of (line_of s a).gap) (counted_of s a)
  unfolding axis_resize
  resize-of a =
      ap (λ (x : AxisSpace). resize_answer x.definite x.inner (strategy_in x) (sizing_of x.gap) (template_in (grid_in (run_of s t calls).panel.grid a) (words_in (names_of (run_of s t calls).tables) a))) (run-space a)
      ∙ ap (resize_answer (line_of s a).definite (line_of s a).inner (strategy_of (line_of s a)) (sizing_of (line_of s a).gap)) (run-template s t calls ok a)

  answered : (a : Axis) → ResizeAnswered (line_of s a).definite (line_of s a).inner (strategy_of (line_of s a)) (sizing_of (line_of s a).gap) (counted_of s a) (resize_of (run_of s t calls) a)
  answered a =
      subst (ResizeAnswered (line_of s a).definite (line_of s a).inner (strategy_of (line_of s a)) (sizing_of (line_of s a).gap) (counted_of s a)) (sym (resize-of a))
      (resize-answered (line_of s a).definite (line_of s a).inner (strategy_of (line_of s a)) (sizing_of (line_of s a).gap) (counted_of s a))

  pub count-now : (a : Axis) (size : ℕ) (between : Float) → AskedIn s a size between → count_at s a between size ≡ (size_of (run_of s t calls) a).repetitions
  unfolding size_after
  count-now a size between h =
      count-is (line_of s a) (counted (sheet_axis s a)) size between h
      ∙ ap (λ (x : TemplateSize). x.repetitions) (sym (counted-size (sheet_axis s a)))
      ∙ ap (λ (x : AxisSize). x.repetitions) (sym (run-sizes s t calls ok a))

  pub resize-theorem : (a : Axis) → ResizeTheorem s t calls a
  resize-theorem a =
      record {
        answered = answered a;
        uncounted = λ h. none-asked (line_of s a).definite (line_of s a).inner (strategy_of (line_of s a)) (sizing_of (line_of s a).gap) (counted_of s a) (resize_of (run_of s t calls) a) (answered a) (ap components_of ((counted_css (sheet_axis s a)).invalid h));
        now = count-now a;
        css = λ size between h tried. count-css (line_of s a).definite (line_of s a).inner (strategy_of (line_of s a)) (sizing_of (line_of s a).gap) (counted_of s a) size between h tried;
      }
