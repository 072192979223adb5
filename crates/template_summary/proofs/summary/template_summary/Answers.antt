use mathlib.Core.Path.{◌≡◌, refl, ◌∙◌}
use mathlib.Core.List.{List, foldl}
use Prim.Native.Nat.{ℕ, suc, ◌+◌, ◌-◌, ◌<◌, ◌≤◌}
use native.Mathlib.Numerals.{add-one}
use native.Mathlib.Omega.{arith}
use borrow.Author.Tests.{le-leb}
use lib.ListN.{length, get_or, drop, drop_of_length-le}
use lib.Seq.{drop-cons}
use lib.Ieee.{Float}
use Rattle.template_rules.specs.Template.{component_of, tracks_from, with_tracks, template_of, components_of}
use Rattle.template_rules.specs.Summary.{steps_inside, first_part}
use Rattle.template_rules.specs.Steps.{summary_step, summary_of, totals_of, cut_after}
use Rattle.template_rules.specs.Bounds.{CountOfWord, Gathered}
use Rattle.template_rules.specs.declared.GridTemplateComponent.{GridTemplateComponent}
use Rattle.template_rules.specs.declared.TemplateSummary.{TemplateSummary}
use Rattle.template_rules.proofs.Bounds.{length-tracks, none-gathered, step-gathered}
use Rattle.template_rules.proofs.FirstPart.{part_none, part_step_lem, gathered_first_part, cut-tracks, cut-steps}
use Rattle.template_summary.proofs.summary.template_summary.Goals as goal

taken-steps : (w k n : ℕ) (d : GridTemplateComponent) → d ≡ cut_after k (component_of w) → n ≡ steps_inside d.count d.length → n ≤ k
taken-steps w k n d e f = rw (f, e) (cut-steps k (component_of w)).0

-- over plain lists
module _ (minimums maximums : List ℕ) (inner : Float) where
  -- what k steps over these words add to a summary
  abbrev rest : TemplateSummary → ℕ → List ℕ → TemplateSummary
  rest s k words = foldl (summary_step inner) s (first_part k (template_of words minimums maximums))

  turn : (words : List ℕ) (i left n : ℕ) (d : GridTemplateComponent) (s s' all : TemplateSummary) → i < length words → (left ≡ 0 → ⊥)
      → d ≡ cut_after (left - 1) (component_of (get_or words i 0)) → n ≡ steps_inside d.count d.length → s' ≡ summary_step inner s (with_tracks minimums maximums d)
      → rest s left (drop i words) ≡ all → rest s' (left - 1 - n) (drop (i + 1) words) ≡ all
  unfolding template_of
  turn words i left n d s s' all h some e f q g =
      let w = get_or words i 0 in
      let one : left ≡ suc (left - 1) = omega arith in
      let c = with_tracks minimums maximums (component_of w) in
      let g' = rw (drop-cons words i 0 h, one, part_step_lem (left - 1) c (template_of (drop (suc i) words) minimums maximums), length-tracks minimums maximums (component_of w).first (component_of w).length) at g in
      rw (q, f, e, cut-tracks (left - 1) (component_of w) minimums maximums, (cut-steps (left - 1) (component_of w)).1, add-one i) g'

  stopped : (words : List ℕ) (i left : ℕ) (s all : TemplateSummary) → left ≡ 0 → rest s left (drop i words) ≡ all → s ≡ all
  stopped words i left s all e g = rw (e, part_none (template_of (drop i words) minimums maximums)) at g

  done : (words : List ℕ) (i left : ℕ) (s all : TemplateSummary) → length words ≤ i → rest s left (drop i words) ≡ all → s ≡ all
  unfolding template_of first_part
  done words i left s all h g = rw (drop_of_length-le words h) at g

  next-gathered : (n : ℕ) (s s' : TemplateSummary) (k : GridTemplateComponent) → CountOfWord k.count k.length → k.length ≤ 65535 → Gathered n s
      → s' ≡ summary_step inner s (with_tracks minimums maximums k) → Gathered (n + 1) s'
  unfolding summary_step
  next-gathered n s s' k h m g e =
      rw (e, length-tracks minimums maximums k.first k.length)
      (step-gathered n s k.count k.length (totals_of inner k.count (tracks_from minimums maximums k.first k.length)) g h m)

pub loop-word-init : goal.loop-word-init
unfolding summary_of
loop-word-init c = (none-gathered, refl)

pub returns-then-left-eq0 : goal.returns-then-left-eq0
returns-then-left-eq0 c =
    let t = c.args.template in
    rw (le-leb (length t.components.now) 64 c.if-template-gt-MOST_COMPONENTS.false)
    (stopped t.sizes.minimums.now t.sizes.maximums.now c.args.inner t.components.now c.loop-word.word-index c.loop-word.left c.loop-word.summary _ c.if-left-eq0.true c.loop-word.invariant.1
    ∙ gathered_first_part c.args.inner c.args.steps (components_of t))

pub loop-word-preserved : goal.loop-word-preserved
loop-word-preserved c =
    let t = c.args.template in
    let k = c.component_after-component.result in (
      next-gathered _ _ _ _ _ _ k.parts k.counted k.small.1 c.loop-word.invariant.0 c.add_component-summary.ensures,
      turn t.sizes.minimums.now t.sizes.maximums.now c.args.inner t.components.now c.loop-word.word-index c.loop-word.left c.steps_inside.result k.parts c.loop-word.summary
          c.add_component-summary.result _ c.loop-word-test.true c.if-left-eq0.false c.component_after-component.ensures c.steps_inside.ensures c.add_component-summary.ensures
          c.loop-word.invariant.1,
    )

pub returns : goal.returns
returns c =
    let t = c.args.template in
    rw (le-leb (length t.components.now) 64 c.if-template-gt-MOST_COMPONENTS.false)
    (done t.sizes.minimums.now t.sizes.maximums.now c.args.inner t.components.now c.loop-word.word-index c.loop-word.left c.loop-word.summary _ c.loop-word-test.false c.loop-word.invariant.1
    ∙ gathered_first_part c.args.inner c.args.steps (components_of t))
