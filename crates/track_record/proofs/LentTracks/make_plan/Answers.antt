use native.Mathlib.Omega.{arith}
use mathlib.Core.Path.{sym, ◌∙◌}
use Rattle.track_rules.specs.Records.{item_at, open_to}
use Rattle.std.proofs.Common.{◌≡◌, ap, ℕ, List, drop}
use Rattle.std.proofs.lemmas.Grind.{common_steps}
use Rattle.template_rules.specs.Template.{template_of}
use Rattle.track_rules.specs.Steps.{word_totals}
use Rattle.track_rules.proofs.Opened.{open_le}
use Rattle.track_record.specs.Plans.{closed_from}
use Rattle.track_record.proofs.Opens.{plan_early, plan_end}
use Rattle.track_record.proofs.Fits.{plan_unfit}
use Rattle.track_record.proofs.LentTracks.make_plan.Goals.{then-before-written-via-then-before-written, then-before-written-via-else-before-written+then-not-has_fit}
use Rattle.track_record.proofs.LentTracks.make_plan.Goals as goal

pub returns-then-before-written : goal.returns-then-before-written
returns-then-before-written c =
    let a = c.args in
    elim c.then-before-written.branch [
      | then-before-written-via-then-before-written w ↦ plan_early a.axis a.self.template.components.now a.self.template.sizes.minimums.now a.self.template.sizes.maximums.now (item_at a.self.items.now) c.written_count-written.result c.track_count-tracks.result c.written_count-written.ensures c.track_count-tracks.ensures w.if-before-written.true
      | then-before-written-via-else-before-written+then-not-has_fit w ↦ plan_unfit a.axis a.self.template.components.now a.self.template.sizes.minimums.now a.self.template.sizes.maximums.now (item_at a.self.items.now) c.written_count-written.result c.track_count-tracks.result c.written_count-written.ensures c.track_count-tracks.ensures (sym w.has_fit.ensures ∙ w.if-not-has_fit.true)
    ]

pub overflow_add-opened : goal.overflow_add-opened
overflow_add-opened c = omega (arith, c.open_end.ensures, c.written_count-written.type_inv, open_le (closed_from (word_totals c.args.axis.repetitions c.args.self.template.components.now) (template_of c.args.self.template.components.now c.args.self.template.sizes.minimums.now c.args.self.template.sizes.maximums.now) (item_at c.unwrap_or-rest.result.now) 0) c.written_count-written.result)

pub returns : goal.returns
returns c =
    let a = c.args in
    let all = c.if-before-written.false in
    let ws = a.self.template.components.now in
    let cs = template_of ws a.self.template.sizes.minimums.now a.self.template.sizes.maximums.now in
    let written = c.written_count-written.result in
    let rest : c.unwrap_or-rest.result.now ≡ drop a.axis.counts.negative_implicit a.self.items.now = grind (arith, common_steps) in
    plan_end a.axis ws a.self.template.sizes.minimums.now a.self.template.sizes.maximums.now a.self.items.now written c.open_end.result c.written_count-written.ensures (omega (arith, all, c.track_count-tracks.ensures))
    (c.open_end.ensures ∙ ap (λ (l : List ℕ). open_to (closed_from (word_totals a.axis.repetitions ws) cs (item_at l) 0) written) rest)
