use Prim.Native.Nat.{ℕ, ◌-◌, ◌/◌}
use mathlib.Core.Path.{sym, ap, ◌∙◌}
use mathlib.Core.List.{List}
use Rattle.track_rules.specs.Steps.{cursor_at}
use Rattle.track_rules.proofs.Words.{totals_words}
use Rattle.track_rules.proofs.RecordList.{carried-of}
use Rattle.track_record.proofs.LentTracks.begin_at.Goals as goal

pub returns : goal.returns
returns c =
    let a = c.args in
    let ns = totals_words a.axis.repetitions a.self.template.components.now a.self.template.sizes.minimums.now a.self.template.sizes.maximums.now in
    carried-of a.axis _ _ a.index _ _ c.make_plan-plan.ensures (c.cursor_at-cursor.ensures ∙ ap (λ (l : List ℕ). cursor_at a.axis l ((a.index - 1) / 2)) (sym ns))
