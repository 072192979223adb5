use native.Mathlib.Omega.{arith}
use mathlib.Core.Path.{refl, sym, ap, ◌∙◌}
use Rattle.std.proofs.lemmas.Result.{err_from_is_err_and}
use Rattle.coordinates.specs.Refusals.{no_refusal}
use Rattle.coordinates.proofs.Faults.{fault_some}
use Rattle.track_rules.specs.Records.{item_at}
use Rattle.track_rules.specs.Tracks.{refused_record}
use Rattle.track_rules.proofs.Answers.{answer-refused, answer-past, answer-short, answer-held}
use Rattle.track_rules.proofs.RecordList.{carried-record}
use Rattle.track_record.proofs.LentTracks.track_record.Goals as goal

pub returns-in_err-check_axis : goal.returns-in_err-check_axis
returns-in_err-check_axis c =
    let e = c.in_err-check_axis.ensures in
    let p = err_from_is_err_and c.from_residual.result c.from_residual.ensures.1 in
    rw (p.1, p.2) (ap refused_record e ∙ sym (answer-refused _ _ _ _ _ (λ z. fault_some _ (e ∙ z))))

pub returns-then-record_count-index : goal.returns-then-record_count-index
returns-then-record_count-index c = sym (answer-past _ _ _ _ _ (sym c.in_ok-check_axis.ensures) (omega (arith, c.record_count.ensures)))

pub returns-then-self-track_count : goal.returns-then-self-track_count
returns-then-self-track_count c =
    let n = c.track_count.ensures in
    sym (answer-short _ _ _ _ _ (sym c.in_ok-check_axis.ensures) (omega (arith, c.record_count.ensures)) (omega (arith, n)))

pub returns : goal.returns
returns c =
    let n = c.track_count.ensures in
    answer-held c.args.axis _ _ _ _ (sym c.in_ok-check_axis.ensures) (omega (arith, c.record_count.ensures)) (omega (arith, n)) no_refusal c.record_with.result refl
    (c.record_with.ensures ∙ carried-record c.args.axis _ _ (item_at c.args.self.items.now) c.args.index _ c.begin_at-at.ensures)
