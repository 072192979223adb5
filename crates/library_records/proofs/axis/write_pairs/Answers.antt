use Prim.Native.Nat.{◌+◌, ◌-◌, min}
use native.Mathlib.Omega.{arith}
use mathlib.Core.Path.{◌≡◌, ap, ◌∙◌}
use lib.ListN.{length}
use lib.Seq.{length-sets}
use Rattle.track_rules.specs.Records.{explicit_of}
use Rattle.track_rules.specs.Steps.{word_totals, sum_of}
use Rattle.axis_tables.specs.Runs.{part_of}
use Rattle.panel_rules.specs.Calls.{axis_tracks}
use Rattle.library_records.proofs.Axes.{template-room, pairs_cut}
use Rattle.library_records.proofs.Running.{axis_written}
use Rattle.library_records.proofs.axis.write_pairs.Goals as goal

pub returns : goal.returns
returns c =
    let a = c.args in
    let s = c.cut in
    let t = c.cut-2 in
    pairs_cut a.planned.lent.grid a.planned.plan a.planned.lent.tables.now a.planned.lent.items.now c.axis_tracks.result c.spares_on.result.minimums.now c.spares_on.result.maximums.now c.gutters_of-gutters.result
    c.before_end-before.result c.before_end-written.result c.saturating_sub-offset.result c.saturating_sub-passed.result a.tracks.first a.tracks.count a.tracks.place
    a.words.now c.write_negative.new.words c.write_template.new.words c.write_positive.new.words
    s.result.0.first s.result.0.count s.result.0.place s.result.1.first s.result.1.count s.result.1.place t.result.0.first t.result.0.count t.result.0.place t.result.1.first t.result.1.count t.result.1.place
    s.ensures.early s.ensures.late t.ensures.early t.ensures.late
    c.axis_tracks.ensures c.spares_on.ensures.minimums c.spares_on.ensures.maximums c.gutters_of-gutters.ensures (axis_written a.planned.lent.grid a.planned.lent.tables.now a.planned.lent.items.now a.planned.plan a.planned.worked_out)
    c.before_end-before.ensures c.before_end-written.ensures c.saturating_sub-offset.ensures c.saturating_sub-passed.ensures
    c.write_negative.ensures c.write_template.ensures c.write_positive.ensures

pub write_template-requires : goal.write_template-requires
write_template-requires c =
    let a = c.args in
    let s = c.cut.ensures in
    let t = c.cut-2.ensures in
    let n = c.axis_tracks.result.counts.negative_implicit in
    let before = c.before_end-before.result in
    let written = c.before_end-written.result in
    let kept : length c.write_negative.new.words ≡ length a.words.now = ap length c.write_negative.ensures ∙ simp length-sets in
    let same : c.axis_tracks.result ≡ axis_tracks a.planned.lent.grid = c.axis_tracks.ensures in
    let taken : written ≡ min (n + a.planned.plan.written - (a.tracks.first + before)) (a.tracks.count - before) = rw (s.late.0, s.late.1) at c.before_end-written.ensures in
    let from : c.saturating_sub-offset.result ≡ a.tracks.first + before - n = rw (t.early.0, s.late.0) at c.saturating_sub-offset.ensures in
    record {
      count_bound = λ h. omega (
        arith,
        t.early.1,
        template-room n a.planned.plan.written a.tracks.first a.tracks.count before written c.saturating_sub-offset.result (explicit_of (axis_tracks a.planned.lent.grid)) (sum_of (word_totals a.planned.lent.grid.size.repetitions (part_of a.planned.lent.tables.now 0 a.planned.lent.grid.template.components)))
            (axis_written a.planned.lent.grid a.planned.lent.tables.now a.planned.lent.items.now a.planned.plan a.planned.worked_out) c.before_end-before.ensures taken from (omega (arith, h, t.early.1)),
      );
      count_in_bounds = omega (arith, kept, t.early.1, t.early.2, s.late.1, s.late.2, c.requires.count_in_bounds, c.before_end-before.ensures, taken);
    }
