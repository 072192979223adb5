use Rattle.std.proofs.Common.{◌≡◌, ℕ, ◌++◌, ◌≤◌, List, length, take, drop, sym, ap, ◌∙◌, arith, slice_set}
use Rattle.std.proofs.lemmas.List.{length-take-le}
use Rattle.std.proofs.lemmas.Result.{err_from_is_err_and}
use Rattle.template_rules.specs.Template.{template_of}
use Rattle.track_rules.specs.declared.GridTrack.{GridTrack}
use Rattle.track_rules.specs.declared.TrackWalk.{TrackWalk}
use Rattle.track_rules.specs.Written.{spares_of}
use Rattle.track_rules.specs.Records.{item_at}
use Rattle.track_rules.specs.Steps.{word_totals, record_of}
use Rattle.track_run.specs.Steps.{fill_count, filled_to, state_record, advance_of}
use Rattle.track_run.proofs.Filling.{filled_next, filled-part, filled-run, refused-run, count-within, state-record, advanced}
use Rattle.track_run.proofs.initialize_grid_tracks.Goals as goal

pub returns-in_err-count : goal.returns-in_err-count
returns-in_err-count c =
    let a = c.args.axis in
    let cs = template_of c.args.lent.template.components.now c.args.lent.template.sizes.minimums.now c.args.lent.template.sizes.maximums.now in
    let sp = spares_of c.args.lent.spares.minimums.now c.args.lent.spares.maximums.now in
    let p = err_from_is_err_and c.from_residual.result c.from_residual.ensures.1 in
    rw (p.1, p.2) (c.in_err-count.ensures.answered, refused-run a cs sp c.args.lent.items.now c.args.records.now _ c.in_err-count.ensures.answered)

pub slice_bounds-record-items-end : goal.slice_bounds-record-items-end
slice_bounds-record-items-end c =
    let n : c.in_ok-count.count ≡ fill_count c.args.axis (length c.args.records.now) (length c.args.lent.items.now) = c.in_ok-count.ensures.counted in
    omega (arith, n, count-within c.args.axis (length c.args.records.now) (length c.args.lent.items.now))

pub slice_bounds-record-items-end-2 : goal.slice_bounds-record-items-end-2
slice_bounds-record-items-end-2 c =
    let n : c.in_ok-count.count ≡ fill_count c.args.axis (length c.args.records.now) (length c.args.lent.items.now) = c.in_ok-count.ensures.counted in
    let within : c.in_ok-count.count ≤ length c.args.records.now = omega (arith, n, count-within c.args.axis (length c.args.records.now) (length c.args.lent.items.now)) in
    sym (length-take-le c.in_ok-count.count c.args.records.now within)

pub loop-index-preserved : goal.loop-index-preserved
unfolding state_record
loop-index-preserved c =
    let a = c.args.axis in
    let cs = template_of c.args.lent.template.components.now c.args.lent.template.sizes.minimums.now c.args.lent.template.sizes.maximums.now in
    let sp = spares_of c.args.lent.spares.minimums.now c.args.lent.spares.maximums.now in
    let item = item_at c.args.lent.items.now in
    let i = c.loop-index.index in
    let run = take c.in_ok-count.count c.args.records.now in
    let e : c.record_with.result ≡ record_of a cs sp item i =
    c.record_with.ensures ∙ ap (λ (s : TrackWalk). state_record cs sp item s i) c.loop-index.invariant.0 ∙ state-record a cs item sp i in (
      c.advance-at.ensures ∙ ap (λ (s : TrackWalk). advance_of (word_totals s.axis.repetitions c.args.lent.template.components.now) s i) c.loop-index.invariant.0
          ∙ advanced a c.args.lent.template.components.now c.args.lent.template.sizes.minimums.now c.args.lent.template.sizes.maximums.now item i (omega (arith, c.loop-index-test.true)),
      ap (λ (l : List GridTrack). slice_set l i c.record_with.result) c.loop-index.invariant.1
          ∙ ap (λ (r : GridTrack). slice_set (filled_to a cs sp item i run) i r) e ∙ filled_next a cs sp item i run (omega (arith, c.loop-index-test.true)),
    )

pub returns : goal.returns
returns c =
    let a = c.args.axis in
    let cs = template_of c.args.lent.template.components.now c.args.lent.template.sizes.minimums.now c.args.lent.template.sizes.maximums.now in
    let sp = spares_of c.args.lent.spares.minimums.now c.args.lent.spares.maximums.now in
    let item = item_at c.args.lent.items.now in
    let run = c.args.records.now in
    let count = c.in_ok-count.count in
    let n : count ≡ fill_count a (length run) (length c.args.lent.items.now) = c.in_ok-count.ensures.counted in
    let within : count ≤ length run = omega (arith, n, count-within a (length run) (length c.args.lent.items.now)) in
    let all : c.loop-index.index ≡ count = omega (arith, c.loop-index-test.false, c.loop-index.auto.index-end, length-take-le count run within) in (
      c.in_ok-count.ensures.answered,
      ap (λ (l : List GridTrack). l ++ drop count run) (c.loop-index.invariant.1 ∙ ap (λ (k : ℕ). filled_to a cs sp item k (take count run)) all)
          ∙ filled-part a cs sp item count run within ∙ ap (λ (k : ℕ). filled_to a cs sp item k run) n ∙ filled-run a cs sp c.args.lent.items.now run,
    )
