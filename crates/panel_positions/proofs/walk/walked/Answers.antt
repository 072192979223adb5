use Rattle.std.specs.Prelude.{Float, Option}
use mathlib.Core.Path.{◌≡◌, ap, ap₂, ◌∙◌}
use mathlib.Core.Bool.{true}
use Prim.Native.Nat.{ℕ, ◌+◌, ◌*◌}
use native.Mathlib.Omega.{arith}
use Rattle.track_rules.specs.declared.AxisTracks.{AxisTracks}
use Rattle.track_rules.specs.Tracks.{gutter_of}
use Rattle.track_rules.specs.Records.{tracks_in, records_in}
use Rattle.panel_rules.specs.Calls.{axis_tracks}
use Rattle.line_positions.specs.Steps.{walked_to}
use Rattle.line_positions.proofs.Walk.{walk-begun}
use Rattle.panel_positions.specs.Cursor.{records_on}
use Rattle.panel_positions.proofs.Carrying.{few-count, first_on, pair-on}
use Rattle.panel_positions.proofs.walk.walked.Goals as goal

pub loop-done-init : goal.loop-done-init
loop-done-init c =
    let a = c.args in
    let n = c.track_count-count.ensures ∙ ap tracks_in c.axis_tracks-tracks.ensures in
    let g = c.gutter-first.ensures ∙ ap (λ (t : AxisTracks). gutter_of t.gap true) c.axis_tracks-tracks.ensures in
    let s =
    first_on a.lent.grid a.lent.tables.now a.lent.items.now a.span c.inner-inner.result c.track_count-count.result n c.first-at.result c.gutter-first.result
    c.begin-begun.result c.position_step-walk.result c.first-at.ensures g
    (c.begin-begun.ensures ∙ walk-begun a.span c.inner-inner.result (records_on a.lent.grid a.lent.tables.now a.lent.items.now)) c.position_step-walk.ensures in
    (omega arith, few-count a.lent.grid a.lent.tables.now a.lent.items.now _ _ c.track_count-count.ensures c.axis_tracks-tracks.ensures, s.0, s.1)

pub loop-done-preserved : goal.loop-done-preserved
loop-done-preserved c =
    let a = c.args in
    let n = c.track_count-count.ensures ∙ ap tracks_in c.axis_tracks-tracks.ensures in
    let s =
    pair-on a.lent.grid a.lent.tables.now a.lent.items.now a.span c.inner-inner.result c.track_count-count.result n c.loop-done.done c.loop-done-test.true
    c.loop-done.at c.next-at.result c.carried-track.result c.gutter_after-after.result c.loop-done.walk
    c.position_step-met.result c.position_step-walk-in-loop-done.result c.loop-done.invariant.2 c.loop-done.invariant.3
    c.carried-track.ensures c.gutter_after-after.ensures c.position_step-met.ensures c.position_step-walk-in-loop-done.ensures c.next-at.ensures in
    (omega arith, c.loop-done.invariant.1, s.0, s.1)

pub returns : goal.returns
returns c =
    let a = c.args in
    let n : c.track_count-count.result ≡ tracks_in (axis_tracks a.lent.grid) = c.track_count-count.ensures ∙ ap tracks_in c.axis_tracks-tracks.ensures in
    let h : 2 * c.loop-done.done + 1 ≡ records_in (axis_tracks a.lent.grid) = omega (arith, c.loop-done.invariant.0, c.loop-done-test.false) in
    c.loop-done.invariant.3 ∙ ap₂ (λ (i : Option Float) (j : ℕ). walked_to a.span i (records_on a.lent.grid a.lent.tables.now a.lent.items.now) j) c.inner-inner.ensures h
