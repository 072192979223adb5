use Rattle.std.proofs.Common.{◌≡◌, ℕ, suc, ◌+◌, ◌-◌, ◌<◌, ◌≤◌, List, add-one, arith}
use mathlib.Core.List.{foldl}
use lib.Ieee.{Float}
use Rattle.template_rules.specs.Template.{track_at, tracks_from}
use Rattle.template_rules.specs.Steps.{of_track, add_totals, track_step}
use Rattle.template_rules.specs.declared.RepetitionCount.{RepetitionCount}
use Rattle.template_rules.specs.declared.TrackTotals.{TrackTotals}
use Rattle.template_summary.proofs.tracks.repeat_totals.Goals as goal

-- the tracks from a place to an end, over plain lists
module _ (minimums maximums : List ℕ) (count : RepetitionCount) (inner : Float) where
  abbrev rest : TrackTotals → ℕ → ℕ → TrackTotals
  rest s place n = foldl (track_step count inner) s (tracks_from minimums maximums place n)

  turn : (place end : ℕ) (s s' t all : TrackTotals) → place < end → t ≡ of_track inner (track_at minimums maximums place) → s' ≡ add_totals count s t
      → rest s place (end - place) ≡ all → rest s' (place + 1) (end - (place + 1)) ≡ all
  unfolding tracks_from
  turn place end s s' t all h f q g =
      let one : end - place ≡ suc (end - (place + 1)) = omega arith in
      rw (q, f, add-one place) (rw (one, add-one place) at g)

  done : (place end : ℕ) (s all : TrackTotals) → end ≤ place → rest s place (end - place) ≡ all → s ≡ all
  unfolding tracks_from
  done place end s all h g = let none : end - place ≡ 0 = omega arith in rw none at g

pub loop-place-preserved : goal.loop-place-preserved
loop-place-preserved c =
    let t = c.args.template in
    turn t.sizes.minimums.now t.sizes.maximums.now c.args.component.parts.count c.args.inner c.loop-place.place _ c.loop-place.totals c.add_track-totals.result c.track_totals-track.result _
    c.loop-place-test.true c.track_totals-track.ensures c.add_track-totals.ensures c.loop-place.invariant

pub returns : goal.returns
returns c =
    let t = c.args.template in
    done t.sizes.minimums.now t.sizes.maximums.now c.args.component.parts.count c.args.inner c.loop-place.place _ c.loop-place.totals _ c.loop-place-test.false c.loop-place.invariant
