-- The totals so far, with what is left of the tracks added in order, are those of the whole repeat.
use Rattle.std.proofs.Common.{◌-◌, ◌≡◌}
use mathlib.Core.List.{foldl}
use Rattle.template_rules.specs.Template.{tracks_from}
use Rattle.template_rules.specs.Steps.{no_tracks, track_step}
use Rattle.template_summary.proofs.tracks.repeat_totals.Given as goal

abbrev pub invariant-loop-place : goal.invariant-loop-place
invariant-loop-place l =
    foldl (track_step l.parts.count l.inner) l.totals (tracks_from l.template.sizes.minimums.now l.template.sizes.maximums.now l.place (l.place-end - l.place))
    ≡ foldl (track_step l.parts.count l.inner) no_tracks (tracks_from l.template.sizes.minimums.now l.template.sizes.maximums.now l.parts.first l.parts.length)
