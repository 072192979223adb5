use Rattle.track_run.specs.Steps.{state_record}
use Rattle.panel_calls.proofs.axis_track.LentAxis.carried.Goals as goal

pub returns : goal.returns
unfolding state_record
returns c = rw (← c.tracks.ensures.template, ← c.tracks.ensures.spares, ← c.tracks.ensures.items) c.record_with.ensures
