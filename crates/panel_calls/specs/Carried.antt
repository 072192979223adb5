-- What is carried from record to record of an axis, so that all are read in one pass.
use Rattle.std.specs.Prelude.{ℕ, List}
use Rattle.track_rules.specs.declared.GridTrack.{GridTrack}
use Rattle.track_rules.specs.Records.{item_at}
use Rattle.track_rules.specs.Steps.{word_totals}
use Rattle.track_rules.specs.declared.TrackWalk.{TrackWalk}
use Rattle.track_run.specs.Steps.{state_at, state_record, advance_of}
use Rattle.axis_tables.specs.declared.AxisGrid.{AxisGrid}
use Rattle.axis_tables.specs.Runs.{part_of}
use Rattle.panel_rules.specs.Calls.{axis_tracks, template_in, spares_in}

-- what is carried to record i
abbrev pub carried_to : AxisGrid → List ℕ → List ℕ → ℕ → TrackWalk
carried_to g words items i = state_at (axis_tracks g) (template_in g words) (item_at items) i

-- record i, by what is carried to it
abbrev pub carried_record : AxisGrid → List ℕ → List ℕ → TrackWalk → ℕ → GridTrack
carried_record g words items at i = state_record (template_in g words) (spares_in g words) (item_at items) at i

-- what is carried on from record i
abbrev pub carried_on : AxisGrid → List ℕ → TrackWalk → ℕ → TrackWalk
carried_on g words at i = advance_of (word_totals at.axis.repetitions (part_of words 0 g.template.components)) at i
