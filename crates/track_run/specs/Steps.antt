-- What the filling loop computes, step by step.
use Rattle.std.specs.Prelude.{ℕ, ◌+◌, ◌*◌, ◌%◌, Bool, cond, List, ◌++◌, ltb, eqb, drop}
use Rattle.sizing.specs.declared.MinMax.{MinMax}
use Rattle.template_rules.specs.Template.{Component}
use Rattle.track_rules.specs.declared.GridTrack.{GridTrack}
use Rattle.track_rules.specs.declared.AxisTracks.{AxisTracks}
use Rattle.track_rules.specs.declared.Cursor.{Cursor}
use Rattle.track_rules.specs.Records.{listed, negative_of, tracks_in, records_in, axis_refusal}
use Rattle.track_rules.specs.Steps.{next_of, record_with, record_of}
unfoldable pub use Rattle.track_rules.specs.Steps.{state_at}
use Rattle.track_rules.specs.declared.TrackWalk.{TrackWalk}

-- how many records are written
unfoldable pub fill_count : AxisTracks → ℕ → ℕ → ℕ
unfolding axis_refusal
fill_count a lent items = cond (eqb (axis_refusal a) 0) (cond (ltb lent (records_in a)) 0 (cond (ltb items (tracks_in a)) 0 (records_in a))) 0

-- the first n records, and the rest of the run as before
abbrev pub filled_to : AxisTracks → List Component → List MinMax → (ℕ → Bool) → ℕ → List GridTrack → List GridTrack
filled_to a cs sp item n run = listed (record_of a cs sp item) n ++ drop n run

unfoldable pub state_record : List Component → List MinMax → (ℕ → Bool) → TrackWalk → ℕ → GridTrack
state_record cs sp item s i = record_with s.axis s.plan cs sp item s.cursor i

abbrev pub moved : TrackWalk → Cursor → TrackWalk
moved s u = record { axis = s.axis; plan = s.plan; cursor = u }

-- one record further
unfoldable pub advance_of : List ℕ → TrackWalk → ℕ → TrackWalk
unfolding next_of
advance_of ns s i = cond (eqb (i % 2) 1) s (cond (ltb i (2 * negative_of s.axis + 2)) s (moved s (next_of ns s.cursor)))
