-- The call that fills a lent run of records (document 01, layer 5 and the table of refusals).
use Rattle.std.specs.Prelude.{ℕ, cond, List, ◌++◌, eqb, ltb, length, drop, replicate, Result, Ok, Err}
use Rattle.coordinates.specs.Refusals.{Refusal, no_refusal, refusal_of, number_of, short}
use Rattle.coordinates.specs.declared.refusal.Fault.{Fault}
use Rattle.sizing.specs.declared.MinMax.{MinMax}
use Rattle.template_rules.specs.Template.{Component}
use Rattle.track_rules.specs.declared.GridTrack.{GridTrack}
use Rattle.track_rules.specs.declared.AxisTracks.{AxisTracks}
use Rattle.track_rules.specs.Tracks.{zero_grid_track}
use Rattle.track_rules.specs.Records.{tracks_in, records_in, records_of, axis_refusal}

-- how many records were written, or a refusal and 0
pub record FillAnswer : Type 0 where
  pub refusal : Refusal
  pub count : ℕ

-- a refused answer: its number, line 0 and count 0
abbrev pub refused_fill : ℕ → FillAnswer
refused_fill number = record { refusal = refusal_of number; count = 0 }

-- the numbers of what the call answers
abbrev pub answered_fill : Result ℕ Fault → FillAnswer
answered_fill (Ok count) = record { refusal = no_refusal; count = count }
answered_fill (Err fault) = refused_fill (number_of fault)

-- the refusal of its axis, 3 or 4; 10 for "lent records below 2N + 1, item bytes below N"; else 2N + 1
unfoldable pub fill_answer_of : AxisTracks → ℕ → ℕ → FillAnswer
unfolding axis_refusal
fill_answer_of a lent items =
    cond (eqb (axis_refusal a) 0)
    (cond (ltb lent (records_in a)) (refused_fill short) (cond (ltb items (tracks_in a)) (refused_fill short) (record { refusal = no_refusal; count = records_in a })))
    (refused_fill (axis_refusal a))

-- the run after the call: the records, and what stood past them; as it came where it is refused
unfoldable pub run_after : AxisTracks → List Component → List MinMax → List ℕ → List GridTrack → List GridTrack
unfolding records_of axis_refusal
run_after a template spares items run =
    cond (eqb (axis_refusal a) 0)
    (cond (ltb (length run) (records_in a)) run
    (cond (ltb (length items) (tracks_in a)) run (records_of a template spares items ++ drop (records_in a) run)))
    run

-- n zero records
unfoldable pub zero_records : ℕ → List GridTrack
zero_records n = replicate n zero_grid_track
