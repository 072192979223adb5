-- What one walk over the records of an axis answers to both calls.
use Rattle.std.specs.Prelude.{ℕ, cond, not, ◌&&◌, List, eqb, ltb, Result, Ok, Err}
use Rattle.coordinates.specs.Refusals.{number_of, value, count, short}
use Rattle.sizing.specs.Ranges.{length_in_range}
use Rattle.track_rules.specs.Records.{tracks_in}
use Rattle.axis_tables.specs.declared.AxisGrid.{AxisGrid}
use Rattle.axis_tables.specs.Reads.{inner_in}
use Rattle.panel_rules.specs.Calls.{axis_tracks}
use Rattle.line_positions.specs.Positions.{nearest_of, lines_before, lines_up_to}
use Rattle.coordinates.specs.declared.refusal.Fault.{Fault}
use Rattle.line_positions.specs.declared.LineWalk.{LineWalk}
use Rattle.panel_positions.specs.Cursor.{records_on, pixels, forged, cursor_refusal}

-- what is refused before the records are walked
unfoldable pub older_refusal : AxisGrid → ℕ → ℕ → ℕ → ℕ
unfolding length_in_range
older_refusal g items low high =
    cond (not (length_in_range low && length_in_range high)) value
    (cond (forged g) count
    (cond (ltb items (tracks_in (axis_tracks g))) short 0))

-- what is sought of the lines of an axis: the place of the nearest, from 0 on, how many lie before a span and how many up to its end;
-- or a refusal and zeros
pub record Sought : Type 0 where
  pub number : ℕ
  pub nearest : ℕ
  pub below : ℕ
  pub upto : ℕ

abbrev pub refused_sought : ℕ → Sought
refused_sought number = record { number = number; nearest = 0; below = 0; upto = 0 }

-- the line nearest to the low end of a span, and the lines before and up to its ends
abbrev pub sought_in : AxisGrid → List ℕ → List ℕ → ℕ → ℕ → Sought
sought_in g words items low high =
    record {
      number = 0;
      nearest = nearest_of (inner_in g.space) (records_on g words items) (pixels low);
      below = lines_before (inner_in g.space) (records_on g words items) (pixels low);
      upto = lines_up_to (inner_in g.space) (records_on g words items) (pixels high);
    }

unfoldable pub sought_on : AxisGrid → List ℕ → List ℕ → ℕ → ℕ → Sought
unfolding cursor_refusal
sought_on g words items low high =
    let number = cursor_refusal g words items low high in
    cond (eqb number 0) (sought_in g words items low high) (refused_sought number)

-- the numbers and values of what a walk answers
abbrev pub answered_sought : Result LineWalk Fault → Sought
answered_sought (Ok w) = record { number = 0; nearest = w.nearest; below = w.below; upto = w.upto }
answered_sought (Err fault) = refused_sought (number_of fault)
