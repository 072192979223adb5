-- The cursor on the lines of a panel (document 02, Req 01; SHEET.md, The cursor), whatever the state, the tables and the item bytes hold.
use Rattle.std.specs.Prelude.{ℕ, Bool, cond, not, ◌&&◌, ◌||◌, List, eqb, ltb, length, ℤ, pos, ◌-ℤ◌, Float, Result, Ok, Err}
use Rattle.coordinates.specs.declared.axis.Axis.{Axis}
use Rattle.coordinates.specs.Refusals.{number_of, value, count, short, indefinite}
use Rattle.coordinates.specs.Lines.{to_grid_line}
use Rattle.sizing.specs.Words.{largest_bits, float_up_to}
use Rattle.sizing.specs.Ranges.{length_in_range}
use Rattle.track_rules.specs.declared.GridTrack.{GridTrack}
use Rattle.track_rules.specs.Records.{tracks_in, records_of}
use Rattle.axis_tables.specs.declared.AxisGrid.{AxisGrid}
use Rattle.panel_tables.specs.declared.Grid.{Grid}
use Rattle.panel_tables.specs.Axes.{grid_in}
use Rattle.panel_tables.specs.Regions.{axis_words_in}
use Rattle.axis_tables.specs.Reads.{inner_in}
use Rattle.panel_rules.specs.Calls.{axis_tracks, template_in, spares_in}
use Rattle.line_positions.specs.Positions.{all_definite, nearest_of, lines_before, lines_up_to}
use Rattle.coordinates.specs.declared.refusal.Fault.{Fault}
use Rattle.panel_positions.specs.declared.LineAnswer.{LineAnswer}
use Rattle.panel_positions.specs.declared.Between.{Between}

-- ---- one axis, from its state and its words

-- its records, as `track_record` and `initialize_grid_tracks` give them
abbrev pub records_on : AxisGrid → List ℕ → List ℕ → List GridTrack
records_on g words items = records_of (axis_tracks g) (template_in g words) (spares_in g words) items

-- a position in pixels from its bits
abbrev pub pixels : ℕ → Float
pixels bits = float_up_to largest_bits bits

-- counts that no sheet gives: above 10,000
abbrev pub forged : AxisGrid → Bool
forged g = ltb 10000 g.size.explicit || (ltb 10000 g.implicit.negative || ltb 10000 g.implicit.positive)

-- 3 for a position "outside a length's range", then 4 for a forged count, 10 for fewer than N item bytes, and 11 "after all older checks"
unfoldable pub cursor_refusal : AxisGrid → List ℕ → List ℕ → ℕ → ℕ → ℕ
unfolding length_in_range records_of all_definite
cursor_refusal g words items low high =
    cond (not (length_in_range low && length_in_range high)) value
    (cond (forged g) count
    (cond (ltb (length items) (tracks_in (axis_tracks g))) short
    (cond (all_definite (inner_in g.space) (records_on g words items)) 0 indefinite)))

-- the grid line at place k of the axis's lines, back by layer 1 without a limit: the first explicit line is at the place of the negative tracks
abbrev pub grid_line_at : AxisGrid → ℕ → ℤ
grid_line_at g k = to_grid_line g.size.explicit (pos k -ℤ pos g.implicit.negative)

-- how many lines of an axis lie before a span, and how many up to its end; or a refusal and zeros
pub record LinesWithin : Type 0 where
  pub number : ℕ
  pub below : ℕ
  pub upto : ℕ

-- the numbers and values of what a call answers
abbrev pub answered_nearest_line : Result ℤ Fault → LineAnswer
answered_nearest_line (Ok l) = record { number = 0; line = l }
answered_nearest_line (Err fault) = record { number = number_of fault; line = pos 0 }

abbrev pub answered_between : Result Between Fault → LinesWithin
answered_between (Ok b) = record { number = 0; below = b.below; upto = b.upto }
answered_between (Err fault) = record { number = number_of fault; below = 0; upto = 0 }

-- "the nearest line as a grid line (lower on a tie)", or a refusal and 0
abbrev pub line_for : AxisGrid → ℕ → ℕ → LineAnswer
line_for g number k = cond (eqb number 0) (record { number = 0; line = grid_line_at g k }) (record { number = number; line = pos 0 })

unfoldable pub nearest_on : AxisGrid → List ℕ → List ℕ → ℕ → LineAnswer
unfolding cursor_refusal
nearest_on g words items cursor = line_for g (cursor_refusal g words items cursor cursor) (nearest_of (inner_in g.space) (records_on g words items) (pixels cursor))

-- how many lines lie before a span, and how many up to its end; or a refusal and zeros
abbrev pub lines_for : ℕ → ℕ → ℕ → LinesWithin
lines_for number below upto = cond (eqb number 0) (record { number = 0; below = below; upto = upto }) (record { number = number; below = 0; upto = 0 })

unfoldable pub lines_on : AxisGrid → List ℕ → List ℕ → ℕ → ℕ → LinesWithin
unfolding cursor_refusal
lines_on g words items low high =
    lines_for (cursor_refusal g words items low high)
    (lines_before (inner_in g.space) (records_on g words items) (pixels low)) (lines_up_to (inner_in g.space) (records_on g words items) (pixels high))

-- ---- the calls on a panel

unfoldable pub nearest_line : Grid → List ℕ → Axis → List ℕ → ℕ → LineAnswer
unfolding nearest_on
nearest_line g words axis items cursor = nearest_on (grid_in g axis) (axis_words_in axis words) items cursor

unfoldable pub lines_within : Grid → List ℕ → Axis → List ℕ → ℕ → ℕ → LinesWithin
unfolding lines_on
lines_within g words axis items low high = lines_on (grid_in g axis) (axis_words_in axis words) items low high

-- what positions on no axis are refused by: lowest number first
abbrev pub no_axis_positions : ℕ → ℕ → ℕ
no_axis_positions low high = cond (length_in_range low && length_in_range high) count value
