-- What the answers of the cursor mean (document 02, Req 01); proofs/Theorem.antt proves it of every axis.
use Rattle.std.specs.Prelude.{ℕ, ◌≤◌, ◌<◌, ◌≡◌, List, length}
use Rattle.coordinates.specs.Refusals.{indefinite}
use Rattle.coordinates.specs.declared.axis.Axis.{Axis}
use Rattle.coordinates.specs.declared.axis.Axis.TheVariants.{Column}
use Rattle.axis_tables.specs.Reads.{inner_in}
use Rattle.track_rules.specs.Tracks.{zero_grid_track}
use Rattle.axis_tables.specs.declared.AxisGrid.{AxisGrid}
use Rattle.panel_tables.specs.Axes.{grid_in}
use Rattle.panel_rules.specs.Calls.{words_in}
use Rattle.panel_rules.specs.Runs.{Held, names_of}
use Rattle.panel_rules.specs.Alone.{Run, held_by}
use Rattle.line_positions.specs.Positions.{tracks_among, LinesLie, SomeIndefinite, Nearest, Within}
use Rattle.panel_positions.specs.declared.LineAnswer.{LineAnswer}
use Rattle.panel_positions.specs.Cursor.{LinesWithin}
use Rattle.panel_positions.specs.Cursor.{records_on, pixels, cursor_refusal, grid_line_at, nearest_on, lines_on}
use Rattle.panel_positions.specs.Steps.{older_refusal}

-- of an axis: its inner size and its records
pub record CursorTheorem (g : AxisGrid) (words items : List ℕ) : Type 0 where
  -- where its lines lie
  pub positions : LinesLie (inner_in g.space) (records_on g words items)
  -- the line answered is nearest, and whatever line is nearest is the one answered
  pub nearest : (cursor : ℕ) → cursor_refusal g words items cursor cursor ≡ 0
      → (k : ℕ) × Nearest (inner_in g.space) (records_on g words items) (pixels cursor) k × (nearest_on g words items cursor ≡ record { number = 0; line = grid_line_at g k })
  pub only : (cursor : ℕ) → cursor_refusal g words items cursor cursor ≡ 0
      → (k : ℕ) → Nearest (inner_in g.space) (records_on g words items) (pixels cursor) k → nearest_on g words items cursor ≡ record { number = 0; line = grid_line_at g k }
  -- the lines within a span are those from `below` on and before `upto`
  pub within : (low high : ℕ) → cursor_refusal g words items low high ≡ 0 → (k : ℕ) → k ≤ tracks_among (records_on g words items)
      → (Within (inner_in g.space) (records_on g words items) (pixels low) (pixels high) k → ((lines_on g words items low high).below ≤ k) × (k < (lines_on g words items low high).upto))
      × (((lines_on g words items low high).below ≤ k) × (k < (lines_on g words items low high).upto) → Within (inner_in g.space) (records_on g words items) (pixels low) (pixels high) k)
  -- 11 exactly where no older check refuses and some record of the axis has no definite size
  pub unmeasured : (low high : ℕ) → cursor_refusal g words items low high ≡ indefinite
      → (older_refusal g (length items) low high ≡ 0) × SomeIndefinite (inner_in g.space) (records_on g words items) zero_grid_track
  pub refused : (low high : ℕ) → older_refusal g (length items) low high ≡ 0 → SomeIndefinite (inner_in g.space) (records_on g words items) zero_grid_track
      → cursor_refusal g words items low high ≡ indefinite

-- ---- the column answers of two runs

abbrev pub nearest_in : Held → Axis → List ℕ → ℕ → LineAnswer
nearest_in h a items cursor = nearest_on (grid_in h.panel.grid a) (words_in (names_of h.tables) a) items cursor

abbrev pub lines_in : Held → Axis → List ℕ → ℕ → ℕ → LinesWithin
lines_in h a items low high = lines_on (grid_in h.panel.grid a) (words_in (names_of h.tables) a) items low high

pub record SameCursor (p q : Run) : Type 0 where
  pub nearest : (items : List ℕ) (cursor : ℕ) → nearest_in (held_by p) Column items cursor ≡ nearest_in (held_by q) Column items cursor
  pub lines : (items : List ℕ) (low high : ℕ) → lines_in (held_by p) Column items low high ≡ lines_in (held_by q) Column items low high
