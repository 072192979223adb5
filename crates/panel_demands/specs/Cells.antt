-- What demands 2 and 3 say of cells (document 02, request 10), for a reader. A `cell` line is held as two placements, its columns and then its rows,
-- so that all that is said of placement i is said of each half: "its settled fields are, as 01's calls give them before any placing". Where a
-- cell lands is no answer of these calls. proofs/Cells.antt draws it from the demands.
use Rattle.std.specs.Prelude.{ℕ, ◌+◌, ◌<◌, ◌≡◌, true, List, ◌∷◌, ◌++◌, length, get_or}
use Rattle.coordinates.specs.declared.axis.Axis.{Axis}
use Rattle.coordinates.specs.declared.axis.Axis.TheVariants.{Column, Row}
use Rattle.coordinates.specs.Axes.{of_axis}
use Rattle.name_rules.specs.Css.{start, end}
use Rattle.name_rules.specs.Conditions.{UsedNamesLie}
use Rattle.panel_tables.specs.View.{Placement, no_placement}
use Rattle.sheet_forms.specs.Forms.{cell}
use Rattle.sheet_rules.specs.Sheet.{sheet_of}
use Rattle.sheet_rules.specs.Contents.{Line, lines_of, is_of, halves_in, placements_of, cells_from}
use Rattle.sheet_rules.specs.Panels.{Tables}
use Rattle.panel_rules.specs.Placing.{PlacementAnswer}
use Rattle.panel_rules.specs.Runs.{Held, Call, Accepted, run_of, placement_of}
use Rattle.panel_rules.specs.Views.{names_after, css_end, placement_at, PlacedByCss, placement_after}
use Rattle.panel_rules.specs.Added.{added}
use Rattle.panel_rules.specs.Book.{book_names, AllValid, Regular}
use Rattle.panel_rules.specs.Order.{SamePanel, SameEntries}
use Rattle.panel_rules.specs.Alone.{Run, held_by, DifferInRows}
use Rattle.panel_rules.specs.Cells.{places_for, unmarked}
use Rattle.panel_demands.specs.Demands.{both_written}

-- a `cell` line of a sheet, between the lines before it and those after it
pub record CellLine (s : List ℕ) (before : List Line) (l : Line) (after : List Line) : Type 0 where
  pub lines : lines_of s ≡ before ++ (l ∷ after)
  pub word : is_of cell l ≡ true

-- its half on an axis
abbrev pub half_of : Line → Axis → Placement
half_of l a = get_or (halves_in l) (of_axis a 0 1) no_placement

-- which placement that is: the columns come after the placements of the lines before, and then the rows
abbrev pub half_at : List Line → Axis → ℕ
half_at before a = length (placements_of before) + of_axis a 0 1

-- the settled fields of a half: what a call answers for it after a run
abbrev pub settled_half : Held → List Line → Axis → PlacementAnswer
settled_half h before a = placement_of h (half_at before a)

-- ---- demand 2

-- a cell of an accepted sheet, after any entry calls
pub record CellSettled (s : List ℕ) (t : Tables) (calls : List Call) (before : List Line) (l : Line) : Type 0 where
  pub held : (a : Axis) → half_at before a < length (sheet_of s).view.placements
  pub half : (a : Axis) → placement_at (sheet_of s).view (half_at before a) ≡ half_of l a
  -- the number of its line is held too
  pub line : get_or (sheet_of s).view.cells (length (cells_from 1 before)) 0 ≡ length before + 1
  -- each half under conditions on its own names only: what CSS counts to
  pub placed : (a : Axis) → let x = names_after (sheet_of s).view a (added s a calls) in
      UsedNamesLie x start (css_end (half_of l a).start) → UsedNamesLie x end (css_end (half_of l a).end)
      → PlacedByCss x (half_of l a) (settled_half (run_of s t calls) before a)
  -- on any names: what a `place` line of its axis with the same ends is answered
  pub like_places : (a : Axis) → unmarked (settled_half (run_of s t calls) before a) ≡ placement_after (places_for (sheet_of s).view) (λ b. added s b calls) (half_at before a)
  -- and it says that it is a cell's
  pub marked : (a : Axis) → (settled_half (run_of s t calls) before a).cell ≡ true

-- ---- demand 3

pub record CellsInThirdDemand : Type 0 where
  -- the run theorem: what CSS counts to over the book and the areas
  pub runs : (n : Axis → ℕ) (s : List ℕ) (t : Tables) (calls : List Call) → Accepted s t → AllValid (sheet_of s).view
      → Regular (both_written n s) (sheet_of s).view calls → (before after : List Line) (l : Line) → CellLine s before l after
      → (a : Axis) → PlacedByCss (book_names (both_written n s a) (sheet_of s).view a calls) (half_of l a) (settled_half (run_of s t calls) before a)
  -- "with the same accepted entries in any order", both halves alike
  pub order : (n m : Axis → ℕ) (p q : Run) → Accepted p.sheet p.tables → Accepted q.sheet q.tables
      → AllValid (sheet_of p.sheet).view → AllValid (sheet_of q.sheet).view
      → Regular (both_written n p.sheet) (sheet_of p.sheet).view p.calls → Regular (both_written m q.sheet) (sheet_of q.sheet).view q.calls
      → SamePanel (sheet_of p.sheet).view (sheet_of q.sheet).view
      → SameEntries (both_written n p.sheet) (sheet_of p.sheet).view p.calls (both_written m q.sheet) (sheet_of q.sheet).view q.calls
      → (before : List Line) (a : Axis) → settled_half (held_by p) before a ≡ settled_half (held_by q) before a
  -- in "any two runs that differ in nothing but row names and row template", its columns alike; its rows are on the rows in both
  pub columns : (p q : Run) → DifferInRows p q → (before after : List Line) (l : Line) → CellLine p.sheet before l after
      → (settled_half (held_by p) before Column ≡ settled_half (held_by q) before Column)
      × ((settled_half (held_by p) before Row).axis ≡ Row) × ((settled_half (held_by q) before Row).axis ≡ Row)
