-- The least resize after an accepted sheet and any entry calls, refused ones included.
use Rattle.std.specs.Prelude.{ℕ, ◌≡◌, List, Float, Some}
use Rattle.coordinates.specs.declared.axis.Axis.{Axis}
use Rattle.sizing.specs.Words.{sizing_of}
use Rattle.sizing.specs.declared.Sizing.TheVariants.{Length}
use Rattle.template_rules.specs.Template.{Component}
use Rattle.template_rules.specs.Space.{whole32}
use Rattle.template_rules.specs.Css.{Repetitions}
use Rattle.axis_tables.specs.View.{AxisLine, components_of}
use Rattle.panel_tables.specs.Axes.{grid_in}
use Rattle.sheet_rules.specs.Sheet.{strategy_of, counted}
use Rattle.sheet_rules.specs.Valid.{ValidTemplate}
use Rattle.sheet_rules.specs.Panels.{Tables}
use Rattle.panel_rules.specs.Calls.{words_in}
use Rattle.panel_rules.specs.Runs.{Held, names_of, Call, run_of, size_of}
use Rattle.panel_rules.specs.Added.{sheet_axis}
use Rattle.least_resize.specs.declared.ResizeAnswer.{ResizeAnswer}
use Rattle.least_resize.specs.Search.{repetitions_at}
use Rattle.least_resize.specs.Answer.{refused_resize}
use Rattle.least_resize.specs.Asked.{Asked, ResizeAnswered}
use Rattle.panel_resize.specs.Resize.{axis_resize}

-- the call on what is held
abbrev pub resize_of : Held → Axis → ResizeAnswer
resize_of h a = axis_resize (grid_in h.panel.grid a) (words_in (names_of h.tables) a)

-- an axis of the sheet: its `axis` line, and what counts as its template
abbrev pub line_of : List ℕ → Axis → AxisLine
line_of s a = (sheet_axis s a).line

abbrev pub counted_of : List ℕ → Axis → List Component
counted_of s a = components_of (counted (sheet_axis s a))

-- the axis can be asked
abbrev pub AskedIn : List ℕ → Axis → ℕ → Float → Type 0
AskedIn s a size between = Asked (line_of s a).definite (line_of s a).inner (sizing_of (line_of s a).gap) (counted_of s a) size between

-- its count at a size
abbrev pub count_at : List ℕ → Axis → Float → ℕ → ℕ
count_at s a between size = repetitions_at (strategy_of (line_of s a)) between (counted_of s a) size

pub record ResizeTheorem (s : List ℕ) (t : Tables) (calls : List Call) (a : Axis) : Type 0 where
  -- the least resize, or refused by 3 exactly where the axis can't be asked
  pub answered : ResizeAnswered (line_of s a).definite (line_of s a).inner (strategy_of (line_of s a)) (sizing_of (line_of s a).gap) (counted_of s a) (resize_of (run_of s t calls) a)
  -- "an axis whose template counts as none is refused by 3"
  pub uncounted : (ValidTemplate (sheet_axis s a).template → ⊥) → resize_of (run_of s t calls) a ≡ refused_resize
  -- the count now is the one that reading the sheet stored
  pub now : (size : ℕ) (between : Float) → AskedIn s a size between → count_at s a between size ≡ (size_of (run_of s t calls) a).repetitions
  -- the count at every size is CSS's
  pub css : (size : ℕ) (between : Float) → AskedIn s a size between → (tried : ℕ)
      → Repetitions (Some (whole32 tried)) (strategy_of (line_of s a)) (Length between) (counted_of s a) (count_at s a between tried)
