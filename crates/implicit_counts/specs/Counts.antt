-- The implicit tracks of an axis by argument (layer 5; SHEET.md, Calls), whatever the grid holds: "negative and positive implicit counts, 0 to 10,000
-- each", as an `extra` line has them.
use Rattle.std.specs.Prelude.{ℕ, cond, ◌||◌, ltb, Result, Ok, Err}
use Rattle.coordinates.specs.declared.axis.Axis.{Axis}
use Rattle.coordinates.specs.declared.refusal.Fault.{Fault}
use Rattle.coordinates.specs.declared.refusal.Fault.TheVariants.{Count}
use Rattle.axis_tables.specs.declared.AxisGrid.{AxisGrid}
use Rattle.panel_tables.specs.declared.Grid.{Grid}
use Rattle.panel_tables.specs.Axes.{grid_in, with_grid}

-- an axis with these counts; its spare sizes and all else stay
abbrev pub with_counts : AxisGrid → ℕ → ℕ → AxisGrid
with_counts g negative positive =
    record {
      space = g.space;
      template = g.template;
      implicit = record { negative = negative; positive = positive; spares = g.implicit.spares };
      entries = g.entries;
      size = g.size;
    }

unfoldable pub with_implicit : Grid → Axis → ℕ → ℕ → Result Grid Fault
with_implicit g a negative positive =
    cond (ltb 10000 negative || ltb 10000 positive) (Err Count) (Ok (with_grid g a (with_counts (grid_in g a) negative positive)))
