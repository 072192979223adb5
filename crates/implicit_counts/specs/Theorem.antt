-- Implicit tracks by argument after an accepted sheet and any entry calls, refused ones included: the grid is that of the sheet whose `extra` line
-- says them, and all that is lent is the same, so that every call on tracks answers as after that sheet.
use Rattle.std.specs.Prelude.{◌≡◌, ◌≤◌, ℕ, List, Ok}
use Rattle.coordinates.specs.declared.axis.Axis.{Axis}
use Rattle.coordinates.specs.declared.axis.Axis.TheVariants.{Column, Row}
use Rattle.axis_tables.specs.View.{AxisView}
use Rattle.panel_tables.specs.View.{PanelView}
use Rattle.panel_tables.specs.Axes.{view_in, with_view}
use Rattle.sheet_rules.specs.Sheet.{sheet_of}
use Rattle.sheet_rules.specs.Panels.{Tables}
use Rattle.panel_rules.specs.Runs.{Held, Call, run_of}
use Rattle.panel_rules.specs.Views.{held_after}
use Rattle.panel_rules.specs.Added.{added}
use Rattle.implicit_counts.specs.Counts.{with_implicit}

-- what the sheet says of an axis, had it an `extra` line with these counts
abbrev pub extended : AxisView → ℕ → ℕ → AxisView
extended v negative positive =
    record {
      line = v.line;
      template = v.template;
      unended = v.unended;
      spares = v.spares;
      negative = negative;
      positive = positive;
      marks = v.marks;
      areas = v.areas;
    }

abbrev pub extended_panel : PanelView → Axis → ℕ → ℕ → PanelView
extended_panel v a negative positive = with_view v a (extended (view_in v a) negative positive)

-- what would be held after that sheet and the entries that the table accepts of these calls
abbrev pub held_extended : List ℕ → Tables → List Call → Axis → ℕ → ℕ → Held
held_extended s t calls a negative positive = held_after (extended_panel (sheet_of s).view a negative positive) t (added s Column calls) (added s Row calls)

pub record ImplicitTheorem (s : List ℕ) (t : Tables) (calls : List Call) (a : Axis) (negative positive : ℕ) : Type 0 where
  pub grid : negative ≤ 10000 → positive ≤ 10000
      → with_implicit (run_of s t calls).panel.grid a negative positive ≡ Ok (held_extended s t calls a negative positive).panel.grid
  pub tables : (run_of s t calls).tables ≡ (held_extended s t calls a negative positive).tables
