-- A panel with another inner size after an accepted sheet and any entry calls, refused ones included: the sheet with that inner size, followed by the
-- entries that were accepted.
use Rattle.std.specs.Prelude.{◌≡◌, ◌+◌, ℕ, List, cond, eqb, ltb, length}
use Rattle.coordinates.specs.declared.axis.Axis.{Axis}
use Rattle.coordinates.specs.declared.axis.Axis.TheVariants.{Column, Row}
use Rattle.coordinates.specs.Refusals.{refusal_of, value, crowded}
use Rattle.name_rules.specs.Css.{Entry}
use Rattle.sizing.specs.Ranges.{length_in_range}
use Rattle.axis_tables.specs.View.{AxisView}
use Rattle.panel_tables.specs.View.{PanelView}
use Rattle.panel_tables.specs.Axes.{view_in, with_view}
use Rattle.sheet_rules.specs.Sheet.{axis_fault, sheet_of}
use Rattle.sheet_rules.specs.Panels.{Tables, entry_words}
use Rattle.panel_rules.specs.Runs.{Held, names_of, with_names, Call, run_of}
use Rattle.panel_rules.specs.Views.{held_after}
use Rattle.panel_rules.specs.Added.{sheet_axis, added}
use Rattle.panel_sizes.specs.Runs.{resized}
use Rattle.panel_resized.specs.Resized.{ResizedPanel, resized_panel}

-- the call on what is held, and what is held after it
abbrev pub resize_of : Held → Axis → ℕ → ResizedPanel
resize_of h a inner = resized_panel h.panel (names_of h.tables) a inner

abbrev pub after_resize : Held → Axis → ℕ → Held
after_resize h a inner = record { panel = (resize_of h a inner).answer.panel; tables = with_names h.tables (resize_of h a inner).tables }

-- the view of the sheet, had its `axis` line that inner size
abbrev pub resized_view : PanelView → Axis → ℕ → PanelView
resized_view v a inner = with_view v a (resized (view_in v a) inner)

-- what refuses it: 3 a size outside its range; then what the line after the last would refuse the sheet by, 4 and 8; then 8 for more than 4,096
-- entries with the further ones. The stores of an accepted sheet are long enough
abbrev pub entries_crowd : AxisView → List Entry → ℕ
entries_crowd v es = cond (ltb 4096 (length (entry_words v) + length es)) crowded 0

unfoldable pub resize_fault : AxisView → List Entry → ℕ → ℕ
resize_fault v es inner =
    cond (length_in_range inner)
    (cond (eqb (axis_fault (resized v inner)) 0) (entries_crowd (resized v inner) es) (axis_fault (resized v inner)))
    value

pub record ResizeTheorem (s : List ℕ) (t : Tables) (calls : List Call) (a : Axis) (inner : ℕ) : Type 0 where
  pub refusal : (resize_of (run_of s t calls) a inner).answer.refusal ≡ refusal_of (resize_fault (sheet_axis s a) (added s a calls) inner)
  pub accepted : resize_fault (sheet_axis s a) (added s a calls) inner ≡ 0
      → after_resize (run_of s t calls) a inner ≡ held_after (resized_view (sheet_of s).view a inner) t (added s Column calls) (added s Row calls)
  pub refused : (resize_fault (sheet_axis s a) (added s a calls) inner ≡ 0 → ⊥) → after_resize (run_of s t calls) a inner ≡ run_of s t calls
