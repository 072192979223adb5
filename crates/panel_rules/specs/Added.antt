-- The entries that the table accepts after a sheet: all of a list of calls, and one call alone.
use Rattle.std.specs.Prelude.{ℕ, ◌+◌, cond, ◌&&◌, List, [], ◌∷◌, ◌++◌, eqb, length}
use Rattle.coordinates.specs.declared.axis.Axis.{Axis}
use Rattle.name_rules.specs.Css.{Entry}
use Rattle.axis_tables.specs.View.{AxisView, axis_bytes}
use Rattle.panel_tables.specs.Axes.{view_in}
use Rattle.sheet_rules.specs.Sheet.{size_of, counted, sheet_of}
use Rattle.sheet_rules.specs.Panels.{entry_words}
use Rattle.panel_rules.specs.Runs.{Call}
use Rattle.panel_rules.specs.Views.{bytes_after}
use Rattle.panel_rules.specs.Book.{CssTemplate, same_axis, table_refusal, added_from}

-- the view of an axis of a sheet
abbrev pub sheet_axis : List ℕ → Axis → AxisView
sheet_axis s a = view_in (sheet_of s).view a

-- what layer 3 finds of a template: what counts, and the repetitions
abbrev pub found_in : AxisView → CssTemplate
found_in v = record { template = counted v; repetitions = (size_of v).repetitions }

-- the entries that the table accepts on an axis after a sheet
abbrev pub added : List ℕ → Axis → List Call → List Entry
added s a calls = added_from (length (entry_words (sheet_axis s a))) (length (axis_bytes (sheet_axis s a))) a calls

-- the entry of a call
abbrev pub call_entry : Call → Entry
call_entry c = record { line = c.line; name = c.name }

-- what the table of an axis refuses a call by, with further entries `es`
abbrev pub refusal_after : AxisView → List Entry → Call → ℕ
refusal_after v es c = table_refusal (length (entry_words v) + length es) (length (bytes_after v es)) c.line c.name

-- the further entries of an axis after a call: its entry comes last, where the call is on that axis and the table refuses nothing
abbrev pub entries_with : Axis → AxisView → List Entry → Call → List Entry
entries_with a v es c = cond (same_axis a c.axis && eqb (refusal_after v es c) 0) (es ++ (call_entry c ∷ [])) es
