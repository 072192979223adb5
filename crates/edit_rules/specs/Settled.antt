-- The panel that edits after a sheet give, and their refusal (document 02, request 14): "the panel that those first edits alone give, settled alike".
use Rattle.std.specs.Prelude.{ℕ, ◌+◌, List, [], ◌∷◌, cond, eqb, length}
use Rattle.coordinates.specs.declared.axis.Axis.{Axis}
use Rattle.name_rules.specs.Css.{Entry}
use Rattle.axis_tables.specs.View.{axis_bytes}
use Rattle.panel_tables.specs.View.{PanelView}
use Rattle.panel_tables.specs.Axes.{view_in}
use Rattle.sheet_rules.specs.Sheet.{end_fault}
use Rattle.sheet_rules.specs.Panels.{Tables, entry_words}
use Rattle.panel_rules.specs.Runs.{Held, Call, after_calls}
use Rattle.panel_rules.specs.Views.{held_after}
use Rattle.panel_rules.specs.Book.{same_axis, table_refusal}
use Rattle.panel_rules.specs.Added.{call_entry}
use Rattle.edit_rules.specs.Edits.{Edit, line, enter, unread}
use Rattle.edit_rules.specs.Replay.{edited_by}

-- ---- the direct entries, which come after the sheet's

unfoldable pub calls_of : List Edit → List Call
calls_of [] = []
calls_of (line fs ∷ edits) = calls_of edits
calls_of (enter c ∷ edits) = c ∷ calls_of edits
calls_of (unread ∷ edits) = calls_of edits

-- those of an axis
unfoldable pub entered_on : Axis → List Call → List Entry
entered_on a [] = []
entered_on a (c ∷ calls) = cond (same_axis a c.axis) (call_entry c ∷ entered_on a calls) (entered_on a calls)

-- a number of each axis, with more on one
abbrev pub more_on : Axis → ℕ → (Axis → ℕ) → Axis → ℕ
more_on a n f b = cond (same_axis b a) (f b + n) (f b)

-- what the table refuses the first refused one by, with so many entries and bytes on each axis: "4,096 name entries", "32,768 bytes"
unfoldable pub calls_fault : (Axis → ℕ) → (Axis → ℕ) → List Call → ℕ
calls_fault entries used [] = 0
calls_fault entries used (c ∷ calls) =
    cond (eqb (table_refusal (entries c.axis) (used c.axis) c.line c.name) 0)
    (calls_fault (more_on c.axis 1 entries) (more_on c.axis (length c.name) used) calls)
    (table_refusal (entries c.axis) (used c.axis) c.line c.name)

-- after a view whose entries are written out
abbrev pub enters_fault : PanelView → List Call → ℕ
enters_fault v calls = calls_fault (λ a. length (entry_words (view_in v a))) (λ a. length (axis_bytes (view_in v a))) calls

-- ---- the end

-- a fault, or where there is none the next
abbrev pub or_else : ℕ → ℕ → ℕ
or_else fault next = cond (eqb fault 0) next fault

abbrev pub view_by : PanelView → List Edit → PanelView
view_by v edits = (edited_by v edits).panel

-- the lines' faults, those after the last line, those of the direct entries; 0 where all edits are accepted
unfoldable pub edits_fault : PanelView → List Edit → ℕ
edits_fault v edits = or_else (edited_by v edits).fault (or_else (end_fault (view_by v edits)) (enters_fault (view_by v edits) (calls_of edits)))

-- what is held then: sizes and names written out, and the direct entries one after the other
unfoldable pub edits_held : PanelView → Tables → List Edit → Held
edits_held v t edits = after_calls (held_after (view_by v edits) t [] []) (calls_of edits)
