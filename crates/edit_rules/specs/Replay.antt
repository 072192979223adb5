-- One line after a sheet, and line after line (document 02, request 14): "each sheet line is settled as if last in the sheet, an area last of the
-- areas, so 7 isn't given for it, nor 1 for length".
use Rattle.std.specs.Prelude.{ℕ, List, [], ◌∷◌, cond, eqb, length}
use Rattle.panel_tables.specs.View.{PanelView, PanelOutcome, refused, accepted}
use Rattle.sheet_rules.specs.declared.Overlap.{Overlap}
use Rattle.sheet_rules.specs.Contents.{Line}
use Rattle.sheet_rules.specs.Lines.{shared_at, line_fault, line_step}
use Rattle.sheet_rules.specs.Sheet.{no_overlap, overlap_at}
use Rattle.edit_rules.specs.Edits.{Edit, line, enter, unread}

-- the kind order put back to its place after an area, where an area, a track and a placement may stand
abbrev pub reopened : PanelView → PanelView
reopened v =
    record {
      columns = v.columns;
      rows = v.rows;
      areas = v.areas;
      picture = v.picture;
      placements = v.placements;
      cells = v.cells;
      stage = 1;
      lines = v.lines;
    }

-- the first of all faults of a line there, overlap among them
abbrev pub edit_fault : PanelView → Line → ℕ
edit_fault v fs = line_fault (reopened v) fs

-- what the line does there; a refused one changes nothing
unfoldable pub edit_step : PanelView → Line → PanelOutcome
edit_step v fs = cond (eqb (edit_fault v fs) 0) (accepted (line_step (reopened v) fs).panel) (refused (edit_fault v fs) v)

-- the pair of a refusal by 12: the earlier area, and the number that the new one would have
unfoldable pub edit_overlap : PanelView → Line → Overlap
edit_overlap v fs = cond (eqb (shared_at (reopened v) fs) 0) no_overlap (overlap_at (shared_at (reopened v) fs) (length v.areas) 0)

-- the lines among edits, in their order, up to the first that is refused; a text that is no edit is 1
unfoldable pub edited_by : PanelView → List Edit → PanelOutcome
edited_by v [] = accepted v
edited_by v (line fs ∷ edits) = cond (eqb (edit_step v fs).fault 0) (edited_by (edit_step v fs).panel edits) (edit_step v fs)
edited_by v (enter c ∷ edits) = edited_by v edits
edited_by v (unread ∷ edits) = refused 1 v
