-- Every edit keeps the panel within its tables. Assumes nothing.
use mathlib.Core.Path.{sym}
use mathlib.Core.List.{List, [], ◌∷◌}
use mathlib.Core.Bool.{Bool, true, false, cond, false≢true}
use lib.Dec.{eqb}
use Rattle.panel_tables.specs.View.{PanelView, refused, accepted}
use Rattle.panel_tables.proofs.Fits.{FitsPanel}
use Rattle.sheet_rules.specs.Contents.{Line}
use Rattle.sheet_rules.specs.Lines.{line_step}
use Rattle.sheet_rules.proofs.Fits.{FitsSheet, line-fits}
use Rattle.edit_rules.specs.Edits.{Edit, line, enter, unread}
use Rattle.edit_rules.specs.Replay.{reopened, edit_fault, edit_step, edited_by}

-- after an area no row may be drawn
pub reopened-fits : (v : PanelView) → FitsPanel v → FitsSheet (reopened v)
reopened-fits v f =
    record {
      panel = record { columns = f.columns; rows = f.rows; areas = f.areas; drawn = f.drawn; items = f.items; cells = f.cells; placed = f.placed; lines = f.lines };
      pictured = λ h. absurd (false≢true (sym h));
    }

pub edit_fits : (v : PanelView) → FitsPanel v → (fs : Line) → FitsPanel (edit_step v fs).panel
unfolding edit_step
edit_fits v f fs = go (eqb (edit_fault v fs) 0)
  where
    go : (t : Bool) → FitsPanel (cond t (accepted (line_step (reopened v) fs).panel) (refused (edit_fault v fs) v)).panel
    go true = (line-fits (reopened v) (reopened-fits v f) fs).panel
    go false = f

-- one after the other
pub edits_fit : (v : PanelView) → FitsPanel v → (edits : List Edit) → FitsPanel (edited_by v edits).panel
unfolding edited_by
edits_fit v f [] = f
edits_fit v f (line fs ∷ edits) = go (eqb (edit_step v fs).fault 0) (edits_fit (edit_step v fs).panel (edit_fits v f fs) edits)
  where
    go : (t : Bool) → FitsPanel (edited_by (edit_step v fs).panel edits).panel → FitsPanel (cond t (edited_by (edit_step v fs).panel edits) (edit_step v fs)).panel
    go true h = h
    go false h = edit_fits v f fs
edits_fit v f (enter c ∷ edits) = edits_fit v f edits
edits_fit v f (unread ∷ edits) = f
