-- What texts of edits do to what is held before what comes after the last line of a sheet.
use Rattle.std.specs.Prelude.{ℕ, List, false}
use Rattle.panel_tables.specs.Written.{PanelHeld}
use Rattle.sheet_rules.specs.Answers.{SheetAnswer}
use Rattle.sheet_rules.specs.Contents.{Line}
use Rattle.sheet_faults.specs.Lines.{line_in, line_shared}
use Rattle.sheet.specs.Runs.{noted_at}
use Rattle.sheet.specs.Steps.{refused_answer, judged_by}
use Rattle.edit_rules.specs.Edits.{Edit, line, enter, unread, edit_of}
use Rattle.panel_edits.specs.Steps.{TextStep}

-- the kind order put back to the place of the areas
abbrev pub reopened_held : PanelHeld → PanelHeld
reopened_held h =
    record {
      panel = h.panel;
      reading = record { stage = 1; lines = h.reading.lines; picture = h.reading.picture; columns = h.reading.columns; rows = h.reading.rows };
      columns = h.columns;
      rows = h.rows;
      column_marks = h.column_marks;
      row_marks = h.row_marks;
      column_bytes = h.column_bytes;
      row_bytes = h.row_bytes;
      areas = h.areas;
      area_bytes = h.area_bytes;
      placements = h.placements;
      placement_bytes = h.placement_bytes;
    }

-- an answer, and what is held then
pub record Applied : Type 0 where
  pub answer : SheetAnswer
  pub held : PanelHeld

abbrev pub applied_as : ℕ → PanelHeld → Applied
applied_as fault h = record { answer = refused_answer fault 0; held = h }

-- after so many areas, by the first area that shares a cell and by the fault beside that: a pair of areas, or a fault, at line 0
abbrev pub read_judgement : ℕ → ℕ → ℕ → SheetAnswer
read_judgement areas shared fault = judged_by false (noted_at shared areas 0) fault 0

-- a line as its fields
unfoldable pub line_applied : PanelHeld → Line → Applied
line_applied h fs =
    record {
      answer = read_judgement h.panel.grid.areas (line_shared (reopened_held h) fs) (line_in (reopened_held h) fs).fault;
      held = (line_in (reopened_held h) fs).held;
    }

-- an entry waits
abbrev pub edit_applied : PanelHeld → Edit → Applied
edit_applied h (line fs) = line_applied h fs
edit_applied h (enter c) = applied_as 0 h
edit_applied h unread = applied_as 1 h

unfoldable pub applied : PanelHeld → List ℕ → Applied
applied h text = edit_applied h (edit_of text)

-- by the number of its answer alone
abbrev pub applied_step : TextStep
applied_step h text = record { fault = (applied h text).answer.refusal.number; held = (applied h text).held }
