-- The lines of a sheet one after the other, and what comes after the last, on what a panel holds.
use Rattle.std.specs.Prelude.{ℕ, ◌+◌, min, List, [], ◌∷◌, Bool, cond, eqb, length}
use Rattle.text.specs.Split.{split}
use Rattle.sheet_forms.specs.Faults.{first_of}
use Rattle.coordinates.specs.declared.axis.Axis.TheVariants.{Column, Row}
use Rattle.panel_tables.specs.declared.Panel.{Panel}
use Rattle.panel_tables.specs.Readings.{Reading}
use Rattle.panel_tables.specs.Axes.{state_in}
use Rattle.panel_tables.specs.Written.{PanelHeld, PanelStepped}
use Rattle.sheet_rules.specs.declared.Overlap.{Overlap}
use Rattle.sheet_rules.specs.Sheet.{no_overlap, overlap_at}
use Rattle.sheet_rules.specs.Panels.{with_axes}
use Rattle.sheet_rules.specs.Contents.{Line, lines_from}
use Rattle.picture_end.specs.Steps.{broken_row}
use Rattle.sheet_faults.specs.Lines.{line_in, line_shared}
use Rattle.sheet_end.specs.End.{EndedAxis, end_in}

-- a refusal's number, 0 where there is none, its line, and what is held
pub record HeldRun : Type 0 where
  pub fault : ℕ
  pub line : ℕ
  pub held : PanelHeld

-- where reading stops
abbrev pub stopped : ℕ → ℕ → PanelHeld → HeldRun
stopped f n h = record { fault = f; line = n; held = h }

-- from line n on, until a line is refused; where none is, the line is the one after the last
unfoldable pub held_run : ℕ → List (List ℕ) → PanelHeld → HeldRun
held_run n [] h = stopped 0 n h
held_run n (l ∷ []) h = cond (eqb (length l) 0) (stopped 0 n h) (stopped 1 n h)
held_run n (l ∷ m ∷ ls) h =
    let a : PanelStepped = line_in h (split 9 l) in
    cond (eqb a.fault 0) (held_run (n + 1) (m ∷ ls) a.held) (stopped a.fault n a.held)

-- ---- the first overlap on the way

-- at line n, after so many areas
abbrev pub noted_at : ℕ → ℕ → ℕ → Overlap
noted_at shared areas n = cond (eqb shared 0) no_overlap (overlap_at shared (min areas 64) n)

-- one that was noted stays
abbrev pub or_else : Overlap → Overlap → Overlap
or_else o p = cond (eqb o.later 0) p o

-- from line n on, until a line is refused
unfoldable pub held_overlap : ℕ → List (List ℕ) → PanelHeld → Overlap
held_overlap n [] h = no_overlap
held_overlap n (l ∷ []) h = no_overlap
held_overlap n (l ∷ m ∷ ls) h =
    let a : PanelStepped = line_in h (split 9 l) in
    or_else (noted_at (line_shared h (split 9 l)) h.panel.grid.areas n) (cond (eqb a.fault 0) (held_overlap (n + 1) (m ∷ ls) a.held) no_overlap)

-- ---- the last row of a broken picture

-- the number of a line that is it, else 0
abbrev pub broken_note : Bool → Line → List Line → ℕ → ℕ
broken_note broken fs rest n = cond (broken_row broken fs rest) n 0

-- one that was noted stays
abbrev pub or_line : ℕ → ℕ → ℕ
or_line noted here = cond (eqb noted 0) here noted

-- from line n on, until a line is refused
unfoldable pub held_broken : ℕ → List (List ℕ) → PanelHeld → ℕ
held_broken n [] h = 0
held_broken n (l ∷ []) h = 0
held_broken n (l ∷ m ∷ ls) h =
    let a : PanelStepped = line_in h (split 9 l) in
    cond (eqb a.fault 0) (or_line (broken_note a.held.reading.picture.broken (split 9 l) (lines_from (m ∷ ls)) n) (held_broken (n + 1) (m ∷ ls) a.held)) 0

-- ---- after the last line

-- a refusal's number, the panel, and the words of the two axes
pub record EndedPanel : Type 0 where
  pub fault : ℕ
  pub panel : Panel
  pub columns : List ℕ
  pub rows : List ℕ

-- of the faults of the two axes the one that comes first
abbrev pub ended_by : Panel → EndedAxis → EndedAxis → EndedPanel
ended_by p columns rows =
    record {
      fault = first_of columns.answer.fault rows.answer.fault;
      panel = with_axes p columns.answer.state rows.answer.state;
      columns = columns.words;
      rows = rows.words;
    }

-- both axes end
unfoldable pub ended_panel : Panel → Reading → List ℕ → List ℕ → EndedPanel
ended_panel p r columns rows = ended_by p (end_in (state_in p Column) r.columns columns) (end_in (state_in p Row) r.rows rows)

-- ---- the sheet

-- what is held, with the panel and the words that the end leaves
abbrev pub at_end : PanelHeld → EndedPanel → PanelHeld
at_end h e =
    record {
      panel = e.panel;
      reading = h.reading;
      columns = e.columns;
      rows = e.rows;
      column_marks = h.column_marks;
      row_marks = h.row_marks;
      column_bytes = h.column_bytes;
      row_bytes = h.row_bytes;
      areas = h.areas;
      area_bytes = h.area_bytes;
      placements = h.placements;
      placement_bytes = h.placement_bytes;
    }

-- the end, of which n is the line
abbrev pub held_end : ℕ → PanelHeld → HeldRun
held_end n h =
    let e : EndedPanel = ended_panel h.panel h.reading h.columns h.rows in
    stopped e.fault n (at_end h e)

-- a refused line stays the refusal
unfoldable pub held_after : HeldRun → HeldRun
held_after r = cond (eqb r.fault 0) (held_end r.line r.held) r

-- lines and end, from the first line on
unfoldable pub held_sheet : List ℕ → PanelHeld → HeldRun
held_sheet s h = held_after (held_run 1 (split 10 s) h)

-- a broken picture is refused by 14 at its last row
abbrev pub broken_fault : ℕ → ℕ → ℕ
broken_fault line fault = cond (eqb line 0) fault 14

abbrev pub broken_place : ℕ → ℕ → ℕ
broken_place line n = cond (eqb line 0) n line

abbrev pub with_broken : ℕ → HeldRun → HeldRun
with_broken line r = stopped (broken_fault line r.fault) (broken_place line r.line) r.held

unfoldable pub held_judged : List ℕ → PanelHeld → HeldRun
held_judged s h = with_broken (held_broken 1 (split 10 s) h) (held_sheet s h)
