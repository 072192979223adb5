-- The answer of reading a sheet, and what everything lent holds then (document 01, panel sheet and the table of refusals; document 02,
-- requests 03 and 09; SHEET.md, Calls).
use Rattle.std.specs.Prelude.{ℕ, Bool, cond, ◌||◌, List, eqb, ltb, length}
use Rattle.coordinates.specs.Refusals.{Refusal, no_refusal, refusal_of, overlap, short}
use Rattle.panel_tables.specs.Written.{zero_panel}
use Rattle.sheet_rules.specs.declared.Overlap.{Overlap}
use Rattle.sheet_rules.specs.Answers.{SheetAnswer, DisplayAnswer}
use Rattle.sheet_rules.specs.Sheet.{Outcome, display_of, no_overlap, overlap_of}
use Rattle.sheet_rules.specs.Panels.{Tables, sized_panel, tables_of}

pub record SheetRead : Type 0 where
  pub answer : SheetAnswer
  pub tables : Tables

-- "a line-name store below 32,768 bytes"
abbrev pub short_stores : Tables → Bool
short_stores t = ltb (length t.column_store) 32768 || ltb (length t.row_store) 32768

-- a refusal, all other answer fields zero, and everything lent as it was
abbrev pub refused_sheet : Refusal → Tables → SheetRead
refused_sheet r t = record { answer = record { refusal = r; earlier = 0; later = 0; panel = zero_panel }; tables = t }

-- where overlap is no fault: the outcome's refusal, or the panel with a pair of areas. "10 after all of these. It gives line 0"
unfoldable pub read_by : Overlap → Outcome → Tables → SheetRead
read_by p o t =
    cond (eqb o.fault 0)
    (cond (short_stores t) (refused_sheet (refusal_of short) t)
    (record { answer = record { refusal = no_refusal; earlier = p.earlier; later = p.later; panel = sized_panel o.view }; tables = tables_of o.view t }))
    (refused_sheet (record { number = o.fault; line = o.line }) t)

-- ---- the sheet call

-- "beside number and place, that pair alone is not zero"
abbrev pub refused_overlap : Overlap → Tables → SheetRead
refused_overlap p t =
    record { answer = record { refusal = record { number = overlap; line = p.line }; earlier = p.earlier; later = p.later; panel = zero_panel }; tables = t }

-- two areas with a common cell are refused, else no pair is answered
unfoldable pub strict_by : Overlap → Outcome → Tables → SheetRead
strict_by p o t = cond (eqb p.later 0) (read_by no_overlap o t) (refused_overlap p t)

unfoldable pub read_sheet : List ℕ → Tables → SheetRead
read_sheet s t = strict_by (overlap_of s) (display_of s) t

-- ---- the display call, which "answers under the former rule and returns no state to edit"

pub record DisplayRead : Type 0 where
  pub answer : DisplayAnswer
  pub tables : Tables

-- of a panel what answers are read from
abbrev pub displayed : SheetRead → DisplayRead
displayed r =
    record {
      answer = record { refusal = r.answer.refusal; earlier = r.answer.earlier; later = r.answer.later; grid = r.answer.panel.grid };
      tables = r.tables;
    }

-- "where it accepts, answers this pair too, or zeros where no areas share a cell"
unfoldable pub read_display : List ℕ → Tables → DisplayRead
read_display s t = displayed (read_by (overlap_of s) (display_of s) t)
