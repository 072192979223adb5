-- What the lines of a sheet are refused by, before what comes after the last: an overlap with its pair, else a broken picture, else the fault of
-- a line.
use Rattle.std.specs.Prelude.{ℕ, List, false, cond, eqb}
use Rattle.panel_tables.specs.Written.{zero_panel}
use Rattle.sheet_rules.specs.Answers.{SheetAnswer, noted}
use Rattle.sheet_rules.specs.Sheet.{overlap_of}
use Rattle.sheet.specs.declared.LinesRead.{LinesRead}
use Rattle.sheet.specs.Runs.{broken_fault, broken_place}
use Rattle.sheet.specs.Steps.{fault_in, stop_in, line_or_none, judged_by}
use Rattle.edit_rules.specs.Bases.{base_of}

-- of lines that were read
abbrev pub lines_judgement : LinesRead → SheetAnswer
lines_judgement l =
    judged_by false (noted l.overlap)
    (broken_fault (line_or_none l.broken) (fault_in l.end))
    (broken_place (line_or_none l.broken) (cond (eqb (fault_in l.end) 0) 0 (stop_in l.end)))

-- of a sheet
unfoldable pub base_judgement : List ℕ → SheetAnswer
base_judgement s =
    record {
      refusal = record { number = (base_of s).fault; line = (base_of s).line };
      earlier = (overlap_of s).earlier;
      later = (overlap_of s).later;
      panel = zero_panel;
    }
