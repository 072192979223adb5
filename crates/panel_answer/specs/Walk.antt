-- The lines of an answer one after the other.
use Rattle.std.specs.Prelude.{ℕ, zero, suc, ◌+◌, Bool, true, false, cond, List, [], ◌∷◌, ltb, Result, Ok, Err}
use Rattle.coordinates.specs.declared.axis.Axis.{Axis}
use Rattle.coordinates.specs.declared.axis.Axis.TheVariants.{Column, Row}
use Rattle.track_rules.specs.Records.{records_in}
use Rattle.name_entries.specs.LineNames.{of_axis}
use Rattle.track_rules.specs.declared.TrackWalk.{TrackWalk}
use Rattle.panel_tables.specs.declared.Grid.{Grid}
use Rattle.panel_tables.specs.Axes.{grid_in}
use Rattle.sheet_rules.specs.declared.LineFault.{LineFault}
use Rattle.sheet_rules.specs.declared.SheetFault.TheVariants.{Line}
use Rattle.sheet_rules.specs.Answers.{refused_with}
use Rattle.panel_rules.specs.Calls.{words_in, axis_tracks}
use Rattle.panel_rules.specs.Runs.{names_of, marks_of}
use Rattle.panel_calls.specs.Carried.{carried_to, carried_record, carried_on}
use Rattle.panel_text.specs.Lines.{record_line, refused_line}
use Rattle.panel_answer.specs.Listed.{AnswerLine, Refused, Size, Record, Place, Cell, End}
use Rattle.panel_answer.specs.Answer.{GridHeld, size_line_of, place_line_of, cell_line_of}

-- whether no line is left
abbrev pub is_end : AnswerLine → Bool
is_end (Refused r) = false
is_end (Size a) = false
is_end (Record a i s) = false
is_end (Place i) = false
is_end (Cell k) = false
is_end End = true

-- the first line of the answer to an accepted sheet: "the program prints only this refusal" where one of its cells is refused
abbrev pub first_line : Result ℕ LineFault → AnswerLine
first_line (Ok count) = Size Column
first_line (Err fault) = Refused (refused_with (Line fault)).refusal

-- the text of a line
abbrev pub line_text : GridHeld → AnswerLine → List ℕ
line_text h (Refused r) = refused_line r
line_text h (Size a) = size_line_of h a
line_text h (Record a i s) = record_line i (carried_record (grid_in h.grid a) (words_in (names_of h.tables) a) (marks_of h.tables a) s i)
line_text h (Place i) = place_line_of h i
line_text h (Cell k) = cell_line_of h k
line_text h End = []

-- cell k, or the end
abbrev pub cell_from : Grid → ℕ → AnswerLine
cell_from g k = cond (ltb k g.cells) (Cell k) End

-- placement i, or the cells
abbrev pub place_from : Grid → ℕ → AnswerLine
place_from g i = cond (ltb i g.placements) (Place i) (cell_from g 0)

-- after the last record of an axis
abbrev pub after_axis : Grid → Axis → AnswerLine
after_axis g Column = Size Row
after_axis g Row = place_from g 0

-- record i + 1 of an axis, or what comes after the axis
abbrev pub record_from : Grid → List ℕ → Axis → ℕ → TrackWalk → AnswerLine
record_from g words a i s =
    cond (ltb (i + 1) (records_in (axis_tracks (grid_in g a)))) (Record a (i + 1) (carried_on (grid_in g a) words s i)) (after_axis g a)

-- the line after a line
abbrev pub next_line : Grid → List ℕ → List ℕ → List ℕ → List ℕ → AnswerLine → AnswerLine
next_line g columns rows column_marks row_marks (Refused r) = End
next_line g columns rows column_marks row_marks (Size a) = Record a 0 (carried_to (grid_in g a) (of_axis a columns rows) (of_axis a column_marks row_marks) 0)
next_line g columns rows column_marks row_marks (Record a i s) = record_from g (of_axis a columns rows) a i s
next_line g columns rows column_marks row_marks (Place i) = place_from g (i + 1)
next_line g columns rows column_marks row_marks (Cell k) = cell_from g (k + 1)
next_line g columns rows column_marks row_marks End = End

abbrev pub line_after : GridHeld → AnswerLine → AnswerLine
line_after h at = next_line h.grid h.tables.columns h.tables.rows h.tables.column_marks h.tables.row_marks at

-- the texts from a line on, at most so many
abbrev pub following : GridHeld → ℕ → AnswerLine → List (List ℕ)
following h zero at = []
following h (suc n) (Refused r) = line_text h (Refused r) ∷ following h n End
following h (suc n) (Size a) = line_text h (Size a) ∷ following h n (line_after h (Size a))
following h (suc n) (Record a i s) = line_text h (Record a i s) ∷ following h n (line_after h (Record a i s))
following h (suc n) (Place i) = line_text h (Place i) ∷ following h n (line_after h (Place i))
following h (suc n) (Cell k) = line_text h (Cell k) ∷ following h n (line_after h (Cell k))
following h (suc n) End = []
