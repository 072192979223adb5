-- The text of an answer from a line on, and what is promised of a part of it that is written.
use Rattle.std.specs.Prelude.{ℕ, suc, ◌+◌, ◌-◌, ◌≤◌, ◌<◌, ◌≡◌, false, List, ◌++◌, length}
use Rattle.std.proofs.lemmas.List.Edits.{sets}
use Rattle.coordinates.specs.declared.axis.Axis.TheVariants.{Column, Row}
use Rattle.panel_answer.specs.Listed.{AnswerLine, Refused, Size, Record, Place, Cell, End, answered_next}
use Rattle.panel_answer.specs.declared.Filled.{Filled}
use Rattle.panel_answer.specs.Answer.{GridHeld, record_count, text_of}
use Rattle.panel_answer.specs.Walk.{following, is_end}

-- how many lines there are from a line on
abbrev pub lines_from : GridHeld → AnswerLine → ℕ
lines_from h (Refused r) = 1
lines_from h (Size Column) = suc (record_count h Column + suc (record_count h Row + (h.grid.placements + h.grid.cells)))
lines_from h (Size Row) = suc (record_count h Row + (h.grid.placements + h.grid.cells))
lines_from h (Record Column i s) = suc (record_count h Column - (i + 1) + suc (record_count h Row + (h.grid.placements + h.grid.cells)))
lines_from h (Record Row i s) = suc (record_count h Row - (i + 1) + (h.grid.placements + h.grid.cells))
lines_from h (Place i) = suc (h.grid.placements - (i + 1) + h.grid.cells)
lines_from h (Cell k) = suc (h.grid.cells - (k + 1))
lines_from h End = 0

-- their text
unfoldable pub text_from : GridHeld → AnswerLine → List ℕ
text_from h at = text_of (following h (lines_from h at) at)

-- the text from a line up to another was written at the start of bytes
pub record WritesUpTo (before : List ℕ) (h : GridHeld) (at next : AnswerLine) (after : List ℕ) (count : ℕ) : Type 0 where
  pub part : List ℕ
  pub bytes : after ≡ sets before 0 part
  pub counted : count ≡ length part
  pub fits : length part ≤ length before
  -- part after part, and nothing else, makes up the text
  pub whole : part ++ text_from h next ≡ text_from h at

-- and fewer lines are left where one is and any line fits
pub record FillsText (before : List ℕ) (h : GridHeld) (at : AnswerLine) (after : List ℕ) (filled : Filled) : Type 0 where
  pub written : WritesUpTo before h at (answered_next filled.next) after filled.count
  pub fewer : 128 ≤ length before → is_end at ≡ false → lines_from h (answered_next filled.next) < lines_from h at
