-- A line of an answer, where a refusal is any number and any line, and the lines that the calls take and answer as such lines.
use Rattle.std.specs.Prelude.{ℕ, Option, Some, None}
use Rattle.coordinates.specs.declared.axis.Axis.{Axis}
use Rattle.coordinates.specs.Refusals.{Refusal}
use Rattle.track_rules.specs.declared.TrackWalk.{TrackWalk}
use Rattle.panel_answer.specs.declared.LineRefusal.{LineRefusal}
use Rattle.panel_answer.specs.declared.AnswerLine.{AnswerLine as Told}
use Rattle.panel_answer.specs.declared.AnswerLine.TheVariants.{Refused as ToldRefused, Size as ToldSize, Record as ToldRecord, Place as ToldPlace, Cell as ToldCell}

-- a refusal; the size of an axis; a record of it, by its index and what is carried to it; a placement or a cell, by its index; none
pub data AnswerLine : Type 0 where
  Refused : Refusal → AnswerLine
  Size : Axis → AnswerLine
  Record : Axis → ℕ → TrackWalk → AnswerLine
  Place : ℕ → AnswerLine
  Cell : ℕ → AnswerLine
  End : AnswerLine

-- a refusal's number and line
abbrev pub told_refusal : LineRefusal → Refusal
told_refusal r = record { number = r.number; line = r.line }

-- a line that is left
abbrev pub answered_line : Told → AnswerLine
answered_line (ToldRefused r) = Refused (told_refusal r)
answered_line (ToldSize a) = Size a
answered_line (ToldRecord a i s) = Record a i s
answered_line (ToldPlace i) = Place i
answered_line (ToldCell k) = Cell k

-- the line that is next, or the end
abbrev pub answered_next : Option Told → AnswerLine
answered_next None = End
answered_next (Some at) = answered_line at
