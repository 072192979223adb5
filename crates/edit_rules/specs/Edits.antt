-- Edits (document 02, request 14): "the sheet's `area`, `track` or `place` line, or `enter`, axis, line, name".
use Rattle.std.specs.Prelude.{ℕ, List, [], ◌∷◌, Bool, true, false, cond, ◌&&◌, ◌||◌, eqb, length, Result, Ok, Err}
use Rattle.coordinates.specs.declared.axis.Axis.TheVariants.{Column, Row}
use Rattle.text.specs.declared.NumberFault.{NumberFault}
use Rattle.text.specs.Split.{split, before, same}
use Rattle.text.specs.Whole.{Written, none, whole, whole_of, count_in}
use Rattle.sheet_forms.specs.Words.{at}
use Rattle.sheet_forms.specs.Forms.{area, track, place}
use Rattle.sheet_rules.specs.Contents.{Line, is_of, is_on, axis_in}
use Rattle.panel_rules.specs.Runs.{Call}

-- a sheet's line as its fields, a direct entry, or a text that is neither
pub data Edit : Type 0 where
  line : Line → Edit
  enter : Call → Edit
  unread : Edit

-- `enter`
abbrev pub enter_word : List ℕ
enter_word = 101 ∷ 110 ∷ 116 ∷ 101 ∷ 114 ∷ []

-- "whole numbers are decimal digits, `-` before a negative one" (document 01, panel sheet)
abbrev pub is_written : Written → Bool
is_written none = false
is_written (whole z) = true

-- four fields, an axis `c` or `r`, a whole number
abbrev pub is_enter : Line → Bool
is_enter fs = eqb (length fs) 4 && ((is_on Column fs || is_on Row fs) && is_written (whole_of (at fs 2)))

-- a number outside 1 to 20,000 is no line of an entry, as 0 is, which the entry call refuses
abbrev pub entry_line : Result ℕ NumberFault → ℕ
entry_line (Ok n) = n
entry_line (Err fault) = 0

-- the call that they write
abbrev pub call_in : Line → Call
call_in fs = record { axis = axis_in (at fs 1); line = entry_line (count_in 1 20000 (whole_of (at fs 2))); name = at fs 3 }

-- the kinds of lines that are edits
abbrev pub is_edit : Line → Bool
is_edit fs = is_of area fs || (is_of track fs || is_of place fs)

unfoldable pub edit_in : Line → Edit
edit_in fs = cond (same (at fs 0) enter_word) (cond (is_enter fs) (enter (call_in fs)) unread) (cond (is_edit fs) (line fs) unread)

-- "a tabbed line": fields parted by tabs; a text in which a line ends is none
unfoldable pub edit_of : List ℕ → Edit
edit_of text = cond (eqb (before 10 text) (length text)) (edit_in (split 9 text)) unread
