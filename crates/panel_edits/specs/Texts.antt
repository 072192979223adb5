-- What the text of an edit says, as the code tells it.
use Rattle.std.specs.Prelude.{ℕ, List, [], Bool, cond, ◌||◌, get_or, Option, Some, None, Result, Ok, Err}
use Rattle.text.specs.Split.{split, same}
use Rattle.text.specs.declared.NumberFault.{NumberFault}
use Rattle.text.specs.declared.NumberFault.TheVariants.{Unread, Outside}
use Rattle.sheet_forms.specs.Words.{kind_words}
use Rattle.sheet_rules.specs.Contents.{Line as Fields}
use Rattle.panel_rules.specs.Runs.{Call}
use Rattle.edit_rules.specs.Edits.{Edit, line, enter, unread, is_enter, call_in}
use Rattle.panel_edits.specs.declared.texts.Entry.{Entry}
use Rattle.panel_edits.specs.declared.texts.Edit.{Edit as EditSaid}
use Rattle.panel_edits.specs.declared.texts.Edit.TheVariants.{Line, Enter}

abbrev pub call_said : Entry → Call
call_said e = record { axis = e.axis; line = e.line; name = e.name.now }

abbrev pub entry_said : Option Entry → Option Call
entry_said None = None
entry_said (Some e) = Some (call_said e)

abbrev pub edit_said : List ℕ → Option EditSaid → Edit
edit_said text None = unread
edit_said text (Some Line) = line (split 9 text)
edit_said text (Some (Enter e)) = enter (call_said e)

-- ---- its parts

-- `area`, `track`, `place`
abbrev pub is_line_word : List ℕ → Bool
is_line_word f = same f (get_or kind_words 1 []) || (same f (get_or kind_words 3 []) || same f (get_or kind_words 9 []))

-- the line of an entry, by the number that was read: none where there is no whole one
abbrev pub line_read : Result ℕ NumberFault → Option ℕ
line_read (Ok n) = Some n
line_read (Err Outside) = Some 0
line_read (Err Unread) = None

-- an entry, where the fields write one
abbrev pub entry_written : Fields → Option Call
entry_written fs = cond (is_enter fs) (Some (call_in fs)) None
