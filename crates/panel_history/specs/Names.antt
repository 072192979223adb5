-- An edit by axis, line and name: the line `enter`, axis, line, name (document 02, request 14).
use Rattle.std.specs.Prelude.{ℕ, List, [], ◌∷◌, ◌++◌, cond}
use Rattle.coordinates.specs.declared.axis.Axis.{Axis}
use Rattle.coordinates.specs.Refusals.{name}
use Rattle.name_entries.specs.Names.{is_name}
use Rattle.text.specs.Decimal.{decimal}
use Rattle.sheet_rules.specs.Contents.{letter_of}
use Rattle.edit_rules.specs.Edits.{enter_word}
use Rattle.panel_history.specs.History.{Handed, Answered, refused, edited}

-- its first two fields
abbrev pub entry_head : Axis → List ℕ
entry_head a = enter_word ++ (9 ∷ (letter_of a ++ (9 ∷ [])))

unfoldable pub enter_text : Axis → ℕ → List ℕ → List ℕ
enter_text a line nm = entry_head a ++ (decimal line ++ (9 ∷ nm))

-- bytes that are no name are no field of a line: 2
unfoldable pub edited_name : List ℕ → Axis → ℕ → List ℕ → Handed → Answered
edited_name sheet a line nm h = cond (is_name nm) (edited sheet (enter_text a line nm) h) (refused name h)
