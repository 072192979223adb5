-- Where the names of the lines of an axis lie: the entries of its table that show them.
use Rattle.std.specs.Prelude.{ℕ, ◌+◌, cond, ◌&&◌, List, [], ◌∷◌, ◌++◌, leb}
use Rattle.name_entries.specs.declared.NameEntry.{NameEntry}
use Rattle.name_entries.specs.Entries.{entry_of, named_entry, entries_of}
use Rattle.name_entries.specs.LineNames.{shows}

-- an entry of no name
abbrev pub no_entry : NameEntry
no_entry = record { line = 0; offset = 0; length = 0 }

-- the entries that show a name on a line, of a table's words after some others
unfoldable pub entries_after : ℕ → List ℕ → List ℕ → List ℕ → List NameEntry
entries_after line store before [] = []
entries_after line store before (w ∷ words) =
    cond (shows line (entries_of before store) (named_entry store (entry_of w)))
    (entry_of w ∷ entries_after line store (before ++ (w ∷ [])) words)
    (entries_after line store (before ++ (w ∷ [])) words)

-- the entries that show the names of a line
abbrev pub line_entries_of : List ℕ → List ℕ → ℕ → List NameEntry
line_entries_of words store line = entries_after line store [] words

-- those of an explicit line; other lines hold none
unfoldable pub explicit_line_entries : ℕ → List ℕ → List ℕ → ℕ → List NameEntry
explicit_line_entries explicit words store line = cond (leb 1 line && leb line (explicit + 1)) (line_entries_of words store line) []
