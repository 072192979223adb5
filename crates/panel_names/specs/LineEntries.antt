-- Where the names of a panel's lines lie: the entries that show them.
use Rattle.std.specs.Prelude.{ℕ, cond, get_or, Option, None}
use Rattle.std.specs.List.{slice_get}
use Rattle.coordinates.specs.declared.axis.Axis.{Axis}
use Rattle.name_entries.specs.declared.NameEntry.{NameEntry}
use Rattle.name_entries.specs.LineEntries.{no_entry, explicit_line_entries}
use Rattle.panel_tables.specs.declared.Grid.{Grid}
use Rattle.panel_tables.specs.Axes.{grid_in}
use Rattle.panel_rules.specs.Calls.{NameTables, words_in, store_in, short_names, entry_words_in}

-- the entry of a name of a line; one of no name where that line and place hold none, or a store is short
unfoldable pub line_entry_in : Grid → NameTables → Axis → ℕ → ℕ → NameEntry
line_entry_in g t a line place =
    cond (short_names t) no_entry
    (get_or (explicit_line_entries (grid_in g a).size.explicit (entry_words_in (grid_in g a) (words_in t a)) (store_in t a) line) place no_entry)

-- the same, or none
unfoldable pub shown_entry_in : Grid → NameTables → Axis → ℕ → ℕ → Option NameEntry
shown_entry_in g t a line place =
    cond (short_names t) None
    (slice_get (explicit_line_entries (grid_in g a).size.explicit (entry_words_in (grid_in g a) (words_in t a)) (store_in t a) line) place)
