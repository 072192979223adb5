-- Name entries as words: the line, the offset of the name in the store times 2^16, and its length times 2^32.
use Rattle.std.specs.Prelude.{ℕ, ◌+◌, ◌-◌, ◌*◌, ◌/◌, ◌%◌, min, List, map, take, drop}
use Rattle.name_rules.specs.Css.{Bytes, Entry}
use Rattle.name_entries.specs.declared.NameEntry.{NameEntry}

unfoldable pub entry_of : ℕ → NameEntry
entry_of w = record { line = w % 65536; offset = w / 65536 % 65536; length = w / 4294967296 % 256 }

-- the bytes of a name, as far as the store reaches
abbrev pub name_in : List ℕ → NameEntry → Bytes
name_in store e = take e.length (drop e.offset store)

-- an entry whose name is cut where a store of so many bytes ends
abbrev pub cut_at : ℕ → NameEntry → NameEntry
cut_at bytes e = record { line = e.line; offset = min e.offset bytes; length = min e.length (bytes - e.offset) }

-- an entry with its name
abbrev pub named_entry : List ℕ → NameEntry → Entry
named_entry store e = record { line = e.line; name = name_in store e }

-- the entries that a table of words and a store hold, in entry order
unfoldable pub entries_of : List ℕ → List ℕ → List Entry
unfolding entry_of
entries_of words store = map (λ (w : ℕ). named_entry store (entry_of w)) words

-- the word of an entry
abbrev pub word_of : ℕ → ℕ → ℕ → ℕ
word_of line offset length = line + offset * 65536 + length * 4294967296
