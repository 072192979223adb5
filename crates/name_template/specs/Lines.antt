-- Where the written entries lie, on a template within document 01's "Panel ranges".
use Rattle.std.specs.Prelude.{ℕ, ◌+◌, ◌≤◌, ◌<◌, List, [], ◌∷◌}
use Rattle.template_rules.specs.Template.{component_of}
use Rattle.name_entries.specs.Places.{name_place}
use Rattle.name_entries.specs.declared.NameEntry.{NameEntry}

-- every entry is on a line from 1 to `last`, its bytes lie below `used`, and its offset and length fit a word
abbrev pub Placed : ℕ → ℕ → List NameEntry → Type 0
Placed last used [] = Unit {0}
Placed last used (e ∷ l) =
    (1 ≤ e.line) × (e.line ≤ last) × (e.offset + e.length ≤ used) × (e.offset < 65536) × (e.length < 256) × Placed last used l

-- the bytes of every record lie below `used`
abbrev pub Below : ℕ → List ℕ → Type 0
Below used [] = Unit {0}
Below used (w ∷ l) = ((name_place w).offset + (name_place w).length ≤ used) × Below used l

-- at most 32 tracks in each component
abbrev pub FewTracks : List ℕ → Type 0
FewTracks [] = Unit {0}
FewTracks (w ∷ l) = ((component_of w).length ≤ 32) × FewTracks l
