-- The names of an axis as the index of a run keeps them (document 01, layer 4): a name's lines are those of its group's entries and of the drawn areas.
use Rattle.std.specs.Prelude.{Bool, cond, List, ℕ, leb, Option}
use Rattle.name_rules.specs.Css.{Bytes, Area}
use Rattle.name_entries.specs.Entries.{entries_of}
use Rattle.name_lines.specs.Areas.{areas_of, bears, sought_in}
use Rattle.name_lines.specs.declared.GridAreaEnd.{GridAreaEnd}
use Rattle.name_lines.specs.declared.JoinedName.{JoinedName}
use Rattle.name_groups.specs.Keys.{joined_key, key_of}
use Rattle.name_groups.specs.Groups.{group_at, group_part}
use Rattle.name_resolver.specs.Types.{WrittenLine}
use Rattle.name_resolver.specs.Placements.{Resolution}
use Rattle.name_resolver.specs.Placements.{refused_resolution}
use Rattle.name_resolver.specs.Questions.{answered_line}
use Rattle.axis_tables.specs.Runs.{part_of}
use Rattle.panel_tables.specs.Regions.{area_words_in, area_bytes_in}
use Rattle.panel_resolving.specs.declared.Around.{Around}
use Rattle.panel_resolving.specs.declared.Beside.{Beside}

-- the entries of a name's group
abbrev pub part_of_name : Around → List ℕ → Bytes → List ℕ
part_of_name x index nm = group_part index (group_at x.grouping index (key_of x.grouping nm))

-- the drawn areas as the axis sees them
abbrev pub areas_around : Around → List ℕ → List ℕ → List Area
areas_around x areas areabytes = areas_of x.axis (part_of areas 0 x.areas) (part_of areas 64 x.areas) areabytes

-- whether a line bears a name
unfoldable pub bears_by : Around → List ℕ → List ℕ → List ℕ → List ℕ → Bytes → ℕ → Bool
bears_by x index store areas areabytes nm number = bears (entries_of (part_of_name x index nm) store) (areas_around x areas areabytes) nm number

-- the lines that a search looks at: those of the name that is the stem followed by the suffix of the edge
unfoldable pub sought_by : Around → List ℕ → List ℕ → List ℕ → List ℕ → Bytes → Option GridAreaEnd → ℕ → Bool
sought_by x index store areas areabytes stem edge =
    sought_in x.axis (group_part index (group_at x.grouping index (joined_key x.grouping stem edge))) store (part_of areas 0 x.areas) (part_of areas 64 x.areas) areabytes stem edge

-- a placement beside these names; an explicit count above 10,000 is refused by 4
unfoldable pub resolution_by : ℕ → (Bytes → ℕ → Bool) → List ℕ → WrittenLine → Resolution
resolution_by explicit names bytes l =
    cond (leb explicit 10000)
    (answered_line names bytes explicit l)
    refused_resolution

-- the same beside an index, a store and the tables of a panel
abbrev pub names_beside : Beside → Bytes → ℕ → Bool
names_beside x = bears_by x.around x.index.now x.store.now (area_words_in x.words.now) (area_bytes_in x.bytes.now)

abbrev pub sought_beside : Beside → JoinedName → ℕ → Bool
sought_beside x n = sought_by x.around x.index.now x.store.now (area_words_in x.words.now) (area_bytes_in x.bytes.now) n.stem.now n.edge
