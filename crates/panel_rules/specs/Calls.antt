-- The calls on a panel: what each answers and leaves, whatever the state, the tables and the stores hold (document 01, layers 3 to 5).
use Rattle.std.specs.Prelude.{ℕ, ◌+◌, min, Bool, cond, List, [], eqb, ltb, length, get_or, set, Result, Ok, Err}
use Rattle.std.proofs.lemmas.List.Edits.{sets}
use Rattle.coordinates.specs.declared.axis.Axis.{Axis}
use Rattle.coordinates.specs.declared.axis.Axis.TheVariants.{Column, Row}
use Rattle.coordinates.specs.declared.refusal.Fault.{Fault}
use Rattle.coordinates.specs.Refusals.{Refusal, no_refusal, refusal_of, number_of}
use Rattle.sizing.specs.Words.{sizing_of}
use Rattle.sizing.specs.declared.MinMax.{MinMax}
use Rattle.template_rules.specs.Template.{Component, template_of}
use Rattle.name_rules.specs.Css.{Bytes, Entry, AxisNames}
use Rattle.name_entries.specs.Entries.{word_of, entries_of}
use Rattle.name_entries.specs.Enter.{entry_refusal}
use Rattle.name_entries.specs.LineNames.{explicit_line_names, of_axis, line_count}
use Rattle.name_lines.specs.Areas.{axis_names}
use Rattle.track_rules.specs.declared.AxisTracks.{AxisTracks}
use Rattle.track_rules.specs.Tracks.{RecordAnswer}
use Rattle.track_rules.specs.Written.{spares_of}
use Rattle.track_rules.specs.Records.{record_answer_of}
use Rattle.axis_tables.specs.declared.AxisGrid.{AxisGrid}
use Rattle.axis_tables.specs.declared.AxisSize.{AxisSize}
use Rattle.axis_tables.specs.declared.AxisState.{AxisState}
use Rattle.axis_tables.specs.Runs.{part_of}
use Rattle.panel_tables.specs.declared.Grid.{Grid}
use Rattle.panel_tables.specs.declared.Panel.{Panel}
use Rattle.panel_tables.specs.Axes.{grid_in, state_in, with_state}
use Rattle.panel_tables.specs.Regions.{axis_words_in, area_words_in, placement_words_in, area_bytes_in, placement_bytes_in}

-- ---- what is lent

-- the words and the line-name stores of both axes
pub record NameTables : Type 0 where
  pub columns : List ℕ
  pub rows : List ℕ
  pub column_store : List ℕ
  pub row_store : List ℕ

-- a table with the bytes of its names: the areas, or the placements
pub record NamedWords : Type 0 where
  pub words : List ℕ
  pub bytes : List ℕ

-- the same, of the words, the bytes and the stores that are lent with a panel
abbrev pub name_tables_in : List ℕ → List ℕ → List ℕ → NameTables
name_tables_in words column_store row_store =
    record {
      columns = axis_words_in Column words;
      rows = axis_words_in Row words;
      column_store = column_store;
      row_store = row_store;
    }

abbrev pub area_table_in : List ℕ → List ℕ → NamedWords
area_table_in words bytes = record { words = area_words_in words; bytes = area_bytes_in bytes }

abbrev pub placement_table_in : List ℕ → List ℕ → NamedWords
placement_table_in words bytes = record { words = placement_words_in words; bytes = placement_bytes_in bytes }

abbrev pub words_in : NameTables → Axis → List ℕ
words_in t a = of_axis a t.columns t.rows

abbrev pub store_in : NameTables → Axis → List ℕ
store_in t a = of_axis a t.column_store t.row_store

-- the bytes of the shorter store
abbrev pub shorter_store : NameTables → ℕ
shorter_store t = min (length t.column_store) (length t.row_store)

-- "a line-name store below 32,768 bytes"
abbrev pub short_names : NameTables → Bool
short_names t = ltb (shorter_store t) 32768

-- ---- what the tables of an axis hold

-- the words of its name entries
abbrev pub entry_words_in : AxisGrid → List ℕ → List ℕ
entry_words_in g words = part_of words 8384 g.entries

-- its entries, in entry order
abbrev pub book_in : Grid → NameTables → Axis → List Entry
book_in g t a = entries_of (entry_words_in (grid_in g a) (words_in t a)) (store_in t a)

-- its template and its spare sizes
abbrev pub template_in : AxisGrid → List ℕ → List Component
template_in g words =
    template_of (part_of words 0 g.template.components) (part_of words 64 g.template.tracks) (part_of words 2112 g.template.tracks)

abbrev pub spares_in : AxisGrid → List ℕ → List MinMax
spares_in g words = spares_of (part_of words 4160 g.implicit.spares) (part_of words 4224 g.implicit.spares)

-- all that names its lines: the explicit count, the entries and the drawn areas
abbrev pub names_in : Grid → NameTables → NamedWords → Axis → AxisNames
names_in g t areas a =
    axis_names (grid_in g a).size.explicit a (entry_words_in (grid_in g a) (words_in t a)) (store_in t a)
    (part_of areas.words 0 g.areas) (part_of areas.words 64 g.areas) areas.bytes

-- ---- `enter_name`: "one call enters an axis, line and name directly"

-- a state with so many entries and used bytes
abbrev pub with_entries : AxisState → ℕ → ℕ → AxisState
with_entries s entries used =
    record {
      grid = record { space = s.grid.space; template = s.grid.template; implicit = s.grid.implicit; entries = entries; size = s.grid.size };
      room = record { template = s.room.template; names = s.room.names; used = used; areas = s.room.areas };
    }

-- with one entry more, of a name of that length
abbrev pub with_entry : AxisState → ℕ → AxisState
with_entry s length = with_entries s (s.grid.entries + 1) (s.room.used + length)

-- the words and the store of an axis with the entry at the next place and its bytes after those used; the other axis's stay
abbrev pub entered_in : NameTables → Axis → AxisState → ℕ → Bytes → NameTables
entered_in t Column s line name =
    record {
      columns = set t.columns (8384 + s.grid.entries) (word_of line s.room.used (length name));
      rows = t.rows;
      column_store = sets t.column_store s.room.used name;
      row_store = t.row_store;
    }
entered_in t Row s line name =
    record {
      columns = t.columns;
      rows = set t.rows (8384 + s.grid.entries) (word_of line s.room.used (length name));
      column_store = t.column_store;
      row_store = sets t.row_store s.room.used name;
    }

-- the answer of an entry call: its refusal, and the panel with the entry, on a refusal as it came
pub record EntryAnswer : Type 0 where
  pub refusal : Refusal
  pub panel : Panel

-- the numbers and values of what a call on that panel answers
abbrev pub answered_entry : Panel → Result Panel Fault → EntryAnswer
answered_entry p (Ok q) = record { refusal = no_refusal; panel = q }
answered_entry p (Err fault) = record { refusal = refusal_of (number_of fault); panel = p }

-- an answer, and what is lent then
pub record EnteredName : Type 0 where
  pub answer : EntryAnswer
  pub tables : NameTables

-- 2 no name, 4 a line outside 1 to 20,000, 8 no room, then 10 where either store is short
unfoldable pub enter_refusal : Panel → NameTables → Axis → ℕ → Bytes → ℕ
enter_refusal p t a line name = entry_refusal (shorter_store t) (state_in p a).grid.entries (state_in p a).room.used line name

-- "on a refusal a state passed in goes back as it came"
unfoldable pub enter_name : Panel → NameTables → Axis → ℕ → Bytes → EnteredName
enter_name p t a line name =
    cond (eqb (enter_refusal p t a line name) 0)
    (record {
      answer = record { refusal = no_refusal; panel = with_state p a (with_entry (state_in p a) (length name)) };
      tables = entered_in t a (state_in p a) line name;
    })
    (record { answer = record { refusal = refusal_of (enter_refusal p t a line name); panel = p }; tables = t })

-- ---- `explicit_size`, `line_count`, `line_name`

unfoldable pub explicit_size : Grid → Axis → AxisSize
explicit_size g a = (grid_in g a).size

-- "one list for each explicit line; with no entry on the axis there are no lists"
unfoldable pub line_count_in : Grid → Axis → ℕ
line_count_in g a = line_count (grid_in g a).entries (grid_in g a).size.explicit

-- "an empty part where that line and place hold none", or a store is short
unfoldable pub line_name_in : Grid → NameTables → Axis → ℕ → ℕ → Bytes
line_name_in g t a line place =
    cond (short_names t) [] (get_or (explicit_line_names (grid_in g a).size.explicit (book_in g t a) line) place [])

-- ---- `track_record`, `initialize_grid_tracks`

-- what the records call asks of an axis; a count that no sheet gives is held to 10,000
abbrev pub axis_tracks : AxisGrid → AxisTracks
axis_tracks g =
    record {
      counts = record {
        negative_implicit = min g.implicit.negative 10000;
        explicit = min g.size.explicit 10000;
        positive_implicit = min g.implicit.positive 10000;
      };
      repetitions = g.size.repetitions;
      gap = sizing_of g.space.gap;
    }

-- 4 for an index of 2N + 1 or more, then 10 for fewer than N item bytes
unfoldable pub track_record : AxisGrid → List ℕ → List ℕ → ℕ → RecordAnswer
track_record g words items index = record_answer_of (axis_tracks g) (template_in g words) (spares_in g words) items index
