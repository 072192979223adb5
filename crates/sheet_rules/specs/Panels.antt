-- What the state and the tables hold for an accepted sheet: those of its view, with the explicit sizes and the name entries written out.
use Rattle.std.specs.Prelude.{ℕ, List, [], ◌++◌, map, length, drop}
use Rattle.name_entries.specs.declared.NameEntry.{NameEntry}
use Rattle.name_template.specs.Writing.{written_entries, entry_word}
use Rattle.axis_tables.specs.declared.TemplateCounts.{TemplateCounts}
use Rattle.axis_tables.specs.declared.AxisState.{AxisState}
use Rattle.axis_tables.specs.Store.{zero_template}
use Rattle.axis_tables.specs.Runs.{words_from}
use Rattle.axis_tables.specs.View.{AxisView, name_of, axis_names, axis_bytes}
use Rattle.axis_tables.specs.Written.{components_from, record_word, room_of, state_of, words_with}
use Rattle.panel_tables.specs.declared.Panel.{Panel}
use Rattle.panel_tables.specs.View.{PanelView}
use Rattle.panel_tables.specs.Axes.{with_state}
use Rattle.coordinates.specs.declared.axis.Axis.TheVariants.{Column, Row}
use Rattle.panel_tables.specs.Regions.{axis_words_in, area_words_in, placement_words_in, marks_in, area_bytes_in, placement_bytes_in}
use Rattle.panel_tables.specs.Written.{panel_of, area_words, area_store, placement_words, placement_store}
use Rattle.sheet_rules.specs.Sheet.{size_of, if_counts, explicit_of}

-- ---- an axis

-- the words of its `name` records
abbrev pub name_words : AxisView → List ℕ
name_words v = words_from record_word name_of 0 (axis_names v)

-- its name entries: where the template counts, the records written out with the repetitions found; and their words
unfoldable pub name_entries : AxisView → List NameEntry
name_entries v = if_counts v (written_entries (name_words v) (components_from 0 v.template) (size_of v).repetitions) []

unfoldable pub entry_words : AxisView → List ℕ
unfolding name_entries
entry_words v = map entry_word (name_entries v)

-- a state at the end of its sheet: the counts of what counts as its template, the entries and the explicit size
abbrev pub with_size : AxisState → TemplateCounts → ℕ → ℕ → ℕ → AxisState
with_size s template entries repetitions explicit =
    record {
      grid = record {
        space = s.grid.space;
        template = template;
        implicit = s.grid.implicit;
        entries = entries;
        size = record { repetitions = repetitions; explicit = explicit };
      };
      room = s.room;
    }

-- the grid has the components and tracks of what counts as the template, so that every call sees an empty one where nothing counts; the room keeps
-- those written, the `name` records and their bytes
unfoldable pub sized_state : AxisView → AxisState
sized_state v = with_size (state_of v) (if_counts v (room_of v).template zero_template) (length (entry_words v)) (size_of v).repetitions (explicit_of v)

-- ---- the panel

-- a panel whose axes are these
abbrev pub with_axes : Panel → AxisState → AxisState → Panel
with_axes p columns rows = with_state (with_state p Column columns) Row rows

unfoldable pub sized_panel : PanelView → Panel
sized_panel v = with_axes (panel_of v) (sized_state v.columns) (sized_state v.rows)

-- everything that is lent with a panel: for each axis its words, its item marks and its line-name store; the areas and the placements with their bytes
pub record Tables : Type 0 where
  pub columns : List ℕ
  pub rows : List ℕ
  pub column_marks : List ℕ
  pub row_marks : List ℕ
  pub areas : List ℕ
  pub area_bytes : List ℕ
  pub placements : List ℕ
  pub placement_bytes : List ℕ
  pub column_store : List ℕ
  pub row_store : List ℕ

-- the same, of the words, the bytes and the two stores that are lent
unfoldable pub tables_in : List ℕ → List ℕ → List ℕ → List ℕ → Tables
tables_in words bytes column_store row_store =
    record {
      columns = axis_words_in Column words;
      rows = axis_words_in Row words;
      column_marks = marks_in Column bytes;
      row_marks = marks_in Row bytes;
      areas = area_words_in words;
      area_bytes = area_bytes_in bytes;
      placements = placement_words_in words;
      placement_bytes = placement_bytes_in bytes;
      column_store = column_store;
      row_store = row_store;
    }

-- the names' bytes first, and the rest of the store as it was
abbrev pub pasted : AxisView → List ℕ → List ℕ
pasted v store = axis_bytes v ++ drop (length (axis_bytes v)) store

-- the tables of a panel, in place of those that were lent
unfoldable pub tables_of : PanelView → Tables → Tables
tables_of v t =
    record {
      columns = words_with v.columns (entry_words v.columns);
      rows = words_with v.rows (entry_words v.rows);
      column_marks = v.columns.marks;
      row_marks = v.rows.marks;
      areas = area_words v.areas;
      area_bytes = area_store v.areas;
      placements = placement_words v.placements v.cells;
      placement_bytes = placement_store v.placements;
      column_store = pasted v.columns t.column_store;
      row_store = pasted v.rows t.row_store;
    }
