-- What an entry that nothing refuses needs and leaves.
use Rattle.std.specs.Prelude.{ℕ, ◌+◌, ◌≤◌, ◌<◌, List, length, set}
use Rattle.std.proofs.lemmas.List.Edits.{sets}
use Rattle.coordinates.specs.declared.axis.Axis.{Axis}
use Rattle.coordinates.specs.Refusals.{no_refusal}
use Rattle.name_entries.specs.Entries.{word_of}
use Rattle.axis_tables.specs.declared.AxisState.{AxisState}
use Rattle.panel_tables.specs.declared.Panel.{Panel}
use Rattle.panel_tables.specs.Axes.{state_in, with_state}
use Rattle.panel_tables.specs.Regions.{first_word}
use Rattle.panel_rules.specs.Calls.{NameTables, EnteredName, with_entry, entered_in}

-- there is room for the entry and for the bytes of its name, in a store of that length
pub record Roomy (s : AxisState) (store : ℕ) (name : List ℕ) : Type 0 where
  pub short : length name ≤ 32
  pub few : s.grid.entries < 4096
  pub fits : s.room.used + length name ≤ 32768
  pub wide : 32768 ≤ store

-- an axis's state, the words of the panel and the axis's store
pub record EnteredAxis : Type 0 where
  pub state : AxisState
  pub words : List ℕ
  pub store : List ℕ

-- with the entry
abbrev pub entered_on : AxisState → Axis → List ℕ → List ℕ → ℕ → List ℕ → EnteredAxis
entered_on s a words store line name =
    record {
      state = with_entry s (length name);
      words = set words (first_word a + (8384 + s.grid.entries)) (word_of line s.room.used (length name));
      store = sets store s.room.used name;
    }

-- the answer of an entry that nothing refuses
abbrev pub entered_name : Panel → NameTables → Axis → ℕ → List ℕ → EnteredName
entered_name p t a line name =
    record {
      answer = record { refusal = no_refusal; panel = with_state p a (with_entry (state_in p a) (length name)) };
      tables = entered_in t a (state_in p a) line name;
    }
