-- The line after the last (document 01, panel sheet): an axis's open repeat, explicit size and name entries, whatever its state and words hold.
use Rattle.std.specs.Prelude.{ℕ, List, [], map, cond, eqb, ltb, length, Option, Some, None, Result, Ok, Err}
use Rattle.std.proofs.lemmas.List.Edits.{sets}
use Rattle.coordinates.specs.declared.refusal.Fault.{Fault}
use Rattle.coordinates.specs.Refusals.{number_of}
use Rattle.sizing.specs.Words.{sizing_of}
use Rattle.template_rules.specs.Explicit.{SizeAnswer, explicit_size_of}
use Rattle.template_rules.specs.Template.{template_of}
use Rattle.name_entries.specs.declared.NameEntry.{NameEntry}
use Rattle.coordinates.specs.Refusals.{no_refusal, refusal_of}
use Rattle.name_template.specs.Writing.{written_entries, entry_word, WrittenNames}
use Rattle.axis_tables.specs.declared.AxisState.{AxisState}
use Rattle.axis_tables.specs.Readings.{AxisReading, OpenRepeat}
use Rattle.axis_tables.specs.Store.{zero_template}
use Rattle.axis_tables.specs.Reads.{inner_in, strategy_in}
use Rattle.axis_tables.specs.Runs.{part_of}
use Rattle.sheet_rules.specs.Panels.{with_size}

-- the words of the components, and of the name records
abbrev pub components_in : AxisState → List ℕ → List ℕ
components_in s w = part_of w 0 s.room.template.components

abbrev pub names_in : AxisState → List ℕ → List ℕ
names_in s w = part_of w 4288 s.room.names

-- layer 3
unfoldable pub size_in : AxisState → List ℕ → SizeAnswer
size_in s w =
    explicit_size_of (inner_in s.grid.space) (strategy_in s.grid.space) (sizing_of s.grid.space.gap) s.room.areas (template_of (components_in s w) (part_of w 64 s.room.template.tracks) (part_of w 2112 s.room.template.tracks))

-- layer 4: the name entries with a size found: none where the template has no track, and so counts as none
unfoldable pub entries_by : AxisState → List ℕ → SizeAnswer → List NameEntry
entries_by s w size = cond (eqb size.template 0) [] (written_entries (names_in s w) (components_in s w) size.repetitions)

abbrev pub entries_in : AxisState → List ℕ → List NameEntry
entries_in s w = entries_by s w (size_in s w)

-- how many entries were put into their region, or a refusal and 0, and what the words hold then
pub record EntriesPut : Type 0 where
  pub answer : WrittenNames
  pub words : List ℕ

-- entries in their region of the words; crowded where they are more than 4,096, and then the words stay
abbrev pub entries_put : List ℕ → List NameEntry → EntriesPut
entries_put w es =
    cond (ltb 4096 (length es)) (record { answer = record { refusal = refusal_of 8; count = 0 }; words = w })
    (record { answer = record { refusal = no_refusal; count = length es }; words = sets w 8384 (map entry_word es) })

-- a state with so many entries and a size found: the template's counts are those written, or 0 where it counts as none
abbrev pub sized_by : AxisState → ℕ → SizeAnswer → AxisState
sized_by s entries size = with_size s (cond (eqb size.template 0) zero_template s.room.template) entries size.repetitions size.explicit

-- 1 where a repeat has no end
abbrev pub ended_or : Option OpenRepeat → ℕ → ℕ
ended_or None n = n
ended_or (Some o) n = 1

-- an open repeat is 1, an explicit count above 10,000 is 4, more than 4,096 entries are 8
unfoldable pub end_fault_in : AxisState → AxisReading → List ℕ → ℕ
end_fault_in s r w =
    ended_or r.unended
    (cond (eqb (size_in s w).refusal.number 0) (cond (ltb 4096 (length (entries_in s w))) 8 0) (size_in s w).refusal.number)

-- an axis after the last line: the number of its refusal, 0 where there is none, and its state, on a refusal as it came
pub record AxisEnd : Type 0 where
  pub fault : ℕ
  pub state : AxisState

-- the number and the state of what a call answers, of the state as it came
abbrev pub answered_end : AxisState → Result AxisState Fault → AxisEnd
answered_end s (Ok after) = record { fault = 0; state = after }
answered_end s (Err fault) = record { fault = number_of fault; state = s }

-- an answer, and what the words hold then
pub record EndedAxis : Type 0 where
  pub answer : AxisEnd
  pub words : List ℕ

-- the state with its size, and the entries in their region of the words
unfoldable pub end_in : AxisState → AxisReading → List ℕ → EndedAxis
end_in s r w =
    cond (eqb (end_fault_in s r w) 0)
    (record {
      answer = record { fault = 0; state = sized_by s (length (entries_in s w)) (size_in s w) };
      words = sets w 8384 (map entry_word (entries_in s w));
    })
    (record { answer = record { fault = end_fault_in s r w; state = s }; words = w })
