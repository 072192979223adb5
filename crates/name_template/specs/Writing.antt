-- The template's names written out (document 01, layer 4; named.rs, `NamedLineResolver::new`). Each entry shares the bytes of its record.
use Rattle.std.specs.Prelude.{ℕ, zero, suc, ◌+◌, ◌-◌, true, false, cond, List, [], ◌∷◌, ◌++◌, map, ltb, length, Result, Ok, Err}
use Rattle.std.proofs.lemmas.List.Edits.{sets}
use Rattle.coordinates.specs.Refusals.{Refusal, no_refusal, refusal_of, number_of}
use Rattle.coordinates.specs.declared.refusal.Fault.{Fault}
use Rattle.template_rules.specs.Template.{component_of}
use Rattle.template_rules.specs.declared.RepetitionCount.{RepetitionCount}
use Rattle.template_rules.specs.declared.RepetitionCount.TheVariants.{Single, Count, AutoFill, AutoFit}
use Rattle.name_entries.specs.Entries.{word_of}
use Rattle.name_entries.specs.declared.NameEntry.{NameEntry}
use Rattle.name_entries.specs.Places.{name_place}
use Rattle.name_template.specs.Records.{names_at, names_after}

-- a record's entry where its component, or the repetition, begins on that line
abbrev pub entry_on : ℕ → ℕ → NameEntry
entry_on line w = record { line = line + ((name_place w).place - 1); offset = (name_place w).offset; length = (name_place w).length }

abbrev pub entries_on : ℕ → List ℕ → List NameEntry
entries_on line names = map (entry_on line) names

-- the names inside a repeat, its repetitions one after the other: they stop once past line 10,000, tested after each
unfoldable pub repeated_names : ℕ → ℕ → ℕ → List ℕ → List NameEntry
repeated_names zero line tracks names = []
repeated_names (suc times) line tracks names =
    entries_on line names ++ cond (ltb 10000 (line + tracks)) [] (repeated_names times (line + tracks) tracks names)

-- the line after these repetitions
unfoldable pub line_after_repeat : ℕ → ℕ → ℕ → ℕ
line_after_repeat zero line tracks = line
line_after_repeat (suc times) line tracks = cond (ltb 10000 (line + tracks)) (line + tracks) (line_after_repeat times (line + tracks) tracks)

-- the line after a component: a single goes one line on, and so does a repeat written no times
abbrev pub line_after : ℕ → ℕ → ℕ → ℕ
line_after zero line tracks = line + 1
line_after (suc times) line tracks = line_after_repeat (suc times) line tracks

-- how often the names inside a component are written: a repeat's count, or the repetitions found for an automatic one
abbrev pub times_of : ℕ → RepetitionCount → ℕ
times_of repetitions Single = 0
times_of repetitions (Count n) = n
times_of repetitions AutoFill = repetitions
times_of repetitions AutoFit = repetitions

-- from component k on, which begins on that line: the names before it, those inside it, and so on; last the names after the last component
unfoldable pub written_from : ℕ → ℕ → ℕ → List ℕ → List ℕ → List NameEntry
written_from repetitions k line names [] = entries_on line (names_at false k names)
written_from repetitions k line names (w ∷ components) =
    let times = times_of repetitions (component_of w).count in
    let tracks = (component_of w).length in
    let rest = names_after false k names in
    entries_on line (names_at false k names)
    ++ (repeated_names times line tracks (names_at true k rest)
    ++ written_from repetitions (suc k) (line_after times line tracks) (names_after true k rest) components)

-- the entries of a template's name records: lines are counted from 1
abbrev pub written_entries : List ℕ → List ℕ → ℕ → List NameEntry
written_entries names components repetitions = written_from repetitions 0 1 names components

-- the word of an entry
abbrev pub entry_word : NameEntry → ℕ
entry_word e = word_of e.line e.offset e.length

-- how many entries were written, or a refusal and 0
pub record WrittenNames : Type 0 where
  pub refusal : Refusal
  pub count : ℕ

-- the numbers and values of what the writing out answers
abbrev pub answered_names : Result ℕ Fault → WrittenNames
answered_names (Ok n) = record { refusal = no_refusal; count = n }
answered_names (Err fault) = record { refusal = refusal_of (number_of fault); count = 0 }

-- an answer, and what the lent table holds then
pub record TableAfter : Type 0 where
  pub answer : WrittenNames
  pub entries : List ℕ

-- the entries in the table's first places; crowded where they are more than 4,096, and then nothing is written
unfoldable pub names_written : List ℕ → List ℕ → ℕ → List ℕ → TableAfter
names_written names components repetitions entries =
    let written = written_entries names components repetitions in
    cond (ltb 4096 (length written))
    (record { answer = record { refusal = refusal_of 8; count = 0 }; entries = entries })
    (record { answer = record { refusal = no_refusal; count = length written }; entries = sets entries 0 (map entry_word written) })
