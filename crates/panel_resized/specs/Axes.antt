-- One axis with another inner size (layers 3 and 4; SHEET.md, Calls), whatever its state and its words hold: the line after the last once more, and
-- behind the entries that it writes out the direct ones, in their order.
use Rattle.std.specs.Prelude.{ℕ, ◌+◌, ◌-◌, List, cond, eqb, ltb, replicate}
use Rattle.std.proofs.lemmas.List.Edits.{sets}
use Rattle.coordinates.specs.Refusals.{crowded}
use Rattle.axis_tables.specs.declared.AxisState.{AxisState}
use Rattle.axis_tables.specs.Runs.{part_of}
use Rattle.axis_tables.specs.Store.{zero_reading}
use Rattle.sheet_end.specs.End.{EndedAxis, end_in}
use Rattle.panel_rules.specs.Calls.{with_entries}
use Rattle.panel_sizes.specs.Sizes.{state_at}

-- the words of an axis without its entries
unfoldable pub unended_words : List ℕ → List ℕ
unended_words words = sets (replicate 12480 0) 0 (part_of words 0 8384)

-- the line after the last; no repeat of a panel is open
abbrev pub ended_again : AxisState → List ℕ → EndedAxis
ended_again s words = end_in s zero_reading (unended_words words)

-- how many entries the sheet wrote out, with the inner size that the axis has
unfoldable pub written_count : AxisState → List ℕ → ℕ
written_count s words = (ended_again s words).answer.state.grid.entries

-- the direct entries are those after them
abbrev pub direct_count : AxisState → List ℕ → ℕ
direct_count s words = s.grid.entries - written_count s words

abbrev pub direct_words : AxisState → List ℕ → List ℕ
direct_words s words = part_of words (8384 + written_count s words) (direct_count s words)

-- an end with so many entries in all, the direct ones behind its own
abbrev pub with_direct : EndedAxis → ℕ → List ℕ → EndedAxis
with_direct e entries direct =
    record {
      answer = record { fault = 0; state = with_entries e.answer.state entries e.answer.state.room.used };
      words = sets e.words (8384 + e.answer.state.grid.entries) direct;
    }

-- an end with these direct entries: "4,096 name entries an axis" are all of them, and more are 8, with the state `s`
abbrev pub direct_after : AxisState → EndedAxis → ℕ → List ℕ → EndedAxis
direct_after s e count direct =
    cond (eqb e.answer.fault 0)
    (cond (ltb 4096 (e.answer.state.grid.entries + count)) (record { answer = record { fault = crowded; state = s }; words = e.words })
    (with_direct e (e.answer.state.grid.entries + count) direct))
    e

-- an axis with an inner size of those bits, and its words; 4 and 8 as the line after the last finds them, then 8 for all entries
unfoldable pub resized_axis : AxisState → List ℕ → ℕ → EndedAxis
resized_axis s words inner = direct_after (state_at s inner) (ended_again (state_at s inner) words) (direct_count s words) (direct_words s words)
