-- All line names of an axis in one run (document 01, layer 4): one list for each explicit line after the other, a word for each name.
use Rattle.std.specs.Prelude.{ℕ, cond, List, eqb, ltb, length}
use Rattle.std.proofs.lemmas.List.Edits.{sets}
use Rattle.coordinates.specs.Refusals.{count, short}
use Rattle.name_lists.specs.Lists.{lists}
use Rattle.axis_tables.specs.declared.AxisGrid.{AxisGrid}
use Rattle.panel_tables.specs.declared.Grid.{Grid}
use Rattle.panel_tables.specs.Axes.{grid_in}
use Rattle.coordinates.specs.Axes.{axis_of}
use Rattle.panel_rules.specs.Calls.{NameTables, words_in, store_in, shorter_store, entry_words_in}
use Rattle.library_numbers.specs.Answers.{is_axis, counted, uncounted}
use Rattle.library_numbers.specs.Records.{WrittenRun}

-- 4 for an explicit count above 10,000, which no sheet gives; then 10 for a short store
unfoldable pub lists_refusal : ℕ → ℕ → ℕ
lists_refusal explicit bytes = cond (ltb 10000 explicit) count (cond (ltb bytes 32768) short 0)

-- the lists of an axis, by its grid, its words and its store, in the 4,096 words that are lent; `bytes` are those of the shorter store
unfoldable pub written_lists : AxisGrid → List ℕ → List ℕ → ℕ → List ℕ → WrittenRun
written_lists g words store bytes lent =
    cond (eqb (lists_refusal g.size.explicit bytes) 0)
    (record {
      answer = counted (length (lists g.size.explicit (entry_words_in g words) store));
      words = sets lent 0 (lists g.size.explicit (entry_words_in g words) store);
    })
    (record { answer = uncounted (lists_refusal g.size.explicit bytes); words = lent })

-- of an axis by its number
unfoldable pub lists_written : Grid → NameTables → ℕ → List ℕ → WrittenRun
lists_written g t axis lent =
    cond (is_axis axis) (written_lists (grid_in g (axis_of axis)) (words_in t (axis_of axis)) (store_in t (axis_of axis)) (shorter_store t) lent)
    (record { answer = uncounted count; words = lent })
