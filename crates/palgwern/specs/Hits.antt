-- `palgwern_placements_within` and `palgwern_placements_around`: an axis is a number, and a count answers.
use Rattle.std.specs.Prelude.{ℕ, cond, List, ℤ}
use Rattle.coordinates.specs.Refusals.{count}
use Rattle.panel_tables.specs.declared.Grid.{Grid}
use Rattle.coordinates.specs.Axes.{axis_of}
use Rattle.library_numbers.specs.declared.CountAnswer.{CountAnswer}
use Rattle.library_numbers.specs.Answers.{is_axis, uncounted}
use Rattle.panel_positions.specs.Cursor.{no_axis_positions}
use Rattle.panel_hits.specs.Settled.{Lent}
use Rattle.panel_hits.specs.Lists.{WrittenHits, placements_within, placements_around}

-- the answer, and what the lent list holds
pub record ListedHits : Type 0 where
  pub answer : CountAnswer
  pub hits : List ℕ

abbrev pub listed_hits : WrittenHits → ListedHits
listed_hits w = record { answer = record { number = w.answer.number; count = w.answer.count }; hits = w.hits }

-- a number that is no axis is 4, and nothing is written
unfoldable pub hits_within : Grid → List ℕ → Lent → ℕ → List ℕ → ℕ → ℕ → List ℕ → ListedHits
unfolding placements_within
hits_within g words l axis items low high hits =
    cond (is_axis axis) (listed_hits (placements_within g words l items (record { axis = axis_of axis; bits = record { low = low; high = high } }) hits))
    (record { answer = uncounted (no_axis_positions low high); hits = hits })

unfoldable pub hits_around : Grid → List ℕ → Lent → ℕ → List ℕ → ℤ → List ℕ → ListedHits
unfolding placements_around
hits_around g words l axis items line hits =
    cond (is_axis axis) (listed_hits (placements_around g words l items (record { axis = axis_of axis; line = line }) hits))
    (record { answer = uncounted count; hits = hits })
