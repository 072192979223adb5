-- `palgwern_line_name`: where the name of a line and place lies in the store of its axis.
use Rattle.std.specs.Prelude.{ℕ, ◌+◌, ◌≤◌, ◌≡◌, cond, [], length}
use Rattle.coordinates.specs.Refusals.{count, short}
use Rattle.axis_tables.specs.Runs.{part_of}
use Rattle.panel_tables.specs.declared.Grid.{Grid}
use Rattle.coordinates.specs.Axes.{axis_of}
use Rattle.panel_rules.specs.Calls.{NameTables, store_in, short_names, line_name_in}
use Rattle.panel_names.specs.LineEntries.{line_entry_in}
use Rattle.library_numbers.specs.declared.NameAnswer.{NameAnswer}
use Rattle.library_numbers.specs.Answers.{is_axis, name_part}

abbrev pub refused_name : ℕ → NameAnswer
refused_name n = record { number = n; offset = 0; length = 0 }

-- 4 for a number that is no axis, then 10 where either store is short
unfoldable pub name_part_of : Grid → NameTables → ℕ → ℕ → ℕ → NameAnswer
name_part_of g t axis line place =
    cond (is_axis axis)
    (cond (short_names t) (refused_name short) (name_part (length (store_in t (axis_of axis))) (line_entry_in g t (axis_of axis) line place)))
    (refused_name count)

-- the part that an answer names lies in the store of the axis, and is the name of that line and place
pub record ShowsName (g : Grid) (t : NameTables) (axis line place : ℕ) (r : NameAnswer) : Type 0 where
  pub answer : r ≡ name_part_of g t axis line place
  pub inside : r.offset + r.length ≤ length (store_in t (axis_of axis))
  pub part : part_of (store_in t (axis_of axis)) r.offset r.length ≡ cond (is_axis axis) (line_name_in g t (axis_of axis) line place) []
