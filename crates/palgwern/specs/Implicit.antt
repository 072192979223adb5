-- `palgwern_with_implicit`: a grid with implicit tracks by argument on an axis by its number; a number that is no axis is 4, as counts out of range are.
use Rattle.std.specs.Prelude.{ℕ, cond, Result, Ok, Err}
use Rattle.coordinates.specs.Axes.{axis_of}
use Rattle.coordinates.specs.Refusals.{count, number_of}
use Rattle.coordinates.specs.declared.refusal.Fault.{Fault}
use Rattle.panel_tables.specs.declared.Grid.{Grid}
use Rattle.library_numbers.specs.Answers.{is_axis}
use Rattle.implicit_counts.specs.Counts.{with_implicit}
use Rattle.palgwern.specs.declared.implicit.GridAnswer.{GridAnswer}

-- on a refusal the grid as it came
abbrev pub grid_numbers : Grid → Result Grid Fault → GridAnswer
grid_numbers g (Ok given) = record { number = 0; grid = given }
grid_numbers g (Err fault) = record { number = number_of fault; grid = g }

unfoldable pub implicit_given : Grid → ℕ → ℕ → ℕ → GridAnswer
implicit_given g axis negative positive =
    cond (is_axis axis) (grid_numbers g (with_implicit g (axis_of axis) negative positive)) (record { number = count; grid = g })
