-- `palgwern_least_resize`: the least resize of an axis by its number.
use Rattle.std.specs.Prelude.{ℕ, cond, List}
use Rattle.coordinates.specs.Refusals.{count}
use Rattle.panel_tables.specs.declared.Grid.{Grid}
use Rattle.coordinates.specs.Axes.{axis_of}
use Rattle.library_numbers.specs.Answers.{is_axis}
use Rattle.least_resize.specs.declared.ResizeAnswer.{ResizeAnswer}
use Rattle.panel_resize.specs.Resize.{least_resize_in}

-- 4 for a number that is no axis
unfoldable pub least_resize_of : Grid → List ℕ → ℕ → ResizeAnswer
least_resize_of g words axis = cond (is_axis axis) (least_resize_in g words (axis_of axis)) (record { number = count; found = 0; size = 0 })
