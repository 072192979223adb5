-- The cursor, with an axis as a number: 0 the columns, 1 the rows; any other is refused by 4, after 3.
use Rattle.std.specs.Prelude.{ℕ, cond, List, pos}
use Rattle.panel_tables.specs.declared.Grid.{Grid}
use Rattle.coordinates.specs.Axes.{axis_of}
use Rattle.library_numbers.specs.Answers.{is_axis}
use Rattle.panel_positions.specs.declared.LineAnswer.{LineAnswer}
use Rattle.panel_positions.specs.Cursor.{nearest_line, no_axis_positions}

unfoldable pub nearest_line_of : Grid → List ℕ → ℕ → List ℕ → ℕ → LineAnswer
nearest_line_of g words axis items cursor =
    cond (is_axis axis) (nearest_line g words (axis_of axis) items cursor) (record { number = no_axis_positions cursor cursor; line = pos 0 })
