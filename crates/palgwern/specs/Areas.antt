-- `palgwern_drawn_area` and `palgwern_named_area`: the edges of an area by its name and the number of an axis; a number that is no axis is 4,
-- after 2.
use Rattle.std.specs.Prelude.{ℕ, cond, List}
use Rattle.coordinates.specs.Axes.{axis_of}
use Rattle.panel_tables.specs.declared.Grid.{Grid}
use Rattle.panel_rules.specs.Calls.{NameTables, NamedWords}
use Rattle.library_numbers.specs.Answers.{is_axis, no_axis_entry}
use Rattle.panel_areas.specs.declared.AreaAnswer.{AreaAnswer}
use Rattle.panel_areas.specs.Areas.{refused_area, drawn_area, named_area}

unfoldable pub drawn_area_of : Grid → NamedWords → ℕ → List ℕ → AreaAnswer
drawn_area_of g areas axis nm = cond (is_axis axis) (drawn_area g areas (axis_of axis) nm) (refused_area (no_axis_entry nm))

unfoldable pub named_area_of : Grid → NameTables → NamedWords → ℕ → List ℕ → AreaAnswer
named_area_of g t areas axis nm = cond (is_axis axis) (named_area g t areas (axis_of axis) nm) (refused_area (no_axis_entry nm))
