-- `least_resize`: the least resize of an axis, whatever the state and the words hold (document 02, Req 12; SHEET.md, Calls). The template is the one that
-- every call reads: where it counts as none the grid has no component of it.
use Rattle.std.specs.Prelude.{ℕ, List}
use Rattle.coordinates.specs.declared.axis.Axis.{Axis}
use Rattle.sizing.specs.Words.{sizing_of}
use Rattle.axis_tables.specs.declared.AxisGrid.{AxisGrid}
use Rattle.panel_tables.specs.declared.Grid.{Grid}
use Rattle.panel_tables.specs.Axes.{grid_in}
use Rattle.panel_tables.specs.Regions.{axis_words_in}
use Rattle.axis_tables.specs.Reads.{strategy_in}
use Rattle.panel_rules.specs.Calls.{template_in}
use Rattle.least_resize.specs.declared.ResizeAnswer.{ResizeAnswer}
use Rattle.least_resize.specs.Answer.{resize_answer}

unfoldable pub axis_resize : AxisGrid → List ℕ → ResizeAnswer
axis_resize g words = resize_answer g.space.definite g.space.inner (strategy_in g.space) (sizing_of g.space.gap) (template_in g words)

abbrev pub least_resize_in : Grid → List ℕ → Axis → ResizeAnswer
least_resize_in g words a = axis_resize (grid_in g a) (axis_words_in a words)
