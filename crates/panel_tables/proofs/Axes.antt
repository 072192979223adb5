-- A step on the view of one axis is the step on its tables; those of the other axis stay. Assumes nothing.
use mathlib.Core.Path.{◌≡◌, refl}
use Rattle.coordinates.specs.declared.axis.Axis.{Axis}
use Rattle.coordinates.specs.declared.axis.Axis.TheVariants.{Column, Row}
use Rattle.axis_tables.specs.View.{AxisOutcome}
use Rattle.axis_tables.specs.Written.{held_of}
use Rattle.axis_tables.proofs.Fits.{Fits}
use Rattle.panel_tables.specs.View.{PanelView}
use Rattle.panel_tables.specs.Written.{held_panel, stepped}
use Rattle.panel_tables.specs.Axes.{view_in, step_in, held_in}
use Rattle.panel_tables.proofs.Fits.{FitsPanel}

pub axis_step_lem : (v : PanelView) (axis : Axis) (o : AxisOutcome) → held_in (held_panel v) axis (held_of o) ≡ stepped (step_in v axis o)
unfolding held_panel held_of
axis_step_lem v Column o = refl
axis_step_lem v Row o = refl

pub axis_in_fits : (v : PanelView) (axis : Axis) → FitsPanel v → Fits (view_in v axis)
axis_in_fits v Column f = f.columns
axis_in_fits v Row f = f.rows

pub step_in_fits : (v : PanelView) (axis : Axis) (o : AxisOutcome) → FitsPanel v → Fits o.axis → FitsPanel (step_in v axis o).panel
step_in_fits v Column o f k = record { columns = k; rows = f.rows; areas = f.areas; drawn = f.drawn; items = f.items; cells = f.cells; placed = f.placed; lines = f.lines }
step_in_fits v Row o f k = record { columns = f.columns; rows = k; areas = f.areas; drawn = f.drawn; items = f.items; cells = f.cells; placed = f.placed; lines = f.lines }
