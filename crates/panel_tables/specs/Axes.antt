-- One axis of a panel: taken out, and put back.
use Rattle.std.specs.Prelude.{ℕ}
use Rattle.coordinates.specs.Axes.{of_axis}
use Rattle.coordinates.specs.declared.axis.Axis.{Axis}
use Rattle.coordinates.specs.declared.axis.Axis.TheVariants.{Column, Row}
use Rattle.axis_tables.specs.declared.AxisGrid.{AxisGrid}
use Rattle.axis_tables.specs.declared.AxisRoom.{AxisRoom}
use Rattle.axis_tables.specs.declared.AxisState.{AxisState}
use Rattle.axis_tables.specs.Readings.{AxisReading}
use Rattle.axis_tables.specs.View.{AxisView, AxisOutcome}
use Rattle.axis_tables.specs.Written.{Held}
use Rattle.panel_tables.specs.declared.Grid.{Grid}
use Rattle.panel_tables.specs.declared.Room.{Room}
use Rattle.panel_tables.specs.declared.Panel.{Panel}
use Rattle.panel_tables.specs.Readings.{Reading}
use Rattle.panel_tables.specs.View.{PanelView, PanelOutcome}
use Rattle.panel_tables.specs.Written.{PanelHeld, PanelStepped}

-- what answers on an axis, what edits it, and both
abbrev pub grid_in : Grid → Axis → AxisGrid
grid_in g a = of_axis a g.columns g.rows

abbrev pub room_in : Room → Axis → AxisRoom
room_in r a = of_axis a r.columns r.rows

abbrev pub state_in : Panel → Axis → AxisState
state_in p a = record { grid = grid_in p.grid a; room = room_in p.room a }

abbrev pub reading_in : Reading → Axis → AxisReading
reading_in r a = of_axis a r.columns r.rows

abbrev pub with_grid : Grid → Axis → AxisGrid → Grid
with_grid g Column own = record { columns = own; rows = g.rows; areas = g.areas; placements = g.placements; cells = g.cells }
with_grid g Row own = record { columns = g.columns; rows = own; areas = g.areas; placements = g.placements; cells = g.cells }

abbrev pub with_room : Room → Axis → AxisRoom → Room
with_room r Column own = record { columns = own; rows = r.rows; areabytes = r.areabytes; placementbytes = r.placementbytes }
with_room r Row own = record { columns = r.columns; rows = own; areabytes = r.areabytes; placementbytes = r.placementbytes }

abbrev pub with_state : Panel → Axis → AxisState → Panel
with_state p a s = record { grid = with_grid p.grid a s.grid; room = with_room p.room a s.room }

abbrev pub with_reading : Reading → Axis → AxisReading → Reading
with_reading r Column a = record { stage = r.stage; lines = r.lines; picture = r.picture; columns = a; rows = r.rows }
with_reading r Row a = record { stage = r.stage; lines = r.lines; picture = r.picture; columns = r.columns; rows = a }

-- the answer of a record, for the panel: its refusal's number, and the panel and the reading after it
pub record PanelRead : Type 0 where
  pub fault : ℕ
  pub panel : Panel
  pub reading : Reading

-- ---- the same of a view
abbrev pub view_in : PanelView → Axis → AxisView
view_in v Column = v.columns
view_in v Row = v.rows

abbrev pub with_view : PanelView → Axis → AxisView → PanelView
with_view v Column a = record { columns = a; rows = v.rows; areas = v.areas; picture = v.picture; placements = v.placements; cells = v.cells; stage = v.stage; lines = v.lines }
with_view v Row a = record { columns = v.columns; rows = a; areas = v.areas; picture = v.picture; placements = v.placements; cells = v.cells; stage = v.stage; lines = v.lines }

abbrev pub step_in : PanelView → Axis → AxisOutcome → PanelOutcome
step_in v axis o = record { fault = o.fault; panel = with_view v axis o.axis }

-- ---- and of what is held: one axis's tables change, the other's stay
abbrev pub held_in : PanelHeld → Axis → Held → PanelStepped
held_in h Column a =
    record {
      fault = a.answer.fault;
      held = record {
        panel = with_state h.panel Column a.answer.state;
        reading = with_reading h.reading Column a.answer.reading;
        columns = a.words;
        rows = h.rows;
        column_marks = a.marks;
        row_marks = h.row_marks;
        column_bytes = a.bytes;
        row_bytes = h.row_bytes;
        areas = h.areas;
        area_bytes = h.area_bytes;
        placements = h.placements;
        placement_bytes = h.placement_bytes;
      };
    }
held_in h Row a =
    record {
      fault = a.answer.fault;
      held = record {
        panel = with_state h.panel Row a.answer.state;
        reading = with_reading h.reading Row a.answer.reading;
        columns = h.columns;
        rows = a.words;
        column_marks = h.column_marks;
        row_marks = a.marks;
        column_bytes = h.column_bytes;
        row_bytes = a.bytes;
        areas = h.areas;
        area_bytes = h.area_bytes;
        placements = h.placements;
        placement_bytes = h.placement_bytes;
      };
    }
