-- `panel_writes::put_cell` meets its contract: what is accepted has room for both halves and the line. Assumes nothing.
use Rattle.std.proofs.Common.{arith, ap}
use Rattle.panel_tables.specs.Areas.{InAreas}
use Rattle.panel_tables.specs.Placements.{end_named}
use Rattle.panel_tables.proofs.Rooms.{cell_room}
use Rattle.panel_writes.proofs.place_record.put_cell.Goals as goal

pub write_half-halfway-requires : goal.write_half-halfway-requires
write_half-halfway-requires c =
    let a = c.args in
    (cell_room a.panel (end_named a.columns.start.end a.columns.start.name.now) (end_named a.columns.end.end a.columns.end.name.now) (end_named a.rows.start.end a.rows.start.name.now) (end_named a.rows.end.end a.rows.end.name.now)
    _ _ _ c.check_ends.ensures c.check_ends-2.ensures c.lower-ends.ensures c.in_ok-check_item.ensures).columns

pub write_half-after-requires : goal.write_half-after-requires
write_half-after-requires c =
    let a = c.args in
    let room = cell_room a.panel (end_named a.columns.start.end a.columns.start.name.now) (end_named a.columns.end.end a.columns.end.name.now) (end_named a.rows.start.end a.rows.start.name.now) (end_named a.rows.end.end a.rows.end.name.now)
    _ _ _ c.check_ends.ensures c.check_ends-2.ensures c.lower-ends.ensures c.in_ok-check_item.ensures in (
      omega (arith, room.rows.0, ap (λ (x : InAreas). x.answer.panel.grid.placements) c.write_half-halfway.ensures),
      omega (arith, room.rows.1, ap (λ (x : InAreas). x.answer.panel.room.placementbytes) c.write_half-halfway.ensures),
    )

pub overflow_add-after : goal.overflow_add-after
overflow_add-after c =
    let a = c.args in
    let room = cell_room a.panel (end_named a.columns.start.end a.columns.start.name.now) (end_named a.columns.end.end a.columns.end.name.now) (end_named a.rows.start.end a.rows.start.name.now) (end_named a.rows.end.end a.rows.end.name.now)
    _ _ _ c.check_ends.ensures c.check_ends-2.ensures c.lower-ends.ensures c.in_ok-check_item.ensures in
    record { fits = omega (arith, room.cells, ap (λ (x : InAreas). x.answer.panel.grid.cells) c.write_half-halfway.ensures, ap (λ (x : InAreas). x.answer.panel.grid.cells) c.write_half-after.ensures) }
