-- `panel_writes::put_placement` meets its contract: what is accepted has room. Assumes nothing.
use Rattle.panel_tables.specs.Placements.{end_named}
use Rattle.panel_tables.proofs.Rooms.{placement_room}
use Rattle.panel_writes.proofs.place_record.put_placement.Goals as goal

pub write_half-requires : goal.write_half-requires
write_half-requires c =
    let a = c.args in
    placement_room a.panel (end_named a.start.end a.start.name.now) (end_named a.end.end a.end.name.now) _ c.check_ends.ensures c.in_ok-check_item.ensures
