use Rattle.panel_tables.specs.Readings.{panel_reading}
use Rattle.panel_edits.proofs.Drafts.{entered_same}
use Rattle.panel_edits.proofs.entries.enter_entry.Goals as goal

pub returns : goal.returns
returns c =
    let d = c.args.draft.now in
    let e = c.args.entry in
    let k = c.enter_in_place in
    entered_same d.panel k.new.panel (panel_reading d.reading) d.words k.new.words d.bytes d.column_bytes k.new.columnstore d.row_bytes k.new.rowstore _ e.axis e.line e.name.now k.ensures.rowstore_after k.ensures.others.0 k.ensures.others.1
