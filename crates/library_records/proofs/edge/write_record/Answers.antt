use mathlib.Core.Path.{refl}
use Rattle.library_records.proofs.Running.{record_written}
use Rattle.track_rules.specs.Numbers.{kind_number, source_number}
use Rattle.library_records.proofs.edge.write_record.Goals as goal

pub returns : goal.returns
returns c =
    let a = c.args in
    let r = c.carried-track.result in
    record_written a.planned.lent.grid a.planned.lent.tables.now a.planned.lent.items.now a.planned.plan a.index c.axis_tracks-axis.result c.template-template.result.components.now c.cursor_at-cursor.result r (kind_number r.kind) (source_number r.source) c.from.result c.from-2.result
    a.words.now c.put_record.new.words a.place a.planned.worked_out c.axis_tracks-axis.ensures c.template-template.ensures.components c.cursor_at-cursor.ensures c.carried-track.ensures refl refl c.from.ensures c.from-2.ensures c.put_record.ensures
