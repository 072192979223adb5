use Rattle.template_rules.specs.Template.{template_of}
use Rattle.track_rules.specs.Written.{spares_of}
use Rattle.track_rules.specs.Records.{item_at}
use Rattle.track_rules.proofs.RecordList.{gutter-record, track-record}
use Rattle.track_record.proofs.LentTracks.record_with.Goals as goal

pub returns-then-index-eq0-2 : goal.returns-then-index-eq0-2
returns-then-index-eq0-2 c =
    let a = c.args in let l = a.self in
    gutter-record a.at.axis a.at.plan (template_of l.template.components.now l.template.sizes.minimums.now l.template.sizes.maximums.now) (spares_of l.spares.minimums.now l.spares.maximums.now) (item_at l.items.now) a.at.cursor a.index c.if-index-eq0.false
    c.track_with-track.result c.track_collapses-collapsed.result c.track_with-track.ensures c.track_collapses-collapsed.ensures
    c.gutter-then-index-eq0-2.result c.gutter_collapses-shut.result c.if-index-eq0-2.true c.gutter_collapses-shut.ensures c.gutter-then-index-eq0-2.ensures

pub returns : goal.returns
returns c =
    let a = c.args in let l = a.self in
    track-record a.at.axis a.at.plan (template_of l.template.components.now l.template.sizes.minimums.now l.template.sizes.maximums.now) (spares_of l.spares.minimums.now l.spares.maximums.now) (item_at l.items.now) a.at.cursor a.index c.if-index-eq0.false
    c.track_with-track.result c.track_collapses-collapsed.result c.track_with-track.ensures c.track_collapses-collapsed.ensures
    c.track.result c.if-index-eq0-2.false c.track.ensures
