use mathlib.Core.Path.{ap, ◌∙◌}
use lib.Seq.{sets}
use Rattle.panel_rules.specs.Calls.{axis_tracks, template_in, spares_in}
use Rattle.library_records.specs.Pairs.{record_at}
use Rattle.library_records.proofs.Pairs.{put-none}
use Rattle.library_records.proofs.Running.{first_words, edge-one}
use Rattle.library_records.proofs.edge.write_edge.Goals as goal

pub returns-then-records-eq0 : goal.returns-then-records-eq0
returns-then-records-eq0 c =
    let a = c.args in
    put-none (record_at a.planned.lent.grid a.planned.lent.tables.now a.planned.lent.items.now) a.words.now a.records.place a.records.first a.records.count c.if-records-eq0.true

pub returns : goal.returns
returns c =
    let a = c.args in
    edge-one (record_at a.planned.lent.grid a.planned.lent.tables.now a.planned.lent.items.now) a.words.now c.write_record.new.words a.records.place a.records.first a.records.count c.requires.count_bound c.if-records-eq0.false c.write_record.ensures

pub returns-then-records-eq0-2 : goal.returns-then-records-eq0-2
returns-then-records-eq0-2 c =
    let a = c.args in
    edge-one (record_at a.planned.lent.grid a.planned.lent.tables.now a.planned.lent.items.now) a.words.now c.put_record.new.words a.records.place a.records.first a.records.count c.requires.count_bound c.if-records-eq0.false
    (c.put_record.ensures ∙ ap (sets a.words.now a.records.place) (first_words (axis_tracks a.planned.lent.grid) (template_in a.planned.lent.grid a.planned.lent.tables.now) (spares_in a.planned.lent.grid a.planned.lent.tables.now) a.planned.lent.items.now a.records.first c.if-records-eq0-2.true))
