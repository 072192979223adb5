use Rattle.std.specs.Prelude.{Ok, Err}
use Rattle.std.proofs.lemmas.Result.{err_from_is_err_and}
use mathlib.Core.Path.{ap, ◌∙◌}
use native.Mathlib.Omega.{arith}
use Rattle.text.specs.Places.{part_at}
use Rattle.panel_tables.specs.declared.AreaEdges.{AreaEdges}
use Rattle.panel_tables.specs.Areas.{answered_panel}
use Rattle.sheet_forms.specs.Answers.{place_end}
use Rattle.sheet_rules.specs.Lines.{edges_of}
use Rattle.sheet_step.specs.Regions.{on_areas, on_placements}
use Rattle.panel_tables.specs.Readings.{panel_reading}
use Rattle.sheet_step.proofs.Back.{areas-back, placements-back}
use Rattle.sheet_step.proofs.Draft.write.Goals as goal

pub returns-in_err-self-in-Area : goal.returns-in_err-self-in-Area
returns-in_err-self-in-Area c =
    let a = c.args in
    let d = a.self.now in
    let p = err_from_is_err_and c.from_residual.result c.from_residual.ensures.1 in
    rw (p.1, p.2, c.in-Ok.is, c.in-Area.is)
    (areas-back d.panel (panel_reading d.reading) d.words d.bytes d.column_bytes d.row_bytes (omega arith) (omega arith) c.part_at-first.result.now (part_at a.line.now a.there.first) (edges_of c.in-Area.area)
    (record { answer = answered_panel d.panel (Err c.in_err-self-in-Area.field-0.0); words = c.on_areas.new.words; bytes = c.on_areas.new.bytes })
    (c.in_err-self-in-Area.ensures.written ∙ ap (λ (z : AreaEdges). on_areas d.panel d.words d.bytes c.part_at-first.result.now z) c.edges_of-edges.ensures)
    c.part_at-first.ensures (omega arith) (omega arith))

pub returns-in_ok-self-in-Area : goal.returns-in_ok-self-in-Area
returns-in_ok-self-in-Area c =
    let a = c.args in
    let d = a.self.now in
    rw (c.in-Ok.is, c.in-Area.is)
    (areas-back d.panel (panel_reading d.reading) d.words d.bytes d.column_bytes d.row_bytes (omega arith) (omega arith) c.part_at-first.result.now (part_at a.line.now a.there.first) (edges_of c.in-Area.area)
    (record { answer = answered_panel d.panel (Ok c.in_ok-self-in-Area.field-0); words = c.on_areas.new.words; bytes = c.on_areas.new.bytes })
    (c.in_ok-self-in-Area.ensures.written ∙ ap (λ (z : AreaEdges). on_areas d.panel d.words d.bytes c.part_at-first.result.now z) c.edges_of-edges.ensures)
    c.part_at-first.ensures (omega arith) (omega arith))

pub returns-in_err-self-in-Place : goal.returns-in_err-self-in-Place
unfolding on_placements
returns-in_err-self-in-Place c =
    let a = c.args in
    let d = a.self.now in
    let p = err_from_is_err_and c.from_residual-in_err-self-in-Place.result c.from_residual-in_err-self-in-Place.ensures.1 in
    rw (p.1, p.2, c.in-Ok.is, c.in-Place.is)
    (placements-back d.panel (panel_reading d.reading) d.words d.bytes d.column_bytes d.row_bytes (omega arith) (omega arith) c.in-Place.axis (place_end c.in-Place.ends.start) c.part_at-first.result.now (part_at a.line.now a.there.first)
    (place_end c.in-Place.ends.end) c.part_at-second.result.now (part_at a.line.now a.there.second)
    (record { answer = answered_panel d.panel (Err c.in_err-self-in-Place.field-0.0); words = c.on_placements.new.words; bytes = c.on_placements.new.bytes })
    (rw (c.named_end-from.ensures, c.named_end-to.ensures) at c.in_err-self-in-Place.ensures.written) c.part_at-first.ensures c.part_at-second.ensures (omega arith) (omega arith))

pub returns-in_ok-self-in-Place : goal.returns-in_ok-self-in-Place
unfolding on_placements
returns-in_ok-self-in-Place c =
    let a = c.args in
    let d = a.self.now in
    rw (c.in-Ok.is, c.in-Place.is)
    (placements-back d.panel (panel_reading d.reading) d.words d.bytes d.column_bytes d.row_bytes (omega arith) (omega arith) c.in-Place.axis (place_end c.in-Place.ends.start) c.part_at-first.result.now (part_at a.line.now a.there.first)
    (place_end c.in-Place.ends.end) c.part_at-second.result.now (part_at a.line.now a.there.second)
    (record { answer = answered_panel d.panel (Ok c.in_ok-self-in-Place.field-0); words = c.on_placements.new.words; bytes = c.on_placements.new.bytes })
    (rw (c.named_end-from.ensures, c.named_end-to.ensures) at c.in_ok-self-in-Place.ensures.written) c.part_at-first.ensures c.part_at-second.ensures (omega arith) (omega arith))
