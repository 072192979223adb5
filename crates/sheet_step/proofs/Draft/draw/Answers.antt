use mathlib.Core.Path.{refl, ap, ◌∙◌}
use native.Mathlib.Omega.{arith}
use Rattle.coordinates.specs.Refusals.{refused_by}
use Rattle.sheet_forms.specs.Faults.{first_of}
use Rattle.picture_words.specs.Words.{words_of}
use Rattle.panel_tables.specs.Axes.{PanelRead}
use Rattle.panel_tables.specs.Written.{panel_held_of}
use Rattle.picture_areas.specs.Runs.{answered_drawn, InPicture}
use Rattle.sheet_step.specs.Regions.{drawn_read}
use Rattle.panel_tables.specs.Readings.{panel_reading}
use Rattle.sheet_step.proofs.Back.{picture-back}
use Rattle.sheet_step.proofs.Pictures.{picture-late, picture-many, picture-drawn, drawn-answer}
use Rattle.sheet_step.proofs.Draft.draw.Goals as goal

pub returns-then-late_at : goal.returns-then-late_at
returns-then-late_at c =
    let d = c.args.self.now in
    picture-back d.panel (panel_reading d.reading) d.words d.bytes d.column_bytes d.row_bytes (omega arith) (omega arith) (words_of c.args.line.now) c.args.width _
    (picture-late d.panel (panel_reading d.reading) d.words d.bytes (words_of c.args.line.now) c.args.width c.late_at.result c.late_at.ensures c.if-late_at.true _ refl) (omega arith) (omega arith)

pub returns-then-before-ge-MOST_ROWS : goal.returns-then-before-ge-MOST_ROWS
returns-then-before-ge-MOST_ROWS c =
    let d = c.args.self.now in
    picture-back d.panel (panel_reading d.reading) d.words d.bytes d.column_bytes d.row_bytes (omega arith) (omega arith) (words_of c.args.line.now) c.args.width _
    (picture-many d.panel (panel_reading d.reading) d.words d.bytes (words_of c.args.line.now) c.args.width c.late_at.result c.late_at.ensures c.if-late_at.false (omega arith) _ refl) (omega arith) (omega arith)

pub returns : goal.returns
returns c =
    let d = c.args.self.now in
    let k = c.on_drawing-drawn in
    let x : InPicture = record { answer = answered_drawn d.panel k.result; words = k.new.words; bytes = k.new.bytes } in
    let q = drawn-answer d.panel (panel_reading d.reading) c.args.width k.result (refused_by c.first_refusal.result) (c.first_refusal.ensures ∙ ap (first_of (refused_by k.result)) c.check_width.ensures) in
    rw (c.with_row-self.ensures, c.unwrap_or-after.ensures)
    (ap (λ (z : PanelRead). record { fault = z.fault; held = panel_held_of z.panel z.reading k.new.words k.new.bytes d.column_bytes d.row_bytes }) q
    ∙ picture-back d.panel (panel_reading d.reading) d.words d.bytes d.column_bytes d.row_bytes (omega arith) (omega arith) (words_of c.args.line.now) c.args.width
    (record { answer = drawn_read (panel_reading d.reading) c.args.width x.answer; words = x.words; bytes = x.bytes })
    (picture-drawn d.panel (panel_reading d.reading) d.words d.bytes (words_of c.args.line.now) c.args.width c.late_at.result c.late_at.ensures c.if-late_at.false (omega arith) x k.ensures.drawn _ refl) (omega arith) (omega arith))
