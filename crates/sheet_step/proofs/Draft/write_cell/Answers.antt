use Rattle.std.specs.Prelude.{Ok, Err}
use Rattle.std.proofs.lemmas.Result.{err_from_is_err_and}
use native.Mathlib.Omega.{arith}
use Rattle.panel_tables.specs.View.{next_line}
use Rattle.panel_tables.specs.Areas.{answered_panel}
use Rattle.panel_tables.specs.Readings.{panel_reading}
use Rattle.panel_tables.specs.Written.{panel_held_of}
use Rattle.sheet_forms.specs.Answers.{place_end}
use Rattle.sheet_step.specs.Drafts.{names_at}
use Rattle.sheet_step.specs.Regions.{on_cell}
use Rattle.sheet_step.proofs.Back.{cell-back}
use Rattle.sheet_step.proofs.Draft.write_cell.Goals as goal

pub returns-in_err-self : goal.returns-in_err-self
unfolding on_cell panel_held_of
returns-in_err-self c =
    let a = c.args in
    let d = a.self.now in
    let p = err_from_is_err_and c.from_residual.result c.from_residual.ensures.1 in
    rw (p.1, p.2)
    (cell-back d.panel (panel_reading d.reading) d.words d.bytes d.column_bytes d.row_bytes (omega arith) (omega arith) (next_line d.reading.lines)
    (place_end a.cell.columns.start) (place_end a.cell.columns.end) (place_end a.cell.rows.start) (place_end a.cell.rows.end) (names_at a.line.now a.there)
    (record { answer = answered_panel d.panel (Err c.in_err-self.field-0.0); words = c.on_cell.new.words; bytes = c.on_cell.new.bytes })
    (rw (
      c.named_ends-columns.ensures.start,
      c.named_ends-columns.ensures.end,
      c.named_ends-rows.ensures.start,
      c.named_ends-rows.ensures.end,
      c.part_at-first.ensures,
      c.part_at-second.ensures,
      c.part_at-third.ensures,
      c.part_at-fourth.ensures,
      c.next_line-number.ensures,
    ) at c.in_err-self.ensures.written) (omega arith) (omega arith))

pub returns : goal.returns
unfolding on_cell panel_held_of
returns c =
    let a = c.args in
    let d = a.self.now in
    (cell-back d.panel (panel_reading d.reading) d.words d.bytes d.column_bytes d.row_bytes (omega arith) (omega arith) (next_line d.reading.lines)
    (place_end a.cell.columns.start) (place_end a.cell.columns.end) (place_end a.cell.rows.start) (place_end a.cell.rows.end) (names_at a.line.now a.there)
    (record { answer = answered_panel d.panel (Ok c.in_ok-self.field-0); words = c.on_cell.new.words; bytes = c.on_cell.new.bytes })
    (rw (
      c.named_ends-columns.ensures.start,
      c.named_ends-columns.ensures.end,
      c.named_ends-rows.ensures.start,
      c.named_ends-rows.ensures.end,
      c.part_at-first.ensures,
      c.part_at-second.ensures,
      c.part_at-third.ensures,
      c.part_at-fourth.ensures,
      c.next_line-number.ensures,
    ) at c.in_ok-self.ensures.written) (omega arith) (omega arith))
