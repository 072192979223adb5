use Rattle.std.specs.Prelude.{Ok, Err}
use Rattle.std.proofs.lemmas.Result.{err_from_is_err_and}
use mathlib.Core.Path.{refl, sym, ◌∙◌}
use native.Mathlib.Omega.{arith}
use Rattle.coordinates.specs.declared.axis.Axis.TheVariants.{Column, Row}
use Rattle.axis_tables.specs.Store.{answered_axis}
use Rattle.panel_tables.specs.Axes.{state_in, reading_in}
use Rattle.sheet_forms.specs.Answers.{said_of}
use Rattle.panel_tables.specs.Readings.{panel_reading}
use Rattle.sheet_step.specs.Regions.{on_axis}
use Rattle.sheet_step.proofs.Back.{columns-back, rows_back}
use Rattle.sheet_step.proofs.Draft.on_own_axis.Goals as goal
use Rattle.sheet_step.proofs.Draft.on_own_axis.Goals.{in-Column, in-Row}

pub returns-in_err-after : goal.returns-in_err-after
unfolding on_axis
returns-in_err-after c =
    let a = c.args in
    let d = a.self.now in
    let p = err_from_is_err_and c.from_residual.result c.from_residual.ensures.1 in
    rw (p.1, p.2)
    (elim c.match-axis.branch [
      | in-Column w ↦
          let k = w.on_axis-written in
          rw (w.self-is, w.in-Column.is)
          (columns-back d.panel (panel_reading d.reading) d.words d.bytes d.column_bytes d.row_bytes (omega arith) (omega arith) a.name.now a.name.now (said_of (Ok a.said))
          (record { answer = answered_axis (state_in d.panel Column) (reading_in (panel_reading d.reading) Column) (Err c.in_err-after.field-0.0); words = k.new.words; marks = k.new.bytes; bytes = k.new.store })
          (rw (c.axis-before.ensures.state, c.axis-before.ensures.reading, sym w.written-is ∙ c.in_err-after.was, w.in-Column.is) at k.ensures.written) refl (omega arith) (omega arith))
      | in-Row w ↦
          let k = w.on_axis-written-in-Row in
          rw (w.self-is, w.in-Row.is)
          (rows_back d.panel (panel_reading d.reading) d.words d.bytes d.column_bytes d.row_bytes (omega arith) (omega arith) a.name.now a.name.now (said_of (Ok a.said))
          (record { answer = answered_axis (state_in d.panel Row) (reading_in (panel_reading d.reading) Row) (Err c.in_err-after.field-0.0); words = k.new.words; marks = k.new.bytes; bytes = k.new.store })
          (rw (c.axis-before.ensures.state, c.axis-before.ensures.reading, sym w.written-is ∙ c.in_err-after.was, w.in-Row.is) at k.ensures.written) refl (omega arith) (omega arith))
    ])

pub returns : goal.returns
unfolding on_axis
returns c =
    let a = c.args in
    let d = a.self.now in
    rw (c.with_state-self.ensures, c.with_reading-self.ensures)
    (elim c.match-axis.branch [
      | in-Column w ↦
          let k = w.on_axis-written in
          rw (w.self-is, w.in-Column.is)
          (columns-back d.panel (panel_reading d.reading) d.words d.bytes d.column_bytes d.row_bytes (omega arith) (omega arith) a.name.now a.name.now (said_of (Ok a.said))
          (record { answer = answered_axis (state_in d.panel Column) (reading_in (panel_reading d.reading) Column) (Ok c.in_ok-after.after); words = k.new.words; marks = k.new.bytes; bytes = k.new.store })
          (rw (c.axis-before.ensures.state, c.axis-before.ensures.reading, sym w.written-is ∙ c.in_ok-after.was, w.in-Column.is) at k.ensures.written) refl (omega arith) (omega arith))
      | in-Row w ↦
          let k = w.on_axis-written-in-Row in
          rw (w.self-is, w.in-Row.is)
          (rows_back d.panel (panel_reading d.reading) d.words d.bytes d.column_bytes d.row_bytes (omega arith) (omega arith) a.name.now a.name.now (said_of (Ok a.said))
          (record { answer = answered_axis (state_in d.panel Row) (reading_in (panel_reading d.reading) Row) (Ok c.in_ok-after.after); words = k.new.words; marks = k.new.bytes; bytes = k.new.store })
          (rw (c.axis-before.ensures.state, c.axis-before.ensures.reading, sym w.written-is ∙ c.in_ok-after.was, w.in-Row.is) at k.ensures.written) refl (omega arith) (omega arith))
    ])
