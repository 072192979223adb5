use mathlib.Core.Path.{sym, ◌∙◌}
use native.Mathlib.Omega.{arith}
use Rattle.std.proofs.lemmas.Result.{err_from_is_err_and}
use Rattle.panel_resized.proofs.Resized.{others-stay, out-of-range, axis-refused, stores-short, resized-panel}
use Rattle.panel_resized.proofs.resize_axis.Goals as goal

pub returns-then-not-length_in_range-clause-resized : goal.returns-then-not-length_in_range-clause-resized
returns-then-not-length_in_range-clause-resized c =
    let a = c.args in
    out-of-range a.panel a.words.now a.columnstore.now a.rowstore.now a.axis a.inner (sym c.length_in_range.ensures ∙ c.if-not-length_in_range.true)

pub returns-in_err-after-clause-resized : goal.returns-in_err-after-clause-resized
returns-in_err-after-clause-resized c =
    let a = c.args in
    let p = err_from_is_err_and c.from_residual.result c.from_residual.ensures.1 in
    rw (p.1, p.2)
    (axis-refused a.panel a.words.now a.columnstore.now a.rowstore.now a.axis a.inner (sym c.length_in_range.ensures ∙ c.if-not-length_in_range.false) _ _ c.state_in-state.ensures
    c.axis_words.ensures c.in_err-after.field-0.0 c.resize_own.new.own c.in_err-after.ensures)

pub returns-then-min-lt-STORE_BYTES-clause-resized : goal.returns-then-min-lt-STORE_BYTES-clause-resized
returns-then-min-lt-STORE_BYTES-clause-resized c =
    let a = c.args in
    stores-short a.panel a.words.now a.columnstore.now a.rowstore.now a.axis a.inner (sym c.length_in_range.ensures ∙ c.if-not-length_in_range.false) _ _ c.state_in-state.ensures
    c.axis_words.ensures c.in_ok-after.after c.resize_own.new.own c.in_ok-after.ensures c.min.result c.min.ensures c.if-min-lt-STORE_BYTES.true

pub returns-clause-resized : goal.returns-clause-resized
returns-clause-resized c =
    let a = c.args in
    rw (c.with_state.ensures, c.copy_what_fits.ensures, c.first_word.ensures.value)
    (resized-panel a.panel a.words.now a.columnstore.now a.rowstore.now a.axis a.inner (sym c.length_in_range.ensures ∙ c.if-not-length_in_range.false) _ _ c.state_in-state.ensures
    c.axis_words.ensures c.in_ok-after.after c.resize_own.new.own c.in_ok-after.ensures c.min.result c.min.ensures c.if-min-lt-STORE_BYTES.false (omega arith) (omega arith))

pub returns-clause-others : goal.returns-clause-others
returns-clause-others c =
    rw (c.copy_what_fits.ensures, c.first_word.ensures.value) (others-stay c.args.words.now c.resize_own.new.own (omega arith) (omega arith) c.args.axis)
