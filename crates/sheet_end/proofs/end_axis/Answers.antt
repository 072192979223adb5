use Rattle.std.proofs.lemmas.Result.{err_from_is_err_and}
use mathlib.Core.Path.{ap}
use Rattle.axis_tables.specs.Readings.{unended_numbers, axis_reading}
use Rattle.sheet_end.proofs.Faults.{open_end, unsized_end, crowded_end, accepted-end}
use Rattle.sheet_end.proofs.end_axis.Goals as goal

pub returns-in-Some : goal.returns-in-Some
returns-in-Some c =
    let a = c.args.axis in
    open_end a.state (axis_reading a.reading) c.args.words.now _ (ap unended_numbers c.in-Some.is)

pub returns-in_err-size : goal.returns-in_err-size
returns-in_err-size c =
    let a = c.args.axis in
    let p = err_from_is_err_and c.from_residual.result c.from_residual.ensures.1 in
    rw (p.1, p.2) (unsized_end a.state (axis_reading a.reading) c.args.words.now (ap unended_numbers c.in_default.is) c.in_err-size.field-0.0 c.in_err-size.ensures)

pub returns-in_err-entries : goal.returns-in_err-entries
returns-in_err-entries c =
    let a = c.args.axis in
    let p = err_from_is_err_and c.from_residual-in_err-entries.result c.from_residual-in_err-entries.ensures.1 in
    rw (p.1, p.2)
    (crowded_end a.state (axis_reading a.reading) c.args.words.now (ap unended_numbers c.in_default.is) c.in_ok-size.size c.in_ok-size.ensures c.put_entries.new.words
    c.in_err-entries.field-0.0 c.in_err-entries.ensures)

pub returns : goal.returns
returns c =
    let a = c.args.axis in
    rw c.with_size.ensures
    (accepted-end a.state (axis_reading a.reading) c.args.words.now (ap unended_numbers c.in_default.is) c.in_ok-size.size c.in_ok-size.ensures c.put_entries.new.words
    c.in_ok-entries.entries c.in_ok-entries.ensures)
