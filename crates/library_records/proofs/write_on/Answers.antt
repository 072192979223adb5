use mathlib.Core.Path.{sym}
use native.Mathlib.Nat.{le_of_lt}
use Rattle.std.proofs.lemmas.Result.{err_from_is_err_and}
use Rattle.library_records.proofs.Runs.{unrefused, count_fits, run-refused, run-written}
use Rattle.library_records.proofs.write_on.Goals as goal

pub returns-in_err-check_run : goal.returns-in_err-check_run
returns-in_err-check_run c =
    let a = c.args in
    let p = err_from_is_err_and c.from_residual.result c.from_residual.ensures.1 in
    rw (p.1, p.2) (run-refused a.lent.grid a.lent.tables.now a.lent.items.now a.first a.words.now _ c.in_err-check_run.ensures)

pub run_count-count-requires : goal.run_count-count-requires
run_count-count-requires c = le_of_lt (unrefused c.args.lent.grid _ _ c.args.first (sym c.in_ok-check_run.ensures)).0

pub returns : goal.returns
returns c =
    let a = c.args in
    run-written a.lent.grid a.lent.tables.now a.lent.items.now a.first a.words.now c.run_count-count.result c.write_records.new.words (sym c.in_ok-check_run.ensures) c.run_count-count.ensures c.write_records.ensures

pub write_records-requires : goal.write_records-requires
write_records-requires c =
    let a = c.args in
    let u = unrefused a.lent.grid _ _ a.first (sym c.in_ok-check_run.ensures) in
    let f = count_fits a.lent.grid _ a.first c.run_count-count.result (le_of_lt u.0) c.run_count-count.ensures in
    record { count_bound = f.0; grid_in_bounds = u.1; count_in_bounds = f.1 }
