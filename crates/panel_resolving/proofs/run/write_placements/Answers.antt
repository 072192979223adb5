use Rattle.std.proofs.Common.{rules, ◌≡◌}
use Rattle.std.specs.Prelude.{Err}
use mathlib.Core.Path.{sym}
use native.Mathlib.Nat.{le_of_lt}
use native.Mathlib.Omega.{arith}
use Rattle.panel_resolving.specs.Lent.{lent_areas, lent_names, lent_placements}
use Rattle.panel_rules.specs.Calls.{shorter_store}
use Rattle.panel_resolving.proofs.Numbers.{unrefused, long_stores, few-written, run-refused, run-written}
use Rattle.panel_resolving.proofs.run.write_placements.Goals as goal

pub returns-in_err-check_numbers : goal.returns-in_err-check_numbers
returns-in_err-check_numbers c =
    let a = c.args in
    let fault = c.in_err-check_numbers.field-0.0 in
    let h : c.from_residual.result ≡ Err fault = search rules in
    rw h (run-refused a.grid (lent_names a.lent) (lent_areas a.lent) (lent_placements a.lent) a.first a.numbers.now fault (rw c.from-names.ensures at c.in_err-check_numbers.ensures))

pub numbers_count-count-requires : goal.numbers_count-count-requires
numbers_count-count-requires c = let a = c.args in le_of_lt (unrefused a.grid.placements (shorter_store (lent_names c.args.lent)) a.first (sym (rw c.from-names.ensures at c.in_ok-check_numbers.ensures)))

pub write_numbers-requires : goal.write_numbers-requires
write_numbers-requires c = let a = c.args in let e = c.numbers_count-count.ensures in
    let z = sym (rw c.from-names.ensures at c.in_ok-check_numbers.ensures) in
    record {
      count_bound = (few-written a.grid.placements a.first c.numbers_count-count.result (unrefused a.grid.placements (shorter_store (lent_names c.args.lent)) a.first z) e.0, e.1, omega (arith, e.2, c.write_numbers-arg-1.given.0.1));
      bound = (long_stores a.grid.placements (shorter_store (lent_names c.args.lent)) a.first z);
    }

pub returns : goal.returns
returns c = let a = c.args in
    rw c.from.ensures (run-written a.grid (lent_names a.lent) (lent_areas a.lent) (lent_placements a.lent) a.first a.numbers.now c.numbers_count-count.result _
    (sym (rw c.from-names.ensures at c.in_ok-check_numbers.ensures)) c.numbers_count-count.ensures.0 c.write_numbers.ensures)
