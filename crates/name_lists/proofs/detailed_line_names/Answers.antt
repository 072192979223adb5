use mathlib.Core.Path.{◌≡◌, sym}
use lib.ListN.{length}
use borrow.Author.Rules.{rules}
use Rattle.std.specs.Prelude.{Err}
use Rattle.name_lists.proofs.Fitting.{unrefused, listed-refused, listed-written}
use Rattle.name_lists.proofs.detailed_line_names.Goals as goal

pub returns-in_err-check_lists : goal.returns-in_err-check_lists
returns-in_err-check_lists c =
    let a = c.args in
    let fault = c.in_err-check_lists.field-0.0 in
    let h : c.from_residual.result ≡ Err fault = search rules in
    rw h (listed-refused a.explicit a.names.entries.now a.names.store.now a.words.now a.words.now fault c.in_err-check_lists.ensures)

pub invariant_of-write_lists : goal.invariant_of-write_lists
invariant_of-write_lists c =
    let a = c.args in
    let u = unrefused a.explicit (length a.names.entries.now) (length a.names.store.now) (sym c.in_ok-check_lists.ensures) in
    record { few_tracks = u.0; few_entries = u.1.0 }

pub returns : goal.returns
returns c =
    let a = c.args in
    listed-written a.explicit a.names.entries.now a.names.store.now a.words.now _ c.write_lists.result (sym c.in_ok-check_lists.ensures) c.write_lists.ensures
