use mathlib.Core.Path.{◌≡◌, refl, sym}
use native.Mathlib.Omega.{arith}
use Rattle.std.proofs.Common.{rules}
use Rattle.std.specs.Prelude.{Err}
use Rattle.panel_tables.specs.Axes.{grid_in}
use Rattle.panel_names.specs.Lent.{lent_tables}
use Rattle.panel_rules.specs.Calls.{words_in, store_in, shorter_store, entry_words_in}
use Rattle.name_lists.proofs.Fitting.{listed-answered}
use Rattle.library_names.specs.Lists.{lists_refusal}
use Rattle.library_names.proofs.Listing.{words_long, shorter_fits, lists-asked, lists-refused, lists-written}
use Rattle.library_names.proofs.write_lists.Goals as goal

pub returns-in_err-check_lists : goal.returns-in_err-check_lists
returns-in_err-check_lists c =
    let a = c.args in let t = lent_tables a.lent in
    let fault = c.in_err-check_lists.field-0.0 in
    let h : c.from_residual.result ≡ Err fault = search rules in
    rw h (lists-refused (grid_in a.grid a.axis) (words_in t a.axis) (store_in t a.axis) (shorter_store t) a.out.now _ refl fault (rw c.grid_in-explicit.ensures at c.in_err-check_lists.ensures))

pub returns : goal.returns
returns c =
    let a = c.args in let t = lent_tables a.lent in
    let s = grid_in a.grid a.axis in
    let e : c.names.result.entries.now ≡ entry_words_in s (words_in t a.axis) = c.names.ensures.entries in
    let z : lists_refusal s.size.explicit (shorter_store t) ≡ 0 = sym (rw c.grid_in-explicit.ensures at c.in_ok-check_lists.ensures) in
    let asked = lists-asked s (words_in t a.axis) (store_in t a.axis) (shorter_store t) a.out.now c.names.result.entries.now e z (words_long a.axis a.lent.words.now) in
    lists-written s (words_in t a.axis) (store_in t a.axis) (shorter_store t) a.out.now c.names.result.entries.now e _ _ z
    (listed-answered s.size.explicit c.names.result.entries.now (store_in t a.axis) a.out.now _ c.detailed_line_names.result asked.0 asked.1.0 (omega (arith, asked, shorter_fits t a.axis))
    (rw (c.grid_in-explicit.ensures, c.names.ensures.store) at c.detailed_line_names.ensures))
