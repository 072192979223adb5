use mathlib.Core.Path.{sym, ap, ◌∙◌}
use borrow.Author.Tests.{ltb-true, ltb-false}
use lib.ListN.{length}
use Rattle.std.specs.Prelude.{Option}
use Rattle.std.specs.Option.{unwrap_or}
use Rattle.coordinates.specs.Axes.{axis_of}
use Rattle.name_entries.specs.declared.NameEntry.{NameEntry}
use Rattle.name_entries.specs.LineEntries.{no_entry}
use Rattle.std.proofs.lemmas.Result.{err_from_is_err_and}
use Rattle.panel_rules.specs.Calls.{NameTables, shorter_store, short_names, store_in}
use Rattle.panel_resolving.proofs.Placed.{short-told, long-told}
use Rattle.panel_names.specs.Lent.{lent_tables}
use Rattle.panel_names.proofs.LineEntries.{shown-entry}
use Rattle.palgwern.proofs.Parts.{shows-none, shows-short, shows-name}
use Rattle.palgwern.proofs.place_name.Goals as goal

pub returns-in_err-axis : goal.returns-in_err-axis
returns-in_err-axis c =
    let a = c.args in
    let p = err_from_is_err_and c.from_residual.result c.from_residual.ensures.1 in
    rw (p.1, p.2, c.in_err-axis.ensures.1) (shows-none a.grid (lent_tables a.lent) a.axis a.line a.place c.in_err-axis.ensures.0)

pub returns-in_err-check_stores : goal.returns-in_err-check_stores
returns-in_err-check_stores c =
    let a = c.args in
    let t = lent_tables a.lent in
    let p = err_from_is_err_and c.from_residual-in_err-check_stores.result c.from_residual-in_err-check_stores.ensures.1 in
    let told = short-told (short_names t) c.in_err-check_stores.field-0.0 c.in_err-check_stores.ensures in
    rw (p.1, p.2, told.1) (shows-short a.grid t a.axis a.line a.place c.in_ok-axis.ensures.0 (ltb-true (shorter_store t) 32768 (sym told.0)))

pub returns : goal.returns
returns c =
    let a = c.args in
    let t : NameTables = lent_tables a.lent in
    let same = c.in_ok-axis.ensures.1 in
    shows-name a.grid t a.axis a.line a.place
    _ (unwrap_or c.line_entry-entry.result no_entry) c.name_part.result c.in_ok-axis.ensures.0
    (ltb-false (shorter_store t) 32768 (sym (long-told (short_names t) c.in_ok-check_stores.ensures)))
    (ap length (c.store.ensures ∙ ap (store_in t) same))
    (ap (λ (e : Option NameEntry). unwrap_or e no_entry) c.line_entry-entry.ensures ∙ rw same (shown-entry a.grid t (axis_of a.axis) a.line a.place)) c.name_part.ensures
