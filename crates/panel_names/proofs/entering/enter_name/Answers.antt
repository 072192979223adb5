use Rattle.std.specs.Prelude.{Err}
use Rattle.std.proofs.Common.{rules, ◌≡◌}
use Rattle.panel_rules.specs.Calls.{name_tables_in}
use Rattle.panel_names.proofs.Entered.{kept}
use Rattle.panel_names.proofs.entering.enter_name.Goals as goal

pub returns-in_err-enter_in_place-clause-rowstore_after : goal.returns-in_err-enter_in_place-clause-rowstore_after
returns-in_err-enter_in_place-clause-rowstore_after c =
    let a = c.args in
    let fault = c.in_err-enter_in_place.field-0.0 in
    let h : c.from_residual.result ≡ Err fault = search rules in
    let k : c.enter_in_place.result ≡ Err fault = search rules in
    rw h (kept a.panel (name_tables_in a.words.now a.columnstore.now a.rowstore.now) a.line a.name.now a.axis fault c.enter_in_place.new.panel _ (rw k at c.enter_in_place.ensures.rowstore_after))
