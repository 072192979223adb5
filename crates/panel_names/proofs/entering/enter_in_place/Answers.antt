use Rattle.panel_names.proofs.Entered.{refusal_is, refused, made, roomy}
use Rattle.panel_rules.specs.Calls.{name_tables_in}
use Rattle.std.specs.Prelude.{Err}
use Rattle.std.proofs.Common.{rules, ◌≡◌}
use mathlib.Core.Path.{sym, ◌∙◌}
use Rattle.panel_names.proofs.entering.enter_in_place.Goals as goal

pub returns-in_err-check_entry-clause-rowstore_after : goal.returns-in_err-check_entry-clause-rowstore_after
returns-in_err-check_entry-clause-rowstore_after c =
    let a = c.args in
    let t = name_tables_in a.words.now a.columnstore.now a.rowstore.now in
    let fault = c.in_err-check_entry.field-0.0 in
    let h : c.from_residual.result ≡ Err fault = search rules in
    rw h (refused a.panel.now t a.line a.name.now a.axis fault (refusal_is a.panel.now t a.line a.name.now a.axis c.state_in-state.result c.min-shorter.result _ c.state_in-state.ensures c.min-shorter.ensures c.in_err-check_entry.ensures))

pub enter_in-requires : goal.enter_in-requires
enter_in-requires c = let a = c.args in let t = name_tables_in a.words.now a.columnstore.now a.rowstore.now in
    roomy a.panel.now t a.line a.name.now a.axis (sym (refusal_is a.panel.now t a.line a.name.now a.axis c.state_in-state.result c.min-shorter.result _ c.state_in-state.ensures c.min-shorter.ensures c.in_ok-check_entry.ensures))

pub returns-clause-rowstore_after : goal.returns-clause-rowstore_after
returns-clause-rowstore_after c = let a = c.args in let t = name_tables_in a.words.now a.columnstore.now a.rowstore.now in
    c.enter_in.ensures.rowstore_after ∙ made a.panel.now t a.line a.name.now a.axis (sym (refusal_is a.panel.now t a.line a.name.now a.axis c.state_in-state.result c.min-shorter.result _ c.state_in-state.ensures c.min-shorter.ensures c.in_ok-check_entry.ensures))
