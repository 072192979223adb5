use Rattle.std.proofs.lemmas.Result.{err_from_is_err_and}
use Rattle.edit_rules.proofs.Bases.{base_fits}
use Rattle.panel_history.proofs.Replays.{edit-unmade, edit-unapplied, edit-unended, edit-made}
use Rattle.panel_history.proofs.editing.replay_edit.Goals as goal

pub returns-in_default : goal.returns-in_default
returns-in_default c sheet same = edit-unmade _ (base_fits sheet) _ _ _ same _ _ c.in_default.ensures

pub returns-in_err-apply : goal.returns-in_err-apply
returns-in_err-apply c sheet same =
    let p = err_from_is_err_and c.from_residual.result c.from_residual.ensures.1 in
    rw (p.1, p.2) (edit-unapplied _ (base_fits sheet) _ _ _ same _ _ c.in-Some.ensures _ _ _ c.in_err-apply.ensures)

pub returns-in-Ok : goal.returns-in-Ok
returns-in-Ok c sheet same = edit-made _ (base_fits sheet) _ _ _ same _ _ c.in-Some.ensures _ _ c.in_ok-apply.ensures _ c.in-Ok.ensures

pub returns-in-Err : goal.returns-in-Err
returns-in-Err c sheet same = edit-unended _ (base_fits sheet) _ _ _ same _ _ c.in-Some.ensures _ _ c.in_ok-apply.ensures _ _ c.in-Err.ensures
