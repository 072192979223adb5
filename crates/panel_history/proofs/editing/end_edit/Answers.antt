use Rattle.std.proofs.Common.{refl, ◌∙◌}
use Rattle.std.proofs.lemmas.Result.{err_from_is_err_and}
use Rattle.coordinates.proofs.Faults.{fault_some}
use Rattle.panel_history.proofs.Turns.{past-refused, past-next}
use Rattle.panel_history.proofs.editing.end_edit.Goals as goal

pub returns-in_err-end_lines : goal.returns-in_err-end_lines
returns-in_err-end_lines c =
    let p = err_from_is_err_and c.from_residual.result c.from_residual.ensures.1 in
    rw (p.1, p.2) (past-refused _ _ _ _ _ _ c.in_err-end_lines.ensures (fault_some c.in_err-end_lines.field-0.0))

pub returns : goal.returns
returns c = c.enter.ensures ∙ past-next _ _ _ _ _ _ c.in_ok-end_lines.ensures refl
