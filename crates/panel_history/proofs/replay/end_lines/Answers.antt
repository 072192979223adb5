use Rattle.std.proofs.Common.{refl, ◌∙◌}
use Rattle.std.proofs.lemmas.Result.{err_from_is_err_and}
use Rattle.coordinates.proofs.Faults.{fault_some}
use Rattle.panel_history.proofs.Turns.{end-refused, end-next}
use Rattle.panel_history.proofs.replay.end_lines.Goals as goal

pub returns-in_err-end_panel : goal.returns-in_err-end_panel
returns-in_err-end_panel c =
    let p = err_from_is_err_and c.from_residual.result c.from_residual.ensures.1 in
    rw (p.1, p.2) (end-refused _ _ _ _ _ c.in_err-end_panel.ensures (fault_some c.in_err-end_panel.field-0.0))

pub returns : goal.returns
returns c = c.enter_lines.ensures ∙ end-next _ _ _ _ _ c.in_ok-end_panel.ensures refl
