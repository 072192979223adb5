use Rattle.edit_rules.proofs.Bases.{base_fits}
use Rattle.panel_history.proofs.Replays.{steps-unmade, steps-asked}
use Rattle.panel_history.proofs.recalling.replay_steps.Goals as goal

pub returns : goal.returns
returns c sheet same = rw c.ok.ensures.value (steps-asked _ (base_fits sheet) _ _ _ same _ _ c.in_ok-apply_lines.ensures _ _ c.end_lines.ensures)

pub returns-in_err-apply_lines : goal.returns-in_err-apply_lines
returns-in_err-apply_lines c sheet same = rw c.from_residual.ensures (steps-unmade _ (base_fits sheet) _ _ _ same _ c.in_err-apply_lines.ensures)
