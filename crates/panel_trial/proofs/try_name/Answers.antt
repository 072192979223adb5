use Rattle.std.proofs.Common.{rules}
use Rattle.panel_trial.proofs.Copies.{after_read}
use Rattle.panel_trial.proofs.Trials.{trial-refused, trial-entered}
use Rattle.panel_trial.proofs.try_name.Goals as goal

pub returns-in-Err : goal.returns-in-Err
returns-in-Err c =
    let a = c.args in
    trial-refused a.panel a.lent.words.now a.lent.bytes.now a.lent.columnstore.now a.lent.rowstore.now a.trial a.name.now _ _ _ _ c.copy_reached-columnbytes.ensures c.copy_reached-rowbytes.ensures
    c.enter_in_place.result _ _ _ _ c.enter_in_place.ensures.rowstore_after c.in-Err.fault c.in-Err.is _

pub returns : goal.returns
returns c =
    let a = c.args in
    trial-entered a.panel a.lent.words.now a.lent.bytes.now a.lent.columnstore.now a.lent.rowstore.now a.trial a.name.now _ _ _ _ c.copy_reached-columnbytes.ensures c.copy_reached-rowbytes.ensures
    c.enter_in_place.result _ _ _ _ c.enter_in_place.ensures.rowstore_after c.in_default.is c.enter_in_place.ensures.others _ _
    (after_read a.lent.columnstore.now _ _ _ c.copy_reached-columnbytes.ensures (search rules)) (after_read a.lent.rowstore.now _ _ _ c.copy_reached-rowbytes.ensures (search rules)) _ _ _ c.answer_panel.ensures
