use Rattle.std.proofs.Common.{arith, refl}
use Rattle.std.proofs.lemmas.Result.{err_from_is_err_and}
use Rattle.panel_history.proofs.Calls.{draft-panel, edit-base, edit-asked, edit-step, edit-short, edit-full, edit-done}
use Rattle.panel_history.proofs.editing.edit.Goals as goal

pub returns-in_err-draft_sheet : goal.returns-in_err-draft_sheet
returns-in_err-draft_sheet c =
    let p = err_from_is_err_and c.from_residual.result c.from_residual.ensures.1 in
    rw (p.1, p.2) (edit-base _ _ c.in_err-draft_sheet.ensures.answer _ _)

pub returns-in_err-place : goal.returns-in_err-place
returns-in_err-place c =
    let a = c.args in
    let p = err_from_is_err_and c.from_residual-in_err-place.result c.from_residual-in_err-place.ensures.1 in
    rw (p.1, p.2) (edit-asked a.sheet.now c.in_ok-draft_sheet.ensures.answer _ _ _ (c.in_err-place.ensures a.sheet.now c.in_ok-draft_sheet.ensures.held))

pub returns-in_err-check_stores : goal.returns-in_err-check_stores
returns-in_err-check_stores c =
    let a = c.args in
    let p = err_from_is_err_and c.from_residual-in_err-check_stores.result c.from_residual-in_err-check_stores.ensures.1 in
    rw (p.1, p.2)
    (edit-short a.sheet.now c.in_ok-draft_sheet.ensures.answer _ _ _ _ _ _ _ _ _ (c.in_ok-place.ensures a.sheet.now c.in_ok-draft_sheet.ensures.held) _ c.in_err-check_stores.ensures)

pub overflow_add-number : goal.overflow_add-number
overflow_add-number c =
    let a = c.args in
    omega (arith, edit-step a.sheet.now c.in_ok-draft_sheet.ensures.answer a.text.now a.history a.words.now a.bytes.now a.columnstore.now a.rowstore.now a.lines.now c.in_ok-place.place _ (c.in_ok-place.ensures a.sheet.now c.in_ok-draft_sheet.ensures.held))

pub returns-in_default : goal.returns-in_default
returns-in_default c =
    let a = c.args in
    edit-full a.sheet.now c.in_ok-draft_sheet.ensures.answer _ _ _ _ _ _ _ _ _ (c.in_ok-place.ensures a.sheet.now c.in_ok-draft_sheet.ensures.held) c.in_ok-check_stores.ensures _ refl _ c.write.ensures.answer c.in_default.is _ c.write.ensures.bytes

pub returns : goal.returns
returns c =
    let a = c.args in
    edit-done a.sheet.now c.in_ok-draft_sheet.ensures.answer _ _ _ _ _ _ _ _ _ (c.in_ok-place.ensures a.sheet.now c.in_ok-draft_sheet.ensures.held) c.in_ok-check_stores.ensures _ refl _ c.write.ensures.answer _ c.in-Some.is _ c.copy_out.ensures _ c.write.ensures.bytes _ (draft-panel c.replay_edit.new.draft)
