use Rattle.std.proofs.lemmas.Result.{err_from_is_err_and}
use Rattle.panel_history.proofs.Calls.{draft-panel, recall-base, recall-short, recall-past, recall-none, recall-done}
use Rattle.panel_history.proofs.recalling.recall.Goals as goal

pub returns-in_err-draft_sheet : goal.returns-in_err-draft_sheet
returns-in_err-draft_sheet c =
    let p = err_from_is_err_and c.from_residual.result c.from_residual.ensures.1 in
    rw (p.1, p.2) (recall-base _ _ c.in_err-draft_sheet.ensures.answer _ _)

pub returns-in_err-check_stores : goal.returns-in_err-check_stores
returns-in_err-check_stores c =
    let p = err_from_is_err_and c.from_residual-in_err-check_stores.result c.from_residual-in_err-check_stores.ensures.1 in
    rw (p.1, p.2) (recall-short c.args.sheet.now c.in_ok-draft_sheet.ensures.answer _ _ _ _ _ _ _ _ c.in_err-check_stores.ensures)

pub returns-then-history-step : goal.returns-then-history-step
returns-then-history-step c = recall-past c.args.sheet.now c.in_ok-draft_sheet.ensures.answer _ _ _ _ _ _ _ c.in_ok-check_stores.ensures c.if-history-step.true

pub returns-in_default : goal.returns-in_default
returns-in_default c =
    let a = c.args in
    recall-none a.sheet.now c.in_ok-draft_sheet.ensures.answer _ _ _ _ _ _ _ c.in_ok-check_stores.ensures c.if-history-step.false (c.in_default.ensures a.sheet.now c.in_ok-draft_sheet.ensures.held)

pub returns : goal.returns
returns c =
    let a = c.args in
    recall-done a.sheet.now c.in_ok-draft_sheet.ensures.answer _ _ _ _ _ _ _ c.in_ok-check_stores.ensures c.if-history-step.false _ (c.in-Some.ensures a.sheet.now c.in_ok-draft_sheet.ensures.held) _ c.copy_out.ensures _ (draft-panel c.replay_steps.new.draft)
