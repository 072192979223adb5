use Rattle.std.proofs.Common.{◌+◌, arith, refl}
use Rattle.std.proofs.lemmas.Result.{err_from_is_err_and}
use Rattle.coordinates.proofs.Faults.{fault_some}
use Rattle.panel_history.proofs.Turns.{enter-none, enter-missing, enter-refused, enter-next}
use Rattle.panel_history.proofs.replay.enter_lines.Goals as goal

pub returns-in_default : goal.returns-in_default
returns-in_default c = let l = c.loop-number in enter-missing _ _ _ _ _ _ l.invariant.1 c.loop-number-test.true _ c.find_line.ensures c.in_default.is

pub returns-in_err-enter : goal.returns-in_err-enter
returns-in_err-enter c = let l = c.loop-number in
    let p = err_from_is_err_and c.from_residual.result c.from_residual.ensures.1 in
    rw (p.1, p.2)
    (enter-refused _ _ _ _ _ _ l.invariant.1 c.loop-number-test.true _ c.find_line.ensures _ c.in-Some.is _ c.part_at.ensures _ _ c.in_err-enter.ensures (fault_some c.in_err-enter.field-0.0))

pub loop-number-preserved : goal.loop-number-preserved
loop-number-preserved c = let l = c.loop-number in (
  omega arith,
  enter-next _ _ _ _ _ _ l.invariant.1 c.loop-number-test.true _ c.find_line.ensures _ c.in-Some.is _ c.part_at.ensures _ _ c.in_ok-enter.ensures refl,
)

pub returns : goal.returns
returns c = let l = c.loop-number in enter-none _ _ _ _ _ _ l.invariant.1 c.loop-number-test.false

pub returns-in_ok-enter : goal.returns-in_ok-enter
returns-in_ok-enter c = let l = c.loop-number in
    enter-none _ _ (l.number + 1) _ _ _
    (enter-next _ _ _ _ _ _ l.invariant.1 c.loop-number-test.true _ c.find_line.ensures _ c.in-Some.is _ c.part_at.ensures _ _ c.in_ok-enter.ensures refl)
    (omega arith)
