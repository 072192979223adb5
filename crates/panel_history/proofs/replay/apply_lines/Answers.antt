use Rattle.std.proofs.Common.{◌+◌, rules, arith, sym, ◌∙◌}
use Rattle.panel_history.proofs.Turns.{apply-none, apply-missing, apply-refused, apply-next}
use Rattle.panel_history.proofs.replay.apply_lines.Goals as goal

pub returns-in_err-line : goal.returns-in_err-line
returns-in_err-line c = let l = c.loop-number in
    rw c.from_residual.ensures (apply-missing _ _ _ _ _ _ l.invariant.1 (search rules) _ c.find_line.ensures c.in_err-line.was)

pub returns-in_err-ok : goal.returns-in_err-ok
returns-in_err-ok c = let l = c.loop-number in
    rw c.from_residual-in_err-ok.ensures
    (apply-refused _ _ _ _ _ _ l.invariant.1 c.loop-number-test.true _ c.find_line.ensures _ c.in_ok-line.was _ c.part_at.ensures c.apply.result _ c.apply.ensures (sym c.ok.ensures.value ∙ c.in_err-ok.was))

pub loop-number-preserved : goal.loop-number-preserved
loop-number-preserved c = let l = c.loop-number in (
  omega arith,
  apply-next _ _ _ _ _ _ l.invariant.1 c.loop-number-test.true _ c.find_line.ensures _ c.in_ok-line.was _ c.part_at.ensures c.apply.result _ c.apply.ensures _ (sym c.ok.ensures.value ∙ c.in_ok-ok.was),
)

pub returns : goal.returns
returns c = let l = c.loop-number in apply-none _ _ _ _ _ _ l.invariant.1 c.loop-number-test.false

pub returns-in_ok-ok : goal.returns-in_ok-ok
returns-in_ok-ok c = let l = c.loop-number in
    apply-none _ _ (l.number + 1) _ _ _
    (apply-next _ _ _ _ _ _ l.invariant.1 c.loop-number-test.true _ c.find_line.ensures _ c.in_ok-line.was _ c.part_at.ensures c.apply.result _ c.apply.ensures _ (sym c.ok.ensures.value ∙ c.in_ok-ok.was))
    (omega arith)
