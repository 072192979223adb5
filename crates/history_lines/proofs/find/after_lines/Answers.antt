use Rattle.std.proofs.Common.{arith, sym, ap, ◌∙◌, ◌≡◌, ◌+◌, ◌-◌}
use Rattle.history_lines.specs.Found.{after_lines}
use Rattle.history_lines.proofs.Steps.{no_line_lem, next-line, no_more_lines}
use Rattle.history_lines.proofs.find.after_lines.Goals as goal

pub loop-number-init : goal.loop-number-init
loop-number-init c =
    let k : c.args.count ≡ c.args.count + 1 - 1 = omega arith in
    (omega arith, ap (λ n. after_lines n 1 c.args.s.now 0) k)

pub returns-in_err-at : goal.returns-in_err-at
returns-in_err-at c = let l = c.loop-number in
    c.from_residual.ensures ∙ sym (l.invariant.1 ∙ no_line_lem _ _ _ _ _ c.find_line.ensures c.loop-number-test.true c.in_err-at.was)

pub loop-number-preserved : goal.loop-number-preserved
loop-number-preserved c = let l = c.loop-number in
    (omega arith, l.invariant.1 ∙ next-line _ _ _ _ _ c.find_line.ensures _ c.loop-number-test.true c.in_ok-at.was)

pub returns : goal.returns
returns c = let l = c.loop-number in sym (l.invariant.1 ∙ no_more_lines _ _ _ _ c.loop-number-test.false)

pub returns-in_ok-at : goal.returns-in_ok-at
returns-in_ok-at c = let l = c.loop-number in
    sym (l.invariant.1 ∙ next-line _ _ _ _ _ c.find_line.ensures _ c.loop-number-test.true c.in_ok-at.was ∙ no_more_lines _ _ (l.number + 1) _ (omega arith))
