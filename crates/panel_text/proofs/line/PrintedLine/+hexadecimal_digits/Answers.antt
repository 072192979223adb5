use Rattle.panel_text.proofs.Hexadecimals.{add_none, add_next}
use Rattle.panel_text.proofs.line.PrintedLine.+hexadecimal_digits.Goals as goal

pub returns-then-count-eq0 : goal.returns-then-count-eq0
returns-then-count-eq0 t c = add_none _ _ _ c.if-count-eq0.true

pub returns : goal.returns
returns t c = add_next _ _ c.if-count-eq0.false c.digit.ensures c.hexadecimal_digits.ensures c.byte.ensures
