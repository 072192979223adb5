use Rattle.std.proofs.lemmas.Result.{err_from_is_err_and}
use Rattle.panel_positions.proofs.Answers.{lines-sought}
use Rattle.panel_positions.proofs.walk.lines_on.Goals as goal

pub returns-in_err-sought : goal.returns-in_err-sought
returns-in_err-sought c =
    let a = c.args in
    let p = err_from_is_err_and c.from_residual.result c.from_residual.ensures.1 in
    rw (p.1, p.2) (lines-sought a.lent.grid a.lent.tables.now a.lent.items.now a.span.low a.span.high _ c.in_err-sought.ensures)

pub returns : goal.returns
returns c = let a = c.args in lines-sought a.lent.grid a.lent.tables.now a.lent.items.now a.span.low a.span.high _ c.in_ok-sought.ensures
