use mathlib.Core.Path.{refl}
use Rattle.std.proofs.lemmas.Result.{err_from_is_err_and}
use Rattle.coordinates.proofs.Faults.{fault_some}
use Rattle.panel_positions.proofs.Answers.{walked_from, refused-older, refused-indefinite, accepted}
use Rattle.panel_positions.proofs.walk.sought_on.Goals as goal

pub returns-in_err-check_span : goal.returns-in_err-check_span
returns-in_err-check_span c =
    let a = c.args in
    let p = err_from_is_err_and c.from_residual.result c.from_residual.ensures.1 in
    rw (p.1, p.2) (refused-older a.lent.grid a.lent.tables.now a.lent.items.now a.span.low a.span.high _ _ c.in_err-check_span.ensures (fault_some _) refl)

pub returns-then-walk : goal.returns-then-walk
returns-then-walk c =
    let a = c.args in
    let s = walked_from a.lent.grid a.lent.tables.now a.lent.items.now a.span.low a.span.high _ _ c.walked-walk.result c.length_of.ensures c.length_of-2.ensures c.walked-walk.ensures in
    accepted a.lent.grid a.lent.tables.now a.lent.items.now a.span.low a.span.high c.walked-walk.result s _ c.in_ok-check_span.ensures refl c.if-walk.true

pub returns-else-walk : goal.returns-else-walk
returns-else-walk c =
    let a = c.args in
    let s = walked_from a.lent.grid a.lent.tables.now a.lent.items.now a.span.low a.span.high _ _ c.walked-walk.result c.length_of.ensures c.length_of-2.ensures c.walked-walk.ensures in
    refused-indefinite a.lent.grid a.lent.tables.now a.lent.items.now a.span.low a.span.high c.walked-walk.result s _ c.in_ok-check_span.ensures refl _ c.if-walk.false refl
