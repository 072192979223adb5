use mathlib.Core.Path.{refl}
use Rattle.std.proofs.Math.Nat.{min-eq_left}
use Rattle.std.proofs.lemmas.Result.{err_from_is_err_and}
use Rattle.coordinates.proofs.Faults.{fault_some}
use Rattle.panel_positions.proofs.Places.{handed_on}
use Rattle.panel_positions.proofs.Answers.{nearest-refused, counts-small, place-small, nearest-found}
use Rattle.panel_positions.proofs.walk.nearest_on.Goals as goal

pub returns-in_err-sought : goal.returns-in_err-sought
returns-in_err-sought c =
    let a = c.args in
    let p = err_from_is_err_and c.from_residual.result c.from_residual.ensures.1 in
    rw (p.1, p.2) (nearest-refused a.lent.grid a.lent.tables.now a.lent.items.now a.cursor _ (rw c.at.ensures at c.in_err-sought.ensures) (fault_some _))

pub grid_line_at-requires : goal.grid_line_at-requires
grid_line_at-requires c =
    let a = c.args in
    place-small a.lent.grid a.lent.tables.now a.lent.items.now a.cursor _ (rw c.at.ensures at c.in_ok-sought.ensures) refl

pub returns : goal.returns
returns c =
    let a = c.args in
    let e = rw c.at.ensures at c.in_ok-sought.ensures in
    let small = counts-small a.lent.grid a.lent.tables.now a.lent.items.now a.cursor _ e refl in
    let place = place-small a.lent.grid a.lent.tables.now a.lent.items.now a.cursor _ e refl in
    let line = rw (c.axis_tracks.ensures, min-eq_left small.0, min-eq_left small.1) at c.grid_line_at.ensures in
    nearest-found a.lent.grid a.lent.tables.now a.lent.items.now a.cursor _ e _ refl
    (handed_on c.in_ok-sought.sought.nearest a.lent.grid.implicit.negative a.lent.grid.size.explicit c.grid_line_at.result place small.1 small.0 line)
