use lib.ListN.{length}
use mathlib.Core.Path.{refl}
use Rattle.cell_placing.proofs.Lands.{area-found, area-nowhere}
use Rattle.cell_placing.proofs.Turn.free_area.Goals as goal

pub returns-in_err-place : goal.returns-in_err-place
returns-in_err-place c = let a = c.args in rw c.from_residual.ensures (area-nowhere a.self.placed.now (length a.self.placed.now) a.self.cells.last a.size a.from _ (rw c.from.ensures at (rw c.in_err-place.was at c.free_place.ensures)) refl)

pub returns : goal.returns
returns c = let a = c.args in let f = rw c.from.ensures at (rw c.in_ok-place.was at c.free_place.ensures) in area-found a.self.placed.now (length a.self.placed.now) a.self.cells.last a.size a.from _ c.if-size-eq0.false c.if-size-eq0-2.false f.1 f.0
