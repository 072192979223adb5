use lib.ListN.{length}
use native.Mathlib.Omega.{arith}
use Rattle.free_cells.proofs.Places.{below-found, below-jumps, below-ends, below-nowhere}
use Rattle.free_cells.proofs.search.Placed.free_below.Goals as goal

pub returns-in-Some : goal.returns-in-Some
returns-in-Some c = let a = c.args in let l = c.loop-at in let f = rw c.in-Some.is at c.column_in_row.ensures in (λ e. omega (arith, e, l.invariant.0), below-found a.self.words.now (length a.self.words.now) a.self.last a.size a.row l.at _ l.invariant.0 l.invariant.1 f.1 f.0)

pub loop-at-preserved : goal.loop-at-preserved
loop-at-preserved c = let a = c.args in let l = c.loop-at in (omega (arith, (rw c.in_ok-at.was at c.next_end.ensures).past, l.invariant.0), below-jumps a.self.words.now (length a.self.words.now) a.self.last a.size a.row l.at _ l.invariant.0 l.invariant.1 (rw c.in_default.is at c.column_in_row.ensures) (rw c.in_ok-at.was at c.next_end.ensures))

pub returns-in_err-at : goal.returns-in_err-at
returns-in_err-at c = let a = c.args in let l = c.loop-at in rw c.from_residual.ensures (below-ends a.self.words.now (length a.self.words.now) a.self.last a.size a.row l.at l.invariant.0 c.loop-at-test.true l.invariant.1 (rw c.in_default.is at c.column_in_row.ensures) (rw c.in_err-at.was at c.next_end.ensures))

pub returns : goal.returns
returns c = let a = c.args in let l = c.loop-at in below-nowhere a.self.words.now (length a.self.words.now) a.self.last a.size a.row l.at l.invariant.1 (omega (arith, c.loop-at-test.false))
