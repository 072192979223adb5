use Prim.Native.Nat.{ℕ}
use lib.ListN.{length}
use mathlib.Core.Path.{sym, ap, ◌∙◌}
use Rattle.cell_placing.proofs.Lands.{along-found, along-nowhere}
use Rattle.cell_placing.specs.Steps.{is_on}
use Rattle.cell_placing.proofs.Turn.along_land.Goals as goal

pub returns-in_err-line : goal.returns-in_err-line
returns-in_err-line c = let a = c.args in rw c.from_residual.ensures (along-nowhere a.self.placed.now (length a.self.placed.now) a.self.cells.last a.from a.tracks a.across a.axis (rw c.last_on.ensures at (rw c.in_err-line.was at c.free_line.ensures)))

pub returns : goal.returns
returns c = let a = c.args in let f = rw c.last_on.ensures at (rw c.in_ok-line.was at c.free_line.ensures) in rw c.along.ensures (along-found a.self.placed.now (length a.self.placed.now) a.self.cells.last a.from a.tracks a.across a.axis _ c.if-tracks-eq0.false (sym (ap (λ (n : ℕ). is_on n a.across) c.last_across.ensures) ∙ sym c.is_on.ensures ∙ c.if-not-is_on.false) f.1 f.0)
