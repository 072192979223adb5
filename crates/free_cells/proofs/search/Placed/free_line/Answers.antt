use lib.ListN.{length}
use mathlib.Core.Path.{ap, ◌∙◌}
use native.Mathlib.Omega.{arith}
use Rattle.free_cells.specs.Steps.{end_along}
use Rattle.free_cells.proofs.Cells.{line-jumps, line-grows, line-nowhere}
use Rattle.free_cells.proofs.search.Placed.free_line.Goals as goal

pub loop-at-preserved : goal.loop-at-preserved
loop-at-preserved c = let a = c.args in let l = c.loop-at in let w = rw (c.along.ensures, c.tracks_from-lines.ensures) at (rw c.in-Some.is at c.in_way.ensures) in let g = line-grows a.self.words.now (length a.self.words.now) a.axis a.self.last a.from a.tracks a.across l.at _ w in let e = c.end_along-at.ensures ∙ ap (end_along a.axis) c.from.ensures in (omega (arith, e, g, l.invariant.0), omega (arith, e, g, l.invariant.1), rw e (line-jumps a.self.words.now (length a.self.words.now) a.axis a.self.last a.from a.tracks a.across l.at _ l.invariant.2 w))

pub returns : goal.returns
returns c = let a = c.args in let l = c.loop-at in line-nowhere a.self.words.now (length a.self.words.now) a.axis a.self.last a.from a.tracks a.across l.at l.invariant.2 (omega (arith, c.loop-at-test.false, c.if-self-tracks.false))
