use Prim.Native.Nat.{◌+◌, ◌-◌, ◌≤◌}
use lib.ListN.{length}
use Rattle.free_cells.proofs.Cells.{NoneBefore}
use Rattle.free_cells.proofs.search.Placed.free_line.Given as goal

abbrev pub invariant-loop-at : goal.invariant-loop-at
invariant-loop-at l = (1 ≤ l.at) × (l.from ≤ l.at) × NoneBefore l.self.words.now (length l.self.words.now) l.axis l.self.last l.from l.tracks l.across l.at

abbrev pub decreases-loop-at : goal.decreases-loop-at
decreases-loop-at l = l.most + 1 - l.at
