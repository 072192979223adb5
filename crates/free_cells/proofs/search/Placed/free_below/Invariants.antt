use Prim.Native.Nat.{◌+◌, ◌-◌, ◌≤◌}
use lib.ListN.{length}
use Rattle.free_cells.proofs.Places.{NoneAbove}
use Rattle.free_cells.proofs.search.Placed.free_below.Given as goal

abbrev pub invariant-loop-at : goal.invariant-loop-at
invariant-loop-at l = (l.row + 1 ≤ l.at) × NoneAbove l.self.words.now (length l.self.words.now) l.self.last l.size l.row l.at

abbrev pub decreases-loop-at : goal.decreases-loop-at
decreases-loop-at l = 10002 - l.at
