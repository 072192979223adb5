use lib.ListN.{length}
use Prim.Native.Nat.{◌+◌, ◌*◌}
use Rattle.cell_placing.specs.Items.{group_number}
use Rattle.cell_placing.specs.Steps.{Going}
use Rattle.cell_placing.proofs.pass.place_group.Given as goal

abbrev pub invariant-loop-i : goal.invariant-loop-i
invariant-loop-i l = Going l.cells.packing l.cells.last (length l.cells.items.now) l.cells.items.now l.placed (group_number l.group * 256 + l.i)
