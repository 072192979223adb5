use lib.ListN.{length}
use Rattle.cell_placing.specs.Steps.{RowCursor}
use Rattle.cell_placing.proofs.Turn.row_cursor.Given as goal

abbrev pub invariant-loop-item : goal.invariant-loop-item
invariant-loop-item l = RowCursor l.self.cells.items.now l.self.placed.now (length l.yielded) l.row l.column
