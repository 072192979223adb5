use lib.ListN.{length}
use native.Mathlib.Omega.{arith}
use Rattle.free_cells.proofs.Places.{row_first}
use Rattle.free_cells.proofs.search.Placed.column_in_row.Goals as goal

pub returns : goal.returns
returns c = let a = c.args in row_first a.self.words.now (length a.self.words.now) a.self.last a.size a.from _ (omega (arith, c.if-row-eq0.false)) (omega (arith, c.if-row-size.false, c.if-row-gt-LAST_ROW_LINE.false)) (rw c.tracks_from-across.ensures at c.free_line.ensures)
