use native.Mathlib.Omega.{arith}
use Rattle.free_cells.specs.Words.{rectangle_word}
use Rattle.free_cells.proofs.Cells.{lines-small}
use Rattle.free_cells.proofs.word.U64FromRectangle.from.Goals as goal

pub overflow_mul-result : goal.overflow_mul-result
overflow_mul-result c = omega (arith, lines-small c.args.rectangle.rows _ c.lines_word-high.ensures)

pub overflow_add-result : goal.overflow_add-result
overflow_add-result c = omega (arith, lines-small c.args.rectangle.columns _ c.lines_word-low.ensures, lines-small c.args.rectangle.rows _ c.lines_word-high.ensures)

pub returns : goal.returns
unfolding rectangle_word
returns c = rw (← c.lines_word-low.ensures, ← c.lines_word-high.ensures)
