use Rattle.cell_placing.proofs.Turn.cursor_place.Goals as goal

pub returns-in-Sparse : goal.returns-in-Sparse
returns-in-Sparse c = rw c.in-Sparse.is c.rest_cursor.ensures
