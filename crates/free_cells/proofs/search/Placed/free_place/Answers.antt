use lib.ListN.{length}
use Rattle.free_cells.proofs.Places.{place_in_row, place_below}
use Rattle.free_cells.proofs.search.Placed.free_place.Goals as goal

pub returns-in-Some : goal.returns-in-Some
returns-in-Some c = let a = c.args in place_in_row a.self.words.now (length a.self.words.now) a.self.last a.size a.from _ (rw c.in-Some.is at c.column_in_row.ensures)

pub returns-in-None : goal.returns-in-None
returns-in-None c = let a = c.args in place_below a.self.words.now (length a.self.words.now) a.self.last a.size a.from _ (rw c.in-None.is at c.column_in_row.ensures) c.free_below.ensures
