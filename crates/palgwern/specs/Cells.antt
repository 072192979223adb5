-- `palgwern_place_cells`: a packing is a number, 0 sparse, 1 dense; any other is refused by 4, before all else.
use Rattle.std.specs.Prelude.{ℕ, ◌≡◌, cond, List, eqb, Option, Some, None, Result, Ok, Err}
use Rattle.coordinates.specs.Refusals.{number_of, count}
use Rattle.panel_tables.specs.declared.Grid.{Grid}
use Rattle.sheet_rules.specs.declared.LineFault.{LineFault}
use Rattle.panel_hits.specs.Settled.{Lent}
use Rattle.cell_placing.specs.declared.Packing.{Packing}
use Rattle.cell_placing.specs.declared.Packing.TheVariants.{Sparse, Dense}
use Rattle.panel_placing.specs.Cells.{CellsAnswered}
use Rattle.palgwern.specs.declared.cells.CellsAnswer.{CellsAnswer}

-- the packing of a number, where it has one
abbrev pub packing_in : ℕ → Option Packing
packing_in n = cond (eqb n 0) (Some Sparse) (cond (eqb n 1) (Some Dense) None)

-- how many cells were placed, or the number of the refusal, its line and 0
abbrev pub cells_numbers : Result ℕ LineFault → CellsAnswer
cells_numbers (Ok n) = record { number = 0; line = 0; count = n }
cells_numbers (Err told) = record { number = number_of told.fault; line = told.line; count = 0 }

-- what is answered, and what the lent words hold then: 4 for a number that is no packing, all as it was; else what placing answers and leaves
pub data CellsPlaced (g : Grid) (l : Lent) (packing : ℕ) (before after : List ℕ) (r : CellsAnswer) : Type 0 where
  no_packing : packing_in packing ≡ None → after ≡ before → r ≡ record { number = count; line = 0; count = 0 } → CellsPlaced g l packing before after r
  answered : (p : Packing) (placed : Result ℕ LineFault) → packing_in packing ≡ Some p → CellsAnswered g l p before after placed → r ≡ cells_numbers placed
      → CellsPlaced g l packing before after r
