use mathlib.Core.Path.{sym, ◌∙◌}
use Rattle.palgwern.specs.Cells.{answered}
use Rattle.palgwern.proofs.cells.palgwern_place_cells.Goals as goal

pub returns : goal.returns
returns c = answered c.in-Some.packing c.place_cells.result (sym c.packing_in.ensures ∙ c.in-Some.is) c.place_cells.ensures c.from-2.ensures
