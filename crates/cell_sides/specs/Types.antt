-- The type of a cell's end, which has a name of its own beside its generic one, and a side by its two lines.
use Rattle.std.specs.Prelude.{ℕ}
use Rattle.cell_sides.specs.declared.Side.{Side}
use Rattle.cell_sides.specs.declared.Side.TheVariants.{Fixed}
use Rattle.coordinates.specs.declared.line.GenericGridPlacement.{GenericGridPlacement}

-- no line, a line by its number, or so many tracks
abbrev pub CellEnd : Type 0
CellEnd = GenericGridPlacement ℕ ℕ

-- from a line to a line
abbrev pub fixed : ℕ → ℕ → Side
fixed a b = Fixed (record { start = a; end = b })
