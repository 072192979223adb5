-- The types of settled placements that have a name of their own beside their generic one.
use Rattle.std.specs.Prelude.{ℤ}
use Rattle.coordinates.specs.declared.line.GenericGridPlacement.{GenericGridPlacement}
use Rattle.coordinates.specs.declared.line.Line.{Line}

-- an end of a settled placement, and both ends
abbrev pub SettledEnd : Type 0
SettledEnd = GenericGridPlacement ℤ ℤ

abbrev pub Ends : Type 0
Ends = Line SettledEnd
