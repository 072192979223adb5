-- The types of layer 1 that have a name of their own beside their generic one.
use Rattle.std.specs.Prelude.{ℕ}
use Rattle.coordinates.specs.declared.line.Line.{Line}
use Rattle.coordinates.specs.declared.line.Marked.{Marked}
use Rattle.coordinates.specs.declared.line.OriginZeroLine.{OriginZeroLine}

-- two lines of an axis
abbrev pub LinePair : Type 0
LinePair = Line ℕ

-- an origin-zero line and its mark
abbrev pub MarkedLine : Type 0
MarkedLine = Marked OriginZeroLine
