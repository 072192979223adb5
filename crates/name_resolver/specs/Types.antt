-- The types of the resolver that have a name of their own beside their generic one.
use Rattle.std.specs.Prelude.{ℕ, Bool}
use Rattle.coordinates.specs.declared.line.GenericGridPlacement.{GenericGridPlacement}
use Rattle.coordinates.specs.declared.line.GridLine.{GridLine}
use Rattle.coordinates.specs.declared.line.Line.{Line}
use Rattle.coordinates.specs.declared.line.Marked.{Marked}
use Rattle.name_resolver.specs.declared.GridPlacement.{GridPlacement}

-- a placement in one axis, as written
abbrev pub WrittenLine : Type 0
WrittenLine = Line GridPlacement

-- one end of a placement with its names resolved, that end with its mark, and both ends
abbrev pub NonNamedGridPlacement : Type 0
NonNamedGridPlacement = GenericGridPlacement GridLine ℕ

abbrev pub ResolvedEnd : Type 0
ResolvedEnd = Marked NonNamedGridPlacement

abbrev pub ResolvedLine : Type 0
ResolvedLine = Line NonNamedGridPlacement

-- the marks of both ends
abbrev pub HeldEnds : Type 0
HeldEnds = Line Bool
