-- An end of a placement without a name, as numbers: its kind, 0 `auto`, 1 `line`, 3 `span`, and its line or its span.
use Rattle.std.specs.Prelude.{ℕ, ℤ, pos}
use Rattle.coordinates.specs.declared.line.GenericGridPlacement.{GenericGridPlacement}
use Rattle.coordinates.specs.declared.line.GenericGridPlacement.TheVariants.{Auto, Line, Span}
use Rattle.coordinates.specs.declared.line.GridLine.{GridLine}

abbrev pub end_kind : GenericGridPlacement GridLine ℕ → ℕ
end_kind Auto = 0
end_kind (Line g) = 1
end_kind (Span k) = 3

abbrev pub end_number : GenericGridPlacement GridLine ℕ → ℤ
end_number Auto = pos 0
end_number (Line g) = g.0
end_number (Span k) = pos k
