-- `resolve_placement`: a placement of the table as layer 4 reads it, and the answer (document 01, layer 4).
use Rattle.std.specs.Prelude.{ℕ, zero, suc, min, Bool, false, cond, eqb, ltb, ℤ, pos, negsuc, Result, Ok, Err}
use Rattle.coordinates.specs.declared.axis.Axis.{Axis}
use Rattle.coordinates.specs.declared.axis.Axis.TheVariants.{Column}
use Rattle.coordinates.specs.declared.refusal.Fault.{Fault}
use Rattle.coordinates.specs.Refusals.{Refusal, no_refusal, refusal_of, number_of, count, short}
use Rattle.name_resolver.specs.declared.Name.{Name}
use Rattle.name_resolver.specs.declared.GridPlacement.{GridPlacement}
use Rattle.name_resolver.specs.declared.GridPlacement.TheVariants.{Auto, Line as AtLine, NamedLine, Span, NamedSpan}
use Rattle.name_resolver.specs.Types.{WrittenLine, ResolvedLine, HeldEnds}
use Rattle.name_resolver.specs.Placements.{Resolution}
use Rattle.name_resolver.specs.Placements.{grid_line_of, zero_line, no_marks, resolution_of}
use Rattle.panel_tables.specs.declared.Grid.{Grid}
use Rattle.panel_tables.specs.declared.EndPlace.{EndPlace}
use Rattle.panel_tables.specs.declared.PlacementPlace.{PlacementPlace}
use Rattle.panel_tables.specs.Placements.{placement_at}
use Rattle.panel_rules.specs.declared.PlacedLine.{PlacedLine}
use Rattle.panel_rules.specs.Calls.{NameTables, NamedWords, names_in, short_names}

-- a line index is -32,768 to 32,767, a span 0 to 65,535; what no sheet gives is held
abbrev pub held_index : ℤ → ℤ
held_index (pos n) = pos (min n 32767)
held_index (negsuc k) = negsuc (min k 32767)

abbrev pub held_span : ℤ → ℕ
held_span (pos n) = min n 65535
held_span (negsuc k) = 0

abbrev pub name_at : EndPlace → Name
name_at e = record { offset = e.offset; length = e.length }

-- kinds `auto line named span nspan` are 0 to 4; what is none of them is read as `auto`
abbrev pub end_by : ℕ → EndPlace → GridPlacement
end_by zero e = Auto
end_by (suc zero) e = AtLine (grid_line_of (held_index e.end.number))
end_by (suc (suc zero)) e = NamedLine (name_at e) (held_index e.end.number)
end_by (suc (suc (suc zero))) e = Span (held_span e.end.number)
end_by (suc (suc (suc (suc zero)))) e = NamedSpan (name_at e) (held_span e.end.number)
end_by (suc (suc (suc (suc (suc k))))) e = Auto

abbrev pub end_placement : EndPlace → GridPlacement
end_placement e = end_by e.end.kind e

abbrev pub line_placement : PlacementPlace → WrittenLine
line_placement p = record { start = end_placement p.start; end = end_placement p.end }

-- a resolved placement with its axis, whether it is a cell's half, and the marks of its ends, or a refusal and zeros
pub record PlacementAnswer : Type 0 where
  pub refusal : Refusal
  pub axis : Axis
  pub cell : Bool
  pub line : ResolvedLine
  pub held : HeldEnds

-- a refused answer: its number, line 0 and zeros
abbrev pub refused_placement : ℕ → PlacementAnswer
refused_placement n = record { refusal = refusal_of n; axis = Column; cell = false; line = zero_line; held = no_marks }

-- the numbers and values of what a call answers
abbrev pub answered_placement : Result PlacedLine Fault → PlacementAnswer
answered_placement (Ok p) = record { refusal = no_refusal; axis = p.axis; cell = p.cell; line = p.placed.line; held = p.placed.held }
answered_placement (Err fault) = refused_placement (number_of fault)

-- the answer of the resolver, for the placement's axis and whether it is a cell's half; 10 comes after every other number
abbrev pub placed_by : Resolution → Axis → Bool → Bool → PlacementAnswer
placed_by r a cell is_short =
    cond (eqb r.refusal.number 0)
    (cond is_short (refused_placement short) (record { refusal = no_refusal; axis = a; cell = cell; line = r.line; held = r.held }))
    (refused_placement r.refusal.number)

-- "a placement index that isn't held" is 4
unfoldable pub resolve_placement : Grid → NameTables → NamedWords → NamedWords → ℕ → PlacementAnswer
resolve_placement g t areas placements index =
    cond (ltb index g.placements)
    (let place : PlacementPlace = placement_at placements.words index in
    placed_by (resolution_of (names_in g t areas place.axis) placements.bytes (line_placement place)) place.axis place.cell (short_names t))
    (refused_placement count)
