-- An end of a placement by argument (SHEET.md, Calls): what it is refused by, and the end that a `place` line with the same kind, name and number gives.
use Rattle.std.specs.Prelude.{ℕ, zero, suc, Bool, true, false, cond, not, ◌&&◌, ◌||◌, List, [], eqb, ltb, ℤ, pos, negsuc}
use Rattle.coordinates.specs.Refusals.{name, count}
use Rattle.name_entries.specs.Names.{is_name}
use Rattle.panel_tables.specs.declared.PlacementEnd.{PlacementEnd}
use Rattle.panel_tables.specs.View.{End}
use Rattle.panel_tables.specs.Placements.{uses_name}

-- "line indexes -32,768..32,767"
abbrev pub index_outside : ℤ → Bool
index_outside (pos n) = ltb 32767 n
index_outside (negsuc k) = ltb 32767 k

-- "spans 0..65,535"
abbrev pub span_outside : ℤ → Bool
span_outside (pos n) = ltb 65535 n
span_outside (negsuc k) = true

-- kinds `auto line named span nspan` are 0 to 4; `auto` uses no number
abbrev pub outside_of : ℕ → ℤ → Bool
outside_of zero z = false
outside_of (suc zero) z = index_outside z
outside_of (suc (suc zero)) z = index_outside z
outside_of (suc (suc (suc zero))) z = span_outside z
outside_of (suc (suc (suc (suc zero)))) z = span_outside z
outside_of (suc (suc (suc (suc (suc k))))) z = true

abbrev pub is_outside : End → Bool
is_outside e = outside_of e.end.kind e.end.number

-- a used name that is none
abbrev pub is_unnamed : End → Bool
is_unnamed e = uses_name e.end.kind && not (is_name e.name)

-- what a placement of an axis and two ends is refused by, 0 where nothing is: lowest number first
unfoldable pub given_fault : ℕ → End → End → ℕ
given_fault axis s e =
    cond (is_unnamed s || is_unnamed e) name
    (cond (ltb 1 axis || (is_outside s || is_outside e)) count 0)

-- "number 0 where unused", and no name
abbrev pub used_number : PlacementEnd → ℤ
used_number e = cond (eqb e.kind 0) (pos 0) e.number

abbrev pub used_name : End → List ℕ
used_name e = cond (uses_name e.end.kind) e.name []

-- the end that a line says
abbrev pub used_end : End → End
used_end e = record { end = record { kind = e.end.kind; number = used_number e.end }; name = used_name e }
