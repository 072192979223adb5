-- Document 02, request 10: a cell's "settled fields" are "as 01's calls give them before any placing": each half is answered as a `place` line
-- of its axis with the same ends.
use Rattle.std.specs.Prelude.{false, List, [], map, ◌≡◌, ℕ}
use Rattle.coordinates.specs.declared.axis.Axis.{Axis}
use Rattle.name_rules.specs.Css.{Entry}
use Rattle.panel_tables.specs.View.{Placement, PanelView, with_item}
use Rattle.panel_rules.specs.Placing.{PlacementAnswer}
use Rattle.panel_rules.specs.Views.{placement_after}

-- a `place` line of the same axis with the same ends
abbrev pub place_like : Placement → Placement
place_like p = record { axis = p.axis; cell = false; start = p.start; end = p.end }

-- a panel with two `place` lines for each cell
abbrev pub places_for : PanelView → PanelView
places_for v = with_item v (map place_like v.placements) []

-- all of an answer but that it is a cell's half
abbrev pub unmarked : PlacementAnswer → PlacementAnswer
unmarked r = record { refusal = r.refusal; axis = r.axis; cell = false; line = r.line; held = r.held }

abbrev pub SettledAsPlaces : PanelView → Type 0
SettledAsPlaces v = (es : Axis → List Entry) (i : ℕ) → unmarked (placement_after v es i) ≡ placement_after (places_for v) es i
