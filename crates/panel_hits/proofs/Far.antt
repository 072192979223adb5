-- A panel holds 512 placements; what stands past them, which no sheet gives, has no lines. Assumes nothing.
use Prim.Native.Nat.{ℕ, ◌≤◌}
use mathlib.Core.Path.{◌≡◌, refl}
use mathlib.Core.Bool.{Bool, true, false, cond}
use mathlib.Core.List.{List}
use borrow.Author.Tests.{le-ltb}
use lib.Dec.{eqb, leb, ltb}
use Rattle.coordinates.specs.Refusals.{count, short}
use Rattle.coordinates.specs.declared.axis.Axis.{Axis}
use Rattle.name_rules.specs.Css.{AxisNames, free}
use Rattle.name_resolver.specs.declared.GridPlacement.TheVariants.{Auto}
use Rattle.name_resolver.specs.Types.{WrittenLine}
use Rattle.name_resolver.specs.Placements.{Resolution}
use Rattle.name_resolver.specs.Placements.{resolved_ends, resolved_line, held_line, refused_resolution, resolution_of}
use Rattle.panel_tables.specs.declared.Grid.{Grid}
use Rattle.panel_tables.specs.declared.PlacementPlace.{PlacementPlace}
use Rattle.panel_tables.specs.Placements.{placement_at, end_of}
use Rattle.panel_rules.specs.Placing.{line_placement, placed_by, refused_placement, resolve_placement}
use Rattle.panel_rules.specs.Calls.{names_in, short_names}
use Rattle.panel_hits.specs.Settled.{Lent, settled}

-- an end that says `auto` stays free
auto_free : (x : AxisNames) (names : List ℕ) (l : WrittenLine) → l.start ≡ Auto → (resolved_ends (resolution_of x names l).line).first ≡ free
unfolding resolution_of
auto_free x names l e = by (leb x.explicit 10000)
  where
    by : (t : Bool) → (resolved_ends (cond t (record { refusal = record { number = 0; line = 0 }; line = resolved_line x names l; held = held_line x names l }) refused_resolution).line).first ≡ free
    by true = rw e
    by false = refl

placed_free : (r : Resolution) (a : Axis) (cell s : Bool) → (resolved_ends r.line).first ≡ free → (resolved_ends (placed_by r a cell s).line).first ≡ free
placed_free r a cell s e = by (eqb r.refusal.number 0) s
  where
    by : (t s : Bool) → (resolved_ends (cond t (cond s (refused_placement short) (record { refusal = record { number = 0; line = 0 }; axis = a; cell = cell; line = r.line; held = r.held })) (refused_placement r.refusal.number)).line).first ≡ free
    by true true = refl
    by true false = e
    by false s = refl

far_auto : (words : List ℕ) (i : ℕ) → 512 ≤ i → (line_placement (placement_at words i)).start ≡ Auto
unfolding placement_at end_of
far_auto words i h = rw (le-ltb i 512 h)

pub far_free : (g : Grid) (l : Lent) (i : ℕ) → 512 ≤ i → (resolved_ends (settled g l i).line).first ≡ free
unfolding resolve_placement
far_free g l i h = by (ltb i g.placements)
  where
    place : PlacementPlace
    place = placement_at l.placements.words i

    by : (t : Bool) → (resolved_ends (cond t (placed_by (resolution_of (names_in g l.names l.areas place.axis) l.placements.bytes (line_placement place)) place.axis place.cell (short_names l.names)) (refused_placement count)).line).first ≡ free
    by true = placed_free (resolution_of (names_in g l.names l.areas place.axis) l.placements.bytes (line_placement place)) place.axis place.cell (short_names l.names)
        (auto_free (names_in g l.names l.areas place.axis) l.placements.bytes (line_placement place) (far_auto l.placements.words i h))
    by false = refl
