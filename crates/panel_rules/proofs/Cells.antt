-- The halves of cells are answered as `place` lines with the same ends. Assumes nothing.
use Prim.Native.Nat.{ℕ}
use mathlib.Core.Bool.{Bool, true, false, cond}
use mathlib.Core.List.{List}
use mathlib.Core.Path.{◌≡◌, refl, sym, ap, ap₂, ◌∙◌}
use lib.Dec.{ltb}
use lib.ListN.{length, length-map, get_or-map}
use Rattle.coordinates.specs.declared.axis.Axis.{Axis}
use Rattle.coordinates.specs.declared.axis.Axis.TheVariants.{Column, Row}
use Rattle.coordinates.specs.Refusals.{count}
use Rattle.name_rules.specs.Css.{Entry, AxisNames}
use Rattle.name_rules.specs.Rule.{named?, resolve, held_ends}
use Rattle.panel_tables.specs.View.{Placement, no_placement, PanelView}
use Rattle.panel_rules.specs.Placing.{PlacementAnswer, refused_placement}
use Rattle.panel_rules.specs.Views.{names_after, css_end, placement_at, answer_at, placement_after}
use Rattle.panel_rules.specs.Cells.{place_like, places_for, unmarked, SettledAsPlaces}

-- the answer for a placement from the names of its axis
abbrev answer : AxisNames → Placement → PlacementAnswer
answer x p = answer_at p (resolve x.explicit (named? x) (css_end p.start) (css_end p.end)) (held_ends x.explicit (named? x) (css_end p.start) (css_end p.end))

-- the names are those of the axes and the areas
same_names : (v : PanelView) (a : Axis) (es : List Entry) → names_after v a es ≡ names_after (places_for v) a es
same_names v Column es = refl
same_names v Row es = refl

pub settled_as_places : (v : PanelView) → SettledAsPlaces v
unfolding placement_after
settled_as_places v es i =
    by (ltb i (length v.placements))
    ∙ ap₂ (λ (n : ℕ) (q : Placement). cond (ltb i n) (answer (names_after (places_for v) q.axis (es q.axis)) q) (refused_placement count))
    (sym (length-map v.placements place_like)) (sym (get_or-map place_like v.placements i no_placement))
  where
    p : Placement
    p = placement_at v i

    by : (t : Bool) → unmarked (cond t (answer (names_after v p.axis (es p.axis)) p) (refused_placement count))
        ≡ cond t (answer (names_after (places_for v) p.axis (es p.axis)) (place_like p)) (refused_placement count)
    by true = ap (λ (x : AxisNames). answer x (place_like p)) (same_names v p.axis (es p.axis))
    by false = refl
