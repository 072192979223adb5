-- Where no drawn area has a name, its lines are those of entries. Assumes nothing.
use mathlib.Core.Path.{◌≡◌, refl, sym, ap}
use mathlib.Core.Bool.{Bool, true, false, ◌&&◌, ◌||◌}
use mathlib.Core.List.{List, [], ◌∷◌}
use Prim.Native.Nat.{ℕ, ◌+◌}
use native.Mathlib.Nat.{add-zero}
use lib.Dec.{eqb}
use lib.ListN.{length, get_or, drop}
use lib.Seq.{drop-drop, get_or-drop}
use Rattle.coordinates.specs.declared.axis.Axis.{Axis}
use Rattle.name_rules.specs.Css.{Bytes, Side, start, end, edge}
use Rattle.name_rules.specs.Rule.{any, eq_bytes}
use Rattle.name_entries.specs.Entries.{entry_of, name_in}
use Rattle.name_lines.specs.Areas.{area_of, areas_of, edged?, edged_by}
use Rattle.name_lines.proofs.Suffixes.{never, and_no}
use Rattle.panel_resolving.specs.Drawn.{drawn_in, edges_drawn}
use Rattle.std.specs.Prelude.{Option, Some, None}
use Rattle.std.specs.List.{list_any, range_with_len}
use Rattle.name_lines.specs.declared.GridAreaEnd.{GridAreaEnd}
use Rattle.name_lines.specs.declared.GridAreaEnd.TheVariants.{Start, End}

-- where no area has the name, no line is an edge of one
module _ (axis : Axis) (store : List ℕ) (nm : Bytes) (s : Side) (number : ℕ) where
  none-edged : (edges names : List ℕ) → drawn_in edges names store nm ≡ false → any (edged? nm s number) (areas_of axis edges names store) ≡ false
  unfolding drawn_in areas_of
  none-edged [] names h = refl
  none-edged (w ∷ ws) names h = go (eq_bytes (name_in store (entry_of (get_or names 0 0))) nm) (none-edged ws (drop 1 names)) h
    where
      go : (b : Bool) → (drawn_in ws (drop 1 names) store nm ≡ false → any (edged? nm s number) (areas_of axis ws (drop 1 names) store) ≡ false)
          → (b || drawn_in ws (drop 1 names) store nm) ≡ false
          → ((eqb (edge (area_of axis w (get_or names 0 0) store) s) number && b) || any (edged? nm s number) (areas_of axis ws (drop 1 names) store)) ≡ false
      go true rest h = never (sym h)
      go false rest h = rw (and_no (eqb (edge (area_of axis w (get_or names 0 0) store) s) number)) (rest h)

pub none_edged_by : (axis : Axis) (edges names store : List ℕ) (stem : Bytes) (sought : Option GridAreaEnd) (number : ℕ) → edges_drawn edges names store stem sought ≡ false
    → edged_by (areas_of axis edges names store) stem sought number ≡ false
none_edged_by axis edges names store stem (Some Start) number h = none-edged axis store stem start number edges names h
none_edged_by axis edges names store stem (Some End) number h = none-edged axis store stem end number edges names h
none_edged_by axis edges names store stem None number h = refl

-- an area has the name where one of the places does
module _ (names store : List ℕ) (nm : Bytes) where
  abbrev pub is_named_at : ℕ → Bool
  is_named_at i = eq_bytes (name_in store (entry_of (get_or names i 0))) nm

  drawn-from : (edges : List ℕ) (k : ℕ) → drawn_in edges (drop k names) store nm ≡ list_any is_named_at (range_with_len k (length edges))
  unfolding drawn_in
  drawn-from [] k = refl
  drawn-from (w ∷ ws) k = rw (drop-drop 1 k names, get_or-drop k names 0 0, add-zero k) (ap (λ (b : Bool). is_named_at k || b) (drawn-from ws (k + 1)))

  pub drawn-any : (edges : List ℕ) → drawn_in edges names store nm ≡ list_any is_named_at (range_with_len 0 (length edges))
  drawn-any edges = drawn-from edges 0
