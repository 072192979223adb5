-- The column answers after a sheet and entries are the same for the same columns, areas, placements and entries there. Assumes nothing.
use Prim.Native.Nat.{ℕ}
use mathlib.Core.Path.{◌≡◌, refl, sym, ap, ap₂, ◌∙◌}
use mathlib.Core.List.{List}
use mathlib.Core.Bool.{Bool, true, false, cond}
use lib.Dec.{ltb}
use lib.ListN.{length, get_or}
use Rattle.coordinates.specs.declared.axis.Axis.{Axis}
use Rattle.coordinates.specs.declared.axis.Axis.TheVariants.{Column}
use Rattle.coordinates.specs.Refusals.{no_refusal, count}
use Rattle.name_rules.specs.Css.{Entry, AxisNames}
use Rattle.name_rules.specs.Rule.{named?, resolve, held_ends}
use Rattle.name_resolver.specs.Placements.{ends_of, held_answer}
use Rattle.track_rules.specs.declared.GridTrack.{GridTrack}
use Rattle.axis_tables.specs.View.{AxisView}
use Rattle.panel_tables.specs.View.{Area, Placement, PanelView, no_placement}
use Rattle.panel_tables.specs.Axes.{state_in}
use Rattle.sheet_rules.specs.Panels.{Tables}
use Rattle.sheet_rules.specs.Sheet.{explicit_of}
use Rattle.panel_rules.specs.Placing.{PlacementAnswer}
use Rattle.panel_rules.specs.Placing.{refused_placement}
use Rattle.panel_rules.specs.Runs.{marks_of, size_of, lists_of, record_with, run_with, fill_with}
use Rattle.panel_rules.specs.Calls.{explicit_size, line_count_in}
use Rattle.panel_rules.specs.Views.{held_after, entries_after, areas_in, names_after, css_end, placement_at, placement_after, name_after}

-- ---- on what is held: the state, the words and the marks of the columns
module _ (v u : PanelView) (t w : Tables) (c d r q : List Entry) (x : v.columns ≡ u.columns) (e : c ≡ d) where
  pub state-same : state_in (held_after v t c r).panel Column ≡ state_in (held_after u w d q).panel Column
  unfolding held_after
  state-same = rw (x, e)

  pub size_same : size_of (held_after v t c r) Column ≡ size_of (held_after u w d q) Column
  unfolding held_after explicit_size
  size_same = rw (x, e)

  pub lists-same : lists_of (held_after v t c r) Column ≡ lists_of (held_after u w d q) Column
  unfolding held_after line_count_in
  lists-same = rw (x, e)

  pub records-same : (items : List ℕ) (index : ℕ) → record_with (held_after v t c r) Column items index ≡ record_with (held_after u w d q) Column items index
  unfolding held_after
  records-same items index = rw (x, e)

  pub run-same : (items : List ℕ) (run : List GridTrack) → run_with (held_after v t c r) Column items run ≡ run_with (held_after u w d q) Column items run
  unfolding held_after
  run-same items run = rw (x, e)

  pub fill-same : (items : List ℕ) (run : List GridTrack) → fill_with (held_after v t c r) Column items run ≡ fill_with (held_after u w d q) Column items run
  unfolding held_after
  fill-same items run = rw (x, e)

  pub marks-same : marks_of (held_after v t c r).tables Column ≡ marks_of (held_after u w d q).tables Column
  unfolding held_after
  marks-same = ap (λ (a : AxisView). a.marks) x

pub names_same : (v u : AxisView) (c d : List Entry) → v ≡ u → c ≡ d → (line place : ℕ) → name_after v c line place ≡ name_after u d line place
names_same v u c d x e line place = ap₂ (λ (a : AxisView) (es : List Entry). name_after a es line place) x e

-- ---- placements

-- the answer for a placement whose axis is a, from all that names the lines of that axis
abbrev placed_on : AxisNames → Axis → Placement → PlacementAnswer
placed_on x a p =
    record {
      refusal = no_refusal;
      axis = a;
      cell = p.cell;
      line = ends_of (resolve x.explicit (named? x) (css_end p.start) (css_end p.end));
      held = held_answer (held_ends x.explicit (named? x) (css_end p.start) (css_end p.end));
    }

abbrev column_names : AxisView → List Area → List Entry → AxisNames
column_names columns areas es = record { explicit = explicit_of columns; book = entries_after columns es; areas = areas_in Column areas }

-- the answer for a placement of the columns, or for none
abbrev column_placement : AxisView → List Area → List Placement → List Entry → ℕ → PlacementAnswer
column_placement columns areas ps es i = cond (ltb i (length ps)) (placed_on (column_names columns areas es) Column (get_or ps i no_placement)) (refused_placement count)

module _ (v : PanelView) (es : Axis → List Entry) (i : ℕ) where
  -- the axis of the answer
  pub placed-axis : (placement_after v es i).axis ≡ cond (ltb i (length v.placements)) (placement_at v i).axis Column
  unfolding placement_after
  placed-axis = go (ltb i (length v.placements))
    where
      a : Axis
      a = (placement_at v i).axis

      go : (b : Bool) → (cond b (placed_on (names_after v a (es a)) a (placement_at v i)) (refused_placement count)).axis ≡ cond b a Column
      go true = refl
      go false = refl

  placed-column : (placement_after v es i).axis ≡ Column → placement_after v es i ≡ column_placement v.columns v.areas v.placements (es Column) i
  unfolding placement_after
  placed-column h = go (ltb i (length v.placements)) (sym placed-axis ∙ h)
    where
      a : Axis
      a = (placement_at v i).axis

      go : (b : Bool) → cond b a Column ≡ Column
          → cond b (placed_on (names_after v a (es a)) a (placement_at v i)) (refused_placement count)
          ≡ cond b (placed_on (column_names v.columns v.areas (es Column)) Column (placement_at v i)) (refused_placement count)
      go true z = ap (λ (k : Axis). placed_on (names_after v k (es k)) k (placement_at v i)) z
      go false z = refl

module _ (v u : PanelView) (es ds : Axis → List Entry) (p : v.placements ≡ u.placements) (i : ℕ) where
  -- a placement is of the same axis
  pub axes-same : (placement_after v es i).axis ≡ (placement_after u ds i).axis
  axes-same = placed-axis v es i ∙ ap (λ (ps : List Placement). cond (ltb i (length ps)) (get_or ps i no_placement).axis Column) p ∙ sym (placed-axis u ds i)

  -- and on the columns the answer is the same
  pub placements-same : v.columns ≡ u.columns → v.areas ≡ u.areas → es Column ≡ ds Column → (placement_after v es i).axis ≡ Column → placement_after v es i ≡ placement_after u ds i
  placements-same x y e h =
      placed-column v es i h
      ∙ ap₂ (λ (c : AxisView) (l : List Area). column_placement c l v.placements (es Column) i) x y
      ∙ ap₂ (λ (ps : List Placement) (l : List Entry). column_placement u.columns u.areas ps l i) p e
      ∙ sym (placed-column u ds i (sym axes-same ∙ h))
