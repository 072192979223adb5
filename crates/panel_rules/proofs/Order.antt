-- Names may arrive in any order: two panels that are the same but for that, with the same accepted entries, resolve every placement alike. Assumes nothing.
use Prim.Native.Nat.{ℕ, ◌-◌, ◌≤◌}
use mathlib.Core.Path.{◌≡◌, refl, sym, ap, ap₂, ◌∙◌}
use mathlib.Core.Logic.{⊎_elim}
use mathlib.Core.Bool.{cond}
use mathlib.Core.List.Memᴰ
use mathlib.Core.List.{List, [], ◌∷◌, Memᴰ}
use native.Mathlib.Omega.{arith}
use lib.Dec.{ltb}
use lib.ListN.{length, get_or}
use Rattle.coordinates.specs.declared.axis.Axis.{Axis}
use Rattle.coordinates.specs.Refusals.{count}
use Rattle.name_rules.specs.Css.{AxisNames, Area as CssArea, ResolvedEnds}
use Rattle.name_rules.specs.CssMarks.{HeldEnds}
use Rattle.name_rules.specs.Conditions.{SameMembers, SameNames}
use Rattle.name_rules.specs.Rule.{named?, resolve, held_ends}
use Rattle.name_rules.proofs.Order.{resolve_same, marks-same}
use Rattle.axis_tables.specs.View.{AxisView, components_of}
use Rattle.axis_tables.proofs.Fits.{Fits}
use Rattle.panel_tables.specs.View.{Area, Placement, PanelView, no_placement}
use Rattle.panel_tables.specs.Areas.{edges_in}
use Rattle.panel_tables.specs.Axes.{view_in}
use Rattle.sheet_rules.specs.Sheet.{size_of, explicit_of}
use Rattle.panel_rules.specs.Placing.{PlacementAnswer}
use Rattle.panel_rules.specs.Placing.{refused_placement}
use Rattle.panel_rules.specs.Runs.{Call}
use Rattle.panel_rules.specs.Views.{area_in, areas_in, css_end, names_after, answer_at, placement_after}
use Rattle.panel_rules.specs.Book.{CssTemplate, AllCounted, Regular}
use Rattle.panel_rules.specs.Order.{SamePanel, SameEntries}
use Rattle.panel_rules.specs.Ranges.{largest, spanned}
use Rattle.panel_rules.proofs.Book as Book
use Rattle.panel_rules.proofs.Run.{added_to}

-- ---- the same areas in any order
module _ (a : Axis) where
  -- are the same to an axis
  areas-among : (l m : List Area) → ((x : Area) → Memᴰ x l → Memᴰ x m) → (y : CssArea) → Memᴰ y (areas_in a l) → Memᴰ y (areas_in a m)
  areas-among l m f y h =
      let (x, k, e) = Memᴰ.of_map (area_in a) l h in
      Memᴰ.cast (sym e) (Memᴰ.map (area_in a) (f x k))

  -- and span as many tracks
  end-within : (x : Area) (m : List Area) → Memᴰ x m → (edges_in x.edges a).end - 1 ≤ largest a m
  end-within x [] h = absurd (Memᴰ.not-nil h)
  end-within x (y ∷ m) h =
      ⊎_elim (λ (e : x ≡ y). rw e (omega arith)) (λ (k : Memᴰ x m). let i = end-within x m k in omega arith) (Memᴰ.cases_cons h)

  largest-within : (l m : List Area) → ((x : Area) → Memᴰ x l → Memᴰ x m) → largest a l ≤ largest a m
  largest-within [] m f = omega arith
  largest-within (x ∷ l) m f =
      let i = end-within x m (f x (Memᴰ.head refl)) in
      let j = largest-within l m (λ z k. f z (Memᴰ.tail k)) in
      omega arith

  largest-same : (l m : List Area) → SameMembers l m → largest a l ≡ largest a m
  largest-same l m s = omega (arith, largest-within l m (λ x. (s x).0), largest-within m l (λ x. (s x).1))

-- so a panel needs as many
pub spanned-same : (a : Axis) (v w : PanelView) → SamePanel v w → spanned a v ≡ spanned a w
spanned-same a v w same = omega (arith, same.pictures a, largest-same a v.areas w.areas same.areas)

-- ---- the same answers

-- the same `axis` record and components have the same size
same_size_lem : (x y : AxisView) → x.line ≡ y.line → components_of x.template ≡ components_of y.template → (size_of x).tracks ≡ (size_of y).tracks
unfolding size_of
same_size_lem x y e f = rw (e, f)

-- an answer, from the list of placements and the names of each axis
abbrev answer : List Placement → (Axis → AxisNames) → ℕ → PlacementAnswer
answer ps names i =
    cond (ltb i (length ps))
    (let p : Placement = get_or ps i no_placement in
    let x : AxisNames = names p.axis in
    answer_at p (resolve x.explicit (named? x) (css_end p.start) (css_end p.end)) (held_ends x.explicit (named? x) (css_end p.start) (css_end p.end)))
    (refused_placement count)

-- names that are the same in any order give the same answer
same_answer : (ps : List Placement) (x y : Axis → AxisNames) (i : ℕ) → ((a : Axis) → SameNames (x a) (y a)) → answer ps x i ≡ answer ps y i
same_answer ps x y i s =
    let p : Placement = get_or ps i no_placement in
    ap₂ (λ (r : ResolvedEnds) (h : HeldEnds). cond (ltb i (length ps)) (answer_at p r h) (refused_placement count))
    (resolve_same (x p.axis) (y p.axis) (s p.axis) (css_end p.start) (css_end p.end))
    (marks-same (x p.axis) (y p.axis) (s p.axis) (css_end p.start) (css_end p.end))

module _ (n m : Axis → CssTemplate) (v w : PanelView) (cs ds : List Call) (f : (a : Axis) → Fits (view_in v a)) (g : (a : Axis) → Fits (view_in w a))
    (css : AllCounted n v) (also : AllCounted m w) (r : Regular n v cs) (q : Regular m w ds) (same : SamePanel v w) (spanned : (a : Axis) → (view_in v a).areas ≡ (view_in w a).areas)
    (entries : SameEntries n v cs m w ds) where
  explicit-same : (a : Axis) → explicit_of (view_in v a) ≡ explicit_of (view_in w a)
  explicit-same a = rw (same_size_lem (view_in v a) (view_in w a) (same.lines a) (same.components a), spanned a)

  names_same : (a : Axis) → SameNames (names_after v a (added_to v cs a)) (names_after w a (added_to w ds a))
  names_same a =
      record {
        explicit = explicit-same a;
        entries = rw (Book.book-after (n a) v a cs (f a) (css a) (r.axes a).template, Book.book-after (m a) w a ds (g a) (also a) (q.axes a).template) (entries a);
        areas = λ (y : CssArea). (
          areas-among a v.areas w.areas (λ x. (same.areas x).0) y,
          areas-among a w.areas v.areas (λ x. (same.areas x).1) y,
        );
      }

  -- every placement is resolved alike
  pub order_same : (i : ℕ) → placement_after v (added_to v cs) i ≡ placement_after w (added_to w ds) i
  unfolding placement_after
  order_same i =
      ap (λ (ps : List Placement). answer ps (λ a. names_after v a (added_to v cs a)) i) same.placements
      ∙ same_answer w.placements (λ a. names_after v a (added_to v cs a)) (λ a. names_after w a (added_to w ds a)) i names_same
