-- A placement of a sheet is resolved to what CSS counts to: under conditions on its own names, and over the book under those of the third demand.
-- Assumes nothing.
use Prim.Native.Nat.{ℕ, zero, suc, ◌≤◌, ◌<◌}
use native.Mathlib.Nat.{le_of_suc-le-suc, not-suc-le-zero}
use mathlib.Core.Path.{◌≡◌, refl, sym, ap, ap₂, ◌∙◌, subst}
use mathlib.Core.List.{List, [], ◌∷◌, Memᴰ}
use borrow.Author.Tests.{lt-ltb}
use lib.ListN.{length, get_or}
use Rattle.coordinates.specs.declared.axis.Axis.{Axis}
use Rattle.name_rules.specs.Css.{Bytes, start, end, Entry, AxisNames, Placement as CssPlacement, Resolved, free, at_line, spanning, ResolvedEnds, CssEnds}
use Rattle.name_rules.specs.CssMarks.{HeldEnds, CssMarks}
use Rattle.name_rules.specs.Css as Css
use Rattle.name_rules.specs.Conditions.{UsedNamesLie}
use Rattle.name_rules.specs.Rule.{named?, resolve, held_ends}
use Rattle.name_rules.proofs.Resolve.{resolve-css, resolve_css_all}
use Rattle.name_rules.proofs.Unique.{ends_unique}
use Rattle.name_rules.proofs.Held.{marks-css, marks_css_all, marks_unique, unmarked-same}
use Rattle.name_resolver.specs.Placements.{answer_of, held_marks}
use Rattle.name_resolver.proofs.Theorems.{ends_back}
use Rattle.axis_tables.specs.View.{axis_bytes}
use Rattle.axis_tables.proofs.Fits.{Fits}
use Rattle.panel_tables.specs.View.{Placement, PanelView, no_placement}
use Rattle.panel_tables.specs.Axes.{view_in}
use Rattle.sheet_rules.specs.Sheet.{explicit_of, entries_of}
use Rattle.panel_rules.specs.Runs.{Call}
use Rattle.panel_rules.specs.Views.{css_end, placement_at, names_after, answer_at, PlacedByCss, UncutUnmarked, placement_after}
use Rattle.panel_rules.specs.Book.{CssTemplate, added_from, book_names, AllCounted, Regular}
use Rattle.panel_rules.proofs.Book as Book

-- ---- an answer that is not refused
module _ (v : PanelView) (es : Axis → List Entry) (i : ℕ) (held : i < length v.placements) where
  abbrev p : Placement
  p = placement_at v i

  abbrev x : AxisNames
  x = names_after v p.axis (es p.axis)

  -- what the rule gives over names y, and its marks
  abbrev ruled : AxisNames → ResolvedEnds
  ruled y = resolve y.explicit (named? y) (css_end p.start) (css_end p.end)

  abbrev marked : AxisNames → HeldEnds
  marked y = held_ends y.explicit (named? y) (css_end p.start) (css_end p.end)

  pub placement-answer : placement_after v es i ≡ answer_at p (ruled x) (marked x)
  unfolding placement_after
  placement-answer = rw (lt-ltb i (length v.placements) held)

  over : (y : AxisNames) → x ≡ y → placement_after v es i ≡ answer_at p (ruled y) (marked y)
  over y e = placement-answer ∙ ap (λ (z : AxisNames). answer_at p (ruled z) (marked z)) e

  -- it is CSS's over names y where the rule gives that, and the names are the same
  by-css : (y : AxisNames) → x ≡ y → CssEnds y (css_end p.start) (css_end p.end) (ruled y) → PlacedByCss y p (placement_after v es i)
  by-css y e c =
      subst (PlacedByCss y p) (sym (over y e))
      (record { accepted = refl; axis = refl; ends = subst (CssEnds y (css_end p.start) (css_end p.end)) (sym (ends_back (ruled y))) c })

  by-marks : (y : AxisNames) → x ≡ y → CssMarks y (css_end p.start) (css_end p.end) (marked y)
      → CssMarks y (css_end p.start) (css_end p.end) (held_marks (placement_after v es i).held)
  by-marks y e c = rw (over y e) c

  -- and CSS's ends and their marks make up the whole answer
  by-ends : (y : AxisNames) → x ≡ y → CssEnds y (css_end p.start) (css_end p.end) (ruled y) → CssMarks y (css_end p.start) (css_end p.end) (marked y)
      → (t : ResolvedEnds) (h : HeldEnds) → CssEnds y (css_end p.start) (css_end p.end) t → CssMarks y (css_end p.start) (css_end p.end) h
      → placement_after v es i ≡ answer_at p t h
  by-ends y e c m t h d n =
      over y e
      ∙ ap₂ (answer_at p) (ends_unique y (css_end p.start) (css_end p.end) (ruled y) t c d) (marks_unique y (css_end p.start) (css_end p.end) (marked y) h m n)

  -- each placement under conditions on its own names only
  pub placement-css : x.explicit ≤ 10000 → UsedNamesLie x start (css_end p.start) → UsedNamesLie x end (css_end p.end)
      → PlacedByCss x p (placement_after v es i)
  placement-css h a b = by-css x refl (resolve-css x h (css_end p.start) (css_end p.end) a b)

  -- and its marks
  pub placement-marks : x.explicit ≤ 10000 → UsedNamesLie x start (css_end p.start) → UsedNamesLie x end (css_end p.end)
      → CssMarks x (css_end p.start) (css_end p.end) (held_marks (placement_after v es i).held)
  placement-marks h a b = by-marks x refl (marks-css x h (css_end p.start) (css_end p.end) a b)

  -- and CSS comes to nothing else
  pub placement-only : x.explicit ≤ 10000 → UsedNamesLie x start (css_end p.start) → UsedNamesLie x end (css_end p.end)
      → (t : ResolvedEnds) (h : HeldEnds) → CssEnds x (css_end p.start) (css_end p.end) t → CssMarks x (css_end p.start) (css_end p.end) h
      → placement_after v es i ≡ answer_at p t h
  placement-only h a b = by-ends x refl (resolve-css x h (css_end p.start) (css_end p.end) a b) (marks-css x h (css_end p.start) (css_end p.end) a b)

  -- on any names an end without a mark is where a rule that never holds has it
  pub placement-uncut : UncutUnmarked x p (placement_after v es i)
  placement-uncut =
      subst (UncutUnmarked x p) (sym placement-answer)
      (record {
        start = λ m. ap answer_of (sym (unmarked-same x.explicit (named? x) Css.start (css_end p.end) (css_end p.start) m));
        end = λ m. ap answer_of (sym (unmarked-same x.explicit (named? x) Css.end (css_end p.start) (css_end p.end) m));
      })

-- ---- over the book

member : {A : Type 0} (l : List A) (i : ℕ) (d : A) → i < length l → Memᴰ (get_or l i d) l
member [] i d h = absurd (not-suc-le-zero h)
member (x ∷ l) zero d h = Memᴰ.head refl
member (x ∷ l) (suc i) d h = Memᴰ.tail (member l i d (le_of_suc-le-suc h))

-- the entries that the calls add on each axis of a panel
abbrev pub added_to : PanelView → List Call → Axis → List Entry
added_to v calls a = added_from (length (entries_of (view_in v a))) (length (axis_bytes (view_in v a))) a calls

module _ (n : Axis → CssTemplate) (v : PanelView) (calls : List Call) (f : (a : Axis) → Fits (view_in v a)) (few : (a : Axis) → explicit_of (view_in v a) ≤ 10000)
    (css : AllCounted n v) (r : Regular n v calls) (i : ℕ) (held : i < length v.placements) where
  abbrev q : Placement
  q = placement_at v i

  abbrev b : AxisNames
  b = book_names (n q.axis) v q.axis calls

  same_names : names_after v q.axis (added_to v calls q.axis) ≡ b
  same_names = Book.names-book (n q.axis) v q.axis calls (f q.axis) (css q.axis) (r.axes q.axis).template

  small : b.explicit ≤ 10000
  small = let e = Book.explicit-book (n q.axis) v q.axis calls (f q.axis) (css q.axis) (r.axes q.axis).template in rw (← e) (few q.axis)

  book-css : CssEnds b (css_end q.start) (css_end q.end) (resolve b.explicit (named? b) (css_end q.start) (css_end q.end))
  book-css =
      let z = r.nonzero q (member v.placements i no_placement held) in
      resolve_css_all b (record { small = small; lies = (r.axes q.axis).lies }) (css_end q.start) (css_end q.end) z.0 z.1

  book-marks : CssMarks b (css_end q.start) (css_end q.end) (held_ends b.explicit (named? b) (css_end q.start) (css_end q.end))
  book-marks =
      let z = r.nonzero q (member v.placements i no_placement held) in
      marks_css_all b (record { small = small; lies = (r.axes q.axis).lies }) (css_end q.start) (css_end q.end) z.0 z.1

  -- "each named line, and each named span beside a line, is resolved to the line that CSS counts to over document 01's name book"
  pub run-css : PlacedByCss b q (placement_after v (added_to v calls) i)
  run-css = by-css v (added_to v calls) i held b same_names book-css

  -- and to nothing else
  pub run_only : (t : ResolvedEnds) (h : HeldEnds) → CssEnds b (css_end q.start) (css_end q.end) t → CssMarks b (css_end q.start) (css_end q.end) h
      → placement_after v (added_to v calls) i ≡ answer_at q t h
  run_only = by-ends v (added_to v calls) i held b same_names book-css book-marks

  -- its marks are those of CSS's counting over the book
  pub run-marked : CssMarks b (css_end q.start) (css_end q.end) (held_marks (placement_after v (added_to v calls) i).held)
  run-marked = by-marks v (added_to v calls) i held b same_names book-marks
