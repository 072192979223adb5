-- The limits of a panel: with one place free a record is accepted, with none it is refused by 8. Assumes nothing.
use Prim.Native.Nat.{ℕ, ◌≤◌}
use mathlib.Core.Path.{◌≡◌}
use mathlib.Core.List.{List}
use mathlib.Core.Bool.{false}
use native.Mathlib.Omega.{arith}
use lib.ListN.{length}
use borrow.Author.Tests.{le-ltb, le-leb, lt-leb}
use Rattle.coordinates.specs.declared.axis.Axis.{Axis}
use Rattle.panel_tables.specs.declared.AreaEdges.{AreaEdges}
use Rattle.panel_tables.specs.View.{End, PanelView, edges_outside, area_step, ends_fault, lower, items, limited_step, place_step, cell_step}
use Rattle.panel_tables.proofs.Fits.{GoodEnd, ends_none, lower-none}

-- 64 drawn areas
module _ (v : PanelView) (n : List ℕ) (e : AreaEdges) (short : length n ≤ 32) (edges : edges_outside e ≡ false) where
  pub area-free : length v.areas ≤ 63 → (area_step v n e).fault ≡ 0
  unfolding area_step
  area-free h = rw (edges, le-ltb 32 (length n) short, lt-leb 64 (length v.areas) (omega arith))

  pub area-full : 64 ≤ length v.areas → (area_step v n e).fault ≡ 8
  unfolding area_step
  area-full h = rw (edges, le-ltb 32 (length n) short, le-leb 64 (length v.areas) h)

-- 256 `place` and `cell` lines together
pub limited_free : (v : PanelView) (fault : ℕ) (after : PanelView) → fault ≡ 0 → items v ≤ 255 → (limited_step v fault after).fault ≡ 0
unfolding limited_step
limited_free v fault after e h = rw (e, lt-leb 256 (items v) (omega arith))

pub limited_full : (v : PanelView) (fault : ℕ) (after : PanelView) → fault ≡ 0 → 256 ≤ items v → (limited_step v fault after).fault ≡ 8
unfolding limited_step
limited_full v fault after e h = rw (e, le-leb 256 (items v) h)

module _ (v : PanelView) (axis : Axis) (s e : End) (start : GoodEnd s) (end : GoodEnd e) where
  pub place-free : items v ≤ 255 → (place_step v axis s e).fault ≡ 0
  unfolding place_step
  place-free h = limited_free v (ends_fault s e) _ (ends_none s e start end) h

  pub place-full : 256 ≤ items v → (place_step v axis s e).fault ≡ 8
  unfolding place_step
  place-full h = limited_full v (ends_fault s e) _ (ends_none s e start end) h

module _ (v : PanelView) (cs ce rs re : End) (g : GoodEnd cs) (h : GoodEnd ce) (k : GoodEnd rs) (l : GoodEnd re) where
  none : lower (ends_fault cs ce) (ends_fault rs re) ≡ 0
  none = lower-none (ends_fault cs ce) (ends_fault rs re) (ends_none cs ce g h) (ends_none rs re k l)

  pub cell_free : items v ≤ 255 → (cell_step v cs ce rs re).fault ≡ 0
  unfolding cell_step
  cell_free m = limited_free v (lower (ends_fault cs ce) (ends_fault rs re)) _ none m

  pub cell_full : 256 ≤ items v → (cell_step v cs ce rs re).fault ≡ 8
  unfolding cell_step
  cell_full m = limited_full v (lower (ends_fault cs ce) (ends_fault rs re)) _ none m
