-- What the lines of a panel leave fits the rooms of its tables, and every record keeps it so. Assumes nothing.
use Prim.Native.Nat.{ℕ, ◌+◌, ◌*◌, ◌≤◌, ◌<◌, min}
use mathlib.Core.Path.{◌≡◌, refl}
use mathlib.Core.List.{List, [], ◌∷◌, ◌++◌}
use mathlib.Core.Bool.{Bool, true, false, cond}
use native.Mathlib.Omega.{arith}
use lib.Dec.{eqb, leb, ltb}
use lib.ListN.{length, length-append}
use borrow.Author.Tests.{ltb-false, leb-false, eqb-true, eqb-false, le-ltb}
use Rattle.coordinates.specs.declared.axis.Axis.{Axis}
use Rattle.coordinates.specs.declared.axis.Axis.TheVariants.{Column, Row}
use Rattle.axis_tables.specs.View.{AxisView, named_fault}
use Rattle.axis_tables.proofs.Runs.{All, all_append}
use Rattle.axis_tables.proofs.Fits.{Fits}
use Rattle.axis_tables.proofs.Kept.{empty_fits}
use Rattle.panel_tables.specs.declared.AreaEdges.{AreaEdges}
use Rattle.panel_tables.specs.View.{Area, End, Placement, PanelView, PanelOutcome, empty_view, refused, accepted, raised, edges_outside, area_step, end_outside, end_fault, lower, ends_fault, items, limited_step, with_placement, place_step, most_lines, next_line, half, with_cell, cell_step}
use Rattle.panel_tables.specs.Written.{area_bytes_of, placement_bytes_of}

pub record GoodArea (a : Area) : Type 0 where
  pub short : length a.name ≤ 32
  pub edges : edges_outside a.edges ≡ false

pub record GoodEnd (e : End) : Type 0 where
  pub short : length e.name ≤ 32
  pub end : end_outside e.end ≡ false

pub record GoodPlacement (p : Placement) : Type 0 where
  pub start : GoodEnd p.start
  pub end : GoodEnd p.end

abbrev pub GoodLine : ℕ → Type 0
GoodLine n = n ≤ most_lines

pub record FitsPanel (v : PanelView) : Type 0 where
  pub columns : Fits v.columns
  pub rows : Fits v.rows
  pub areas : length v.areas ≤ 64
  pub drawn : All GoodArea v.areas
  -- at most 256 `place` and `cell` lines, of which each cell is two placements
  pub items : length v.placements ≤ length v.cells + 256
  pub cells : length v.cells + length v.cells ≤ length v.placements
  pub placed : All GoodPlacement v.placements
  pub lines : All GoodLine v.cells

pub few_placements : (v : PanelView) → FitsPanel v → length v.placements ≤ 512
few_placements v f = omega (arith, f.items, f.cells)

-- 32 bytes an area, 64 a placement
pub area-bytes : (list : List Area) → All GoodArea list → length (area_bytes_of list) ≤ 32 * length list
area-bytes [] g = omega arith
area-bytes (a ∷ list) g = omega (arith, area-bytes list g.1, g.0.short, length-append a.name (area_bytes_of list))

pub placement_bytes_lem : (ps : List Placement) → All GoodPlacement ps → length (placement_bytes_of ps) ≤ 64 * length ps
placement_bytes_lem [] g = omega arith
placement_bytes_lem (p ∷ ps) g =
    omega (arith, placement_bytes_lem ps g.1, g.0.start.short, g.0.end.short, length-append p.start.name (p.end.name ++ placement_bytes_of ps), length-append p.end.name (placement_bytes_of ps))

fits-cond : (t : Bool) (a b : PanelOutcome) → FitsPanel a.panel → (t ≡ false → FitsPanel b.panel) → FitsPanel (cond t a b).panel
fits-cond true a b f g = f
fits-cond false a b f g = g refl

pub raised-fits : (v : AxisView) (end : ℕ) → Fits v → Fits (raised v end)
raised-fits v end f = record { items = f.items; unended = f.unended; components = f.components; spares = f.spares; names = f.names; bytes = f.bytes; short = f.short }

pub area-fits : (v : PanelView) (n : List ℕ) (e : AreaEdges) → FitsPanel v → FitsPanel (area_step v n e).panel
unfolding area_step
area-fits v n e f =
    let a : Area = record { name = n; edges = e } in
    let w : PanelView = record { columns = raised v.columns e.columnend; rows = raised v.rows e.rowend; areas = v.areas ++ (a ∷ []); picture = v.picture; placements = v.placements; cells = v.cells; stage = v.stage; lines = v.lines } in
    let o : PanelOutcome = cond (leb 64 (length v.areas)) (refused 8 v) (accepted w) in
    fits-cond (edges_outside e) (refused (named_fault (length n) 4) v) (cond (ltb 32 (length n)) (refused 2 v) o) f
    (λ x. fits-cond (ltb 32 (length n)) (refused 2 v) o f
    (λ y. fits-cond (leb 64 (length v.areas)) (refused 8 v) (accepted w) f
    (λ z. record {
      columns = raised-fits v.columns e.columnend f.columns;
      rows = raised-fits v.rows e.rowend f.rows;
      areas = omega (arith, leb-false 64 (length v.areas) z, length-append v.areas (a ∷ []));
      drawn = all_append GoodArea v.areas (a ∷ []) f.drawn (record { short = ltb-false 32 (length n) y; edges = x }, tt);
      items = f.items;
      cells = f.cells;
      placed = f.placed;
      lines = f.lines;
    })))

-- ---- ends without a fault
lower-zero : (a b : ℕ) → lower a b ≡ 0 → (a ≡ 0) × (b ≡ 0)
unfolding lower
lower-zero a b h = go (eqb a 0) (eqb b 0) refl refl h
  where
    go : (s t : Bool) → eqb a 0 ≡ s → eqb b 0 ≡ t → cond s b (cond t a (min a b)) ≡ 0 → (a ≡ 0) × (b ≡ 0)
    go true t x y h = (eqb-true a 0 x, h)
    go false true x y h = absurd (eqb-false a 0 x h)
    go false false x y h = absurd (none (eqb-false a 0 x) (eqb-false b 0 y))
      where
        none : (a ≡ 0 → ⊥) → (b ≡ 0 → ⊥) → ⊥
        none m n = omega (arith, h)

pub lower-none : (a b : ℕ) → a ≡ 0 → b ≡ 0 → lower a b ≡ 0
unfolding lower
lower-none a b x y = rw (x, y)

good-end : (e : End) → end_fault e.end (length e.name) ≡ 0 → GoodEnd e
unfolding end_fault
good-end e h = go (ltb 32 (length e.name)) (end_outside e.end) refl refl h
  where
    go : (s t : Bool) → ltb 32 (length e.name) ≡ s → end_outside e.end ≡ t → ◌≡◌ {A = ℕ} (cond s 2 (cond t 4 0)) 0 → GoodEnd e
    go true t x y h = absurd (omega arith)
    go false true x y h = absurd (omega arith)
    go false false x y h = record { short = ltb-false 32 (length e.name) x; end = y }

pub good_ends : (s e : End) → ends_fault s e ≡ 0 → GoodEnd s × GoodEnd e
good_ends s e h =
    let k = lower-zero (end_fault s.end (length s.name)) (end_fault e.end (length e.name)) h in
    (good-end s k.0, good-end e k.1)

end_none : (e : End) → GoodEnd e → end_fault e.end (length e.name) ≡ 0
unfolding end_fault
end_none e g = rw (le-ltb 32 (length e.name) g.short, g.end)

pub ends_none : (s e : End) → GoodEnd s → GoodEnd e → ends_fault s e ≡ 0
ends_none s e g h = lower-none (end_fault s.end (length s.name)) (end_fault e.end (length e.name)) (end_none s g) (end_none e h)

pub good-cell : (cs ce rs re : End) → lower (ends_fault cs ce) (ends_fault rs re) ≡ 0 → GoodPlacement (half Column cs ce) × GoodPlacement (half Row rs re)
good-cell cs ce rs re h =
    let k = lower-zero (ends_fault cs ce) (ends_fault rs re) h in
    let c = good_ends cs ce k.0 in
    let r = good_ends rs re k.1 in
    (record { start = c.0; end = c.1 }, record { start = r.0; end = r.1 })

-- ---- one item more
pub limited_by : (P : PanelView → Type 0) (v : PanelView) (fault : ℕ) (after : PanelView) → P v → (fault ≡ 0 → items v < 256 → P after) → P (limited_step v fault after).panel
unfolding limited_step
limited_by P v fault after p q = go (eqb fault 0) (leb 256 (items v)) refl refl
  where
    go : (s t : Bool) → eqb fault 0 ≡ s → leb 256 (items v) ≡ t → P (cond s (cond t (refused 8 v) (accepted after)) (refused fault v)).panel
    go true true x y = p
    go true false x y = q (eqb-true fault 0 x) (leb-false 256 (items v) y)
    go false t x y = p

pub place-fits : (v : PanelView) (axis : Axis) (s e : End) → FitsPanel v → FitsPanel (place_step v axis s e).panel
unfolding place_step
place-fits v axis s e f =
    let p : Placement = record { axis = axis; cell = false; start = s; end = e } in
    limited_by FitsPanel v (ends_fault s e) (with_placement v p) f
    (λ x y. let g = good_ends s e x in
    record {
      columns = f.columns;
      rows = f.rows;
      areas = f.areas;
      drawn = f.drawn;
      items = omega (arith, length-append v.placements (p ∷ []));
      cells = omega (arith, f.cells, length-append v.placements (p ∷ []));
      placed = all_append GoodPlacement v.placements (p ∷ []) f.placed (record { start = g.0; end = g.1 }, tt);
      lines = f.lines;
    })

pub cell-fits : (v : PanelView) (cs ce rs re : End) → FitsPanel v → FitsPanel (cell_step v cs ce rs re).panel
unfolding cell_step
cell-fits v cs ce rs re f =
    let c : Placement = half Column cs ce in
    let r : Placement = half Row rs re in
    let n : ℕ = next_line v.lines in
    let one : length (v.placements ++ (c ∷ [])) ≡ length v.placements + 1 = length-append v.placements (c ∷ []) in
    let two : length ((v.placements ++ (c ∷ [])) ++ (r ∷ [])) ≡ length (v.placements ++ (c ∷ [])) + 1 = length-append (v.placements ++ (c ∷ [])) (r ∷ []) in
    let lines : length (v.cells ++ (n ∷ [])) ≡ length v.cells + 1 = length-append v.cells (n ∷ []) in
    limited_by FitsPanel v (lower (ends_fault cs ce) (ends_fault rs re)) (with_cell v c r) f
    (λ x y. let g = good-cell cs ce rs re x in
    record {
      columns = f.columns;
      rows = f.rows;
      areas = f.areas;
      drawn = f.drawn;
      items = omega (arith, one, two, lines);
      cells = omega (arith, f.cells, one, two, lines);
      placed = all_append GoodPlacement (v.placements ++ (c ∷ [])) (r ∷ []) (all_append GoodPlacement v.placements (c ∷ []) f.placed (g.0, tt)) (g.1, tt);
      lines = all_append GoodLine v.cells (n ∷ []) f.lines (omega arith, tt);
    })

pub empty_fits_panel : FitsPanel empty_view
unfolding empty_view
empty_fits_panel = record { columns = empty_fits; rows = empty_fits; areas = omega arith; drawn = tt; items = omega arith; cells = omega arith; placed = tt; lines = tt }
