-- The panel of every sheet keeps to its ranges: the areas' track counts, the implicit counts, the numbers of the placements. Assumes nothing.
use Prim.Native.Nat.{ℕ, ◌+◌, ◌-◌, ◌≤◌, max, zero-le}
use mathlib.Core.Path.{◌≡◌, refl, sym, ap, subst}
use mathlib.Core.List.{List, [], ◌∷◌, ◌++◌}
use mathlib.Core.Bool.{Bool, true, false, cond}
use native.Mathlib.Omega.{arith}
use lib.Dec.{leb, ltb}
use lib.ListN.{length, drop, length-append, length-replicate}
use Rattle.coordinates.specs.declared.axis.Axis.{Axis}
use Rattle.coordinates.specs.declared.axis.Axis.TheVariants.{Column, Row}
use Rattle.sheet_forms.specs.Said.{Record}
use Rattle.sheet_forms.specs.Said.{Fault, Axis as AxisLine, Area as AreaLine, Name, Track, Repeat, End as EndLine, Spare, Extra, Item, Place, PictureRow, Cell}
use Rattle.sheet_forms.specs.Words.{at}
use Rattle.sheet_forms.specs.Records.{record_of}
use Rattle.sheet_forms.proofs.Bounds.{Bounded}
use Rattle.sheet_forms.proofs.Theorem.{record_bounded}
use Rattle.axis_tables.specs.View.{AxisView, AxisOutcome, empty_axis, track_step, repeat_step, end_step, name_step, spare_step, item_step, extra_step, axis_step, named_fault}
use Rattle.axis_tables.proofs.Runs.{All, all_append}
use Rattle.panel_tables.specs.declared.AreaEdges.{AreaEdges}
use Rattle.panel_tables.specs.View.{Area, End, Placement, PanelView, empty_view, refused, accepted, raised, edges_outside, area_step, ends_fault, lower, limited_step, with_item, place_step, half, cell_step}
use Rattle.panel_tables.proofs.Fits.{limited_by}
use Rattle.panel_tables.specs.Areas.{edges_in}
use Rattle.panel_tables.specs.Axes.{view_in, step_in}
use Rattle.sheet_rules.specs.Lines.{bit, late_at, edges_of, placed_end, record_step, at_stage}
use Rattle.picture_rules.specs.Picture.{Word, width_of}
use Rattle.sheet_rules.specs.Contents.{drawn_in}
use Rattle.sheet_rules.specs.Pictures.{areas_of, with_words, other_width, drawn_row, picture_step}
use Rattle.sheet_rules.proofs.Fits.{FitsSheet}
use Rattle.sheet_rules.specs.Sheet.{sheet_of}
use Rattle.panel_rules.specs.Ranges.{largest, EndRange, PlacementRange, Even, spanned, AxisRange, PanelRange}
use Rattle.panel_rules.proofs.Within.{picture_span, even_more}
use Rattle.panel_rules.proofs.Numbers.{Placed, record_placed}
use Rattle.panel_rules.proofs.SheetKeeps.{sheet-keeps}
use Rattle.panel_rules.proofs.AxisRanges.{track_range, repeat-range, end-range, name_range, spare-range, item-range, extra-range, axis-range}

in_range : (v : PanelView) (a : Axis) (o : AxisOutcome) → PanelRange v → (AxisRange (spanned a v) (view_in v a) → AxisRange (spanned a v) o.axis)
    → PanelRange (step_in v a o).panel
in_range v Column o r f = record { axes = both; placements = r.placements; even = r.even }
  where
    both : (a : Axis) → AxisRange (spanned a v) (view_in (step_in v Column o).panel a)
    both Column = f (r.axes Column)
    both Row = r.axes Row
in_range v Row o r f = record { axes = both; placements = r.placements; even = r.even }
  where
    both : (a : Axis) → AxisRange (spanned a v) (view_in (step_in v Row o).panel a)
    both Column = r.axes Column
    both Row = f (r.axes Row)

-- one area more
largest-more : (a : Axis) (list : List Area) (x : Area) → largest a (list ++ (x ∷ [])) ≡ max (largest a list) ((edges_in x.edges a).end - 1)
largest-more a [] x = omega arith
largest-more a (y ∷ list) x = omega (arith, largest-more a list x)

raised_range : (n end : ℕ) (v : AxisView) → AxisRange n v → AxisRange (max n (end - 1)) (raised v end)
raised_range n end v r = record { areas = ap (λ (m : ℕ). max m (end - 1)) r.areas; negative = r.negative; positive = r.positive; marks = r.marks }

area_range : (v : PanelView) (n : List ℕ) (e : AreaEdges) → PanelRange v → PanelRange (area_step v n e).panel
unfolding area_step
area_range v n e r = go (edges_outside e) (ltb 32 (length n)) (leb 64 (length v.areas))
  where
    x : Area
    x = record { name = n; edges = e }

    w : PanelView
    w = record { columns = raised v.columns e.columnend; rows = raised v.rows e.rowend; areas = v.areas ++ (x ∷ []); picture = v.picture; placements = v.placements; cells = v.cells; stage = v.stage; lines = v.lines }

    more : (a : Axis) → max (spanned a v) ((edges_in e a).end - 1) ≡ spanned a w
    more a = omega (arith, largest-more a v.areas x)

    both : (a : Axis) → AxisRange (spanned a w) (view_in w a)
    both Column = subst (λ (k : ℕ). AxisRange k (raised v.columns e.columnend)) (more Column) (raised_range (spanned Column v) e.columnend v.columns (r.axes Column))
    both Row = subst (λ (k : ℕ). AxisRange k (raised v.rows e.rowend)) (more Row) (raised_range (spanned Row v) e.rowend v.rows (r.axes Row))

    go : (s t u : Bool) → PanelRange (cond s (refused (named_fault (length n) 4) v) (cond t (refused 2 v) (cond u (refused 8 v) (accepted w)))).panel
    go true t u = r
    go false true u = r
    go false false true = r
    go false false false = record { axes = both; placements = r.placements; even = r.even }

-- one item more, whose placements keep to their ranges
placed_range : (v : PanelView) (fault : ℕ) (ps : List Placement) (cs : List ℕ) → All PlacementRange ps → PanelRange v → PanelRange (limited_step v fault (with_item v ps cs)).panel
placed_range v fault ps cs h r = limited_by PanelRange v fault (with_item v ps cs) r (λ x y. record { axes = both; placements = h; even = r.even })
  where
    both : (b : Axis) → AxisRange (spanned b v) (view_in (with_item v ps cs) b)
    both Column = r.axes Column
    both Row = r.axes Row

place_range : (v : PanelView) (a : Axis) (s e : End) → EndRange s → EndRange e → PanelRange v → PanelRange (place_step v a s e).panel
unfolding place_step
place_range v a s e h k r = placed_range v (ends_fault s e) _ v.cells (all_append PlacementRange v.placements (_ ∷ []) r.placements ((h, k), tt)) r

cell_range : (v : PanelView) (cs ce rs re : End) → EndRange cs → EndRange ce → EndRange rs → EndRange re → PanelRange v → PanelRange (cell_step v cs ce rs re).panel
unfolding cell_step
cell_range v cs ce rs re h k l m r =
    let c : Placement = half Column cs ce in
    placed_range v (lower (ends_fault cs ce) (ends_fault rs re)) _ _
    (all_append PlacementRange (v.placements ++ (c ∷ [])) (half Row rs re ∷ []) (all_append PlacementRange v.placements (c ∷ []) r.placements ((h, k), tt)) ((l, m), tt)) r

-- a row that may be drawn, where all areas are the picture's
row_range : (v : PanelView) (ws : List Word) → v.areas ≡ areas_of v.picture → PanelRange v → PanelRange (picture_step v ws).panel
unfolding picture_step
row_range v ws own r = go (leb 10000 (length v.picture)) (ltb 64 (length (areas_of (with_words v.picture ws)))) (other_width v.picture (length ws)) refl
  where
    taken : other_width v.picture (length ws) ≡ false → PanelRange (drawn_row v ws)
    taken e = record { axes = both; placements = r.placements; even = more.0 }
      where
        more : Even (with_words v.picture ws) × (width_of (with_words v.picture ws) ≡ length ws) × (width_of v.picture ≤ length ws)
        more = even_more v.picture ws r.even e

        before : (a : Axis) → largest a v.areas ≤ drawn_in a v.picture
        before a = subst (λ (l : List Area). largest a l ≤ drawn_in a v.picture) (sym own) (picture_span v.picture r.even a)

        after : (a : Axis) → largest a (areas_of (with_words v.picture ws)) ≤ drawn_in a (with_words v.picture ws)
        after a = picture_span (with_words v.picture ws) more.0 a

        columns : max (spanned Column v) (length ws + 1 - 1) ≡ spanned Column (drawn_row v ws)
        columns = omega (arith, more.1, more.2, before Column, after Column)

        rows : max (spanned Row v) (length v.picture + 2 - 1) ≡ spanned Row (drawn_row v ws)
        rows = omega (arith, before Row, after Row, length-append v.picture (ws ∷ []))

        both : (a : Axis) → AxisRange (spanned a (drawn_row v ws)) (view_in (drawn_row v ws) a)
        both Column = subst (λ (k : ℕ). AxisRange k (raised v.columns (length ws + 1))) columns (raised_range (spanned Column v) (length ws + 1) v.columns (r.axes Column))
        both Row = subst (λ (k : ℕ). AxisRange k (raised v.rows (length v.picture + 2))) rows (raised_range (spanned Row v) (length v.picture + 2) v.rows (r.axes Row))

    go : (b c d : Bool) → other_width v.picture (length ws) ≡ d → PanelRange (cond b (refused 8 v) (cond c (refused 8 v) (cond d (refused 13 v) (accepted (drawn_row v ws))))).panel
    go true c d e = r
    go false true d e = r
    go false false true e = r
    go false false false e = taken e

record_range : (v : PanelView) (fs : List (List ℕ)) (q : Record) → Bounded fs q → Placed q → FitsSheet v → PanelRange v → PanelRange (record_step v fs q).panel
unfolding record_step
record_range v fs (Fault n) b p f r = r
record_range v fs (AxisLine x) b p f r =
    let a : Axis = x.axis in
    in_range v a (axis_step (view_in v a) (bit x.definite) x.inner x.rule x.gap) r
    (axis-range (spanned a v) (view_in v a) (bit x.definite) x.inner x.rule x.gap)
record_range v fs (AreaLine x) b p f r = area_range v (at fs 1) (edges_of x) r
record_range v fs (Name a) b p f r = in_range v a (name_step (view_in v a) (at fs 2)) r (name_range (spanned a v) (view_in v a) (at fs 2))
record_range v fs (Track a min max) b p f r = in_range v a (track_step (view_in v a) min max) r (track_range (spanned a v) (view_in v a) min max)
record_range v fs (Repeat a n) b p f r =
    in_range v a (repeat_step (view_in v a) n.kind n.number) r (repeat-range (spanned a v) (view_in v a) n.kind n.number)
record_range v fs (EndLine a) b p f r = in_range v a (end_step (view_in v a)) r (end-range (spanned a v) (view_in v a))
record_range v fs (Spare a min max) b p f r = in_range v a (spare_step (view_in v a) min max) r (spare-range (spanned a v) (view_in v a) min max)
record_range v fs (Extra a m n) b p f r = in_range v a (extra_step (view_in v a) m n) r (extra-range (spanned a v) (view_in v a) m n b.0 b.1)
record_range v fs (Item a i) b p f r = in_range v a (item_step (view_in v a) i) r (item-range (spanned a v) (view_in v a) i)
record_range v fs (Place a s e) b p f r = place_range v a (placed_end (at fs 3) s) (placed_end (at fs 6) e) p.0 p.1 r
record_range v fs (Cell cs ce rs re) b p f r = cell_range v (placed_end (at fs 2) cs) (placed_end (at fs 5) ce) (placed_end (at fs 8) rs) (placed_end (at fs 11) re) p.0.0 p.0.1 p.1.0 p.1.1 r
record_range v fs (PictureRow n) b p f r = go (late_at 2 v.stage) refl
  where
    go : (t : Bool) → late_at 2 v.stage ≡ t → PanelRange (cond t (accepted v) (picture_step v (drop 1 fs))).panel
    go true e = r
    go false e = row_range v (drop 1 fs) (f.pictured e) r

staged_range : (n : ℕ) (v : PanelView) → PanelRange v → PanelRange (at_stage n v)
staged_range n v r = record { axes = both; placements = r.placements; even = r.even }
  where
    both : (a : Axis) → AxisRange (spanned a v) (view_in (at_stage n v) a)
    both Column = r.axes Column
    both Row = r.axes Row

nothing_range : AxisRange 0 empty_axis
unfolding empty_axis
nothing_range = record { areas = refl; negative = zero-le; positive = zero-le; marks = length-replicate {A = ℕ} 30000 0 }

empty_range : PanelRange empty_view
unfolding empty_view
empty_range = record { axes = both; placements = tt; even = tt }
  where
    both : (a : Axis) → AxisRange (spanned a empty_view) (view_in empty_view a)
    both Column = nothing_range
    both Row = nothing_range

-- every sheet
pub sheet_range : (s : List ℕ) → PanelRange (sheet_of s).view
sheet_range s =
    sheet-keeps PanelRange empty_range staged_range (λ v r f fs. record_range v fs (record_of fs) (record_bounded fs) (record_placed fs) f r) s

-- "the larger of template count and largest area end - 1": an axis counts the tracks that the sheet's picture and areas span
pub areas-largest : (s : List ℕ) (a : Axis) → (view_in (sheet_of s).view a).areas ≡ spanned a (sheet_of s).view
areas-largest s a = ((sheet_range s).axes a).areas

-- a mark for each track index
pub marks_length : (s : List ℕ) (a : Axis) → length (view_in (sheet_of s).view a).marks ≡ 30000
marks_length s a = ((sheet_range s).axes a).marks
