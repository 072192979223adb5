-- Every edit keeps the panel to its ranges. Assumes nothing.
use Prim.Native.Nat.{ℕ, ◌-◌, max}
use mathlib.Core.Path.{◌≡◌, refl, sym, ap, ap₂, subst}
use mathlib.Core.List.{List, [], ◌∷◌, ◌++◌}
use mathlib.Core.Bool.{Bool, true, false, cond}
use native.Mathlib.Omega.{arith}
use lib.Dec.{eqb}
use borrow.Author.Tests.{eqb-true}
use Rattle.coordinates.specs.declared.axis.Axis.{Axis}
use Rattle.coordinates.specs.declared.axis.Axis.TheVariants.{Column, Row}
use Rattle.sheet_forms.specs.Said.{Record}
use Rattle.sheet_forms.specs.Words.{at}
use Rattle.sheet_forms.specs.Records.{record_of}
use Rattle.axis_tables.specs.Runs.{All}
use Rattle.axis_tables.specs.View.{AxisView, track_step}
use Rattle.axis_tables.proofs.Runs.{all_append}
use Rattle.panel_tables.specs.declared.AreaEdges.{AreaEdges}
use Rattle.panel_tables.specs.View.{Area, Placement, PanelView, raised, ends_fault, with_placement, place_step, refused, accepted}
use Rattle.panel_tables.specs.Areas.{edges_in}
use Rattle.panel_tables.specs.Axes.{view_in, step_in}
use Rattle.panel_tables.proofs.Fits.{limited_by}
use Rattle.picture_rules.specs.Picture.{Picture}
use Rattle.sheet_rules.specs.Contents.{Line, drawn_in}
use Rattle.sheet_rules.specs.Lines.{edges_of, placed_end, record_step, stage_of, at_stage, line_step}
use Rattle.sheet_rules.proofs.Pictures.{clean_line}
use Rattle.panel_rules.specs.Ranges.{largest, PlacementRange, Even, spanned, AxisRange, PanelRange}
use Rattle.panel_rules.proofs.AxisRanges.{track_range}
use Rattle.panel_rules.proofs.Invariants.{sheet_range}
use Rattle.panel_rules.proofs.Numbers.{Placed, record_placed}
use Rattle.edit_rules.specs.Bases.{base_of}
use Rattle.edit_rules.specs.Edits.{Edit, line, enter, unread, is_edit}
use Rattle.edit_rules.specs.Replay.{reopened, edit_fault, edit_step, edited_by}
use Rattle.edit_rules.specs.Theorem.{AllEdits}
use Rattle.edit_rules.proofs.Alike.{Alike}
use Rattle.edit_rules.proofs.Areas.{with_area, area-taken}
use Rattle.edit_rules.proofs.Bases.{base_view}
use Rattle.edit_rules.proofs.EditRecords.{EditRecord, fault as a_fault, area as an_area, track as a_track, place as a_place, edit_record}
use Rattle.edit_rules.proofs.Taken.{line_clean}

-- a panel that is alike
alike_range : (v w : PanelView) → Alike v w → PanelRange v → PanelRange w
alike_range v w h r = record { axes = both; placements = subst (All PlacementRange) h.placements r.placements; even = subst Even h.picture r.even }
  where
    span : (a : Axis) → spanned a v ≡ spanned a w
    span a = ap₂ (λ (p : Picture) (l : List Area). max (drawn_in a p) (largest a l)) h.picture h.areas

    both : (a : Axis) → AxisRange (spanned a w) (view_in w a)
    both Column = subst (AxisRange (spanned Column w)) h.columns (subst (λ (n : ℕ). AxisRange n v.columns) (span Column) (r.axes Column))
    both Row = subst (AxisRange (spanned Row w)) h.rows (subst (λ (n : ℕ). AxisRange n v.rows) (span Row) (r.axes Row))

module _ (v : PanelView) (r : PanelRange v) where
  -- an area
  one_more : (a : Axis) (list : List Area) (x : Area) → largest a (list ++ (x ∷ [])) ≡ max (largest a list) ((edges_in x.edges a).end - 1)
  one_more a [] x = omega arith
  one_more a (y ∷ list) x = omega (arith, one_more a list x)

  raised_range : (n end : ℕ) (x : AxisView) → AxisRange n x → AxisRange (max n (end - 1)) (raised x end)
  raised_range n end x k = record { areas = ap (λ (m : ℕ). max m (end - 1)) k.areas; negative = k.negative; positive = k.positive; marks = k.marks }

  added_range : (n : List ℕ) (e : AreaEdges) → PanelRange (with_area n e v)
  added_range n e = record { axes = both; placements = r.placements; even = r.even }
    where
      more : (a : Axis) → max (spanned a v) ((edges_in e a).end - 1) ≡ spanned a (with_area n e v)
      more a = omega (arith, one_more a v.areas (record { name = n; edges = e }))

      both : (a : Axis) → AxisRange (spanned a (with_area n e v)) (view_in (with_area n e v) a)
      both Column = subst (λ (k : ℕ). AxisRange k (raised v.columns e.columnend)) (more Column) (raised_range (spanned Column v) e.columnend v.columns (r.axes Column))
      both Row = subst (λ (k : ℕ). AxisRange k (raised v.rows e.rowend)) (more Row) (raised_range (spanned Row v) e.rowend v.rows (r.axes Row))

  -- a track
  one_track : (a : Axis) (min max : ℕ) → PanelRange (step_in v a (track_step (view_in v a) min max)).panel
  one_track Column min max = record { axes = both; placements = r.placements; even = r.even }
    where
      both : (b : Axis) → AxisRange (spanned b v) (view_in (step_in v Column (track_step v.columns min max)).panel b)
      both Column = track_range (spanned Column v) v.columns min max (r.axes Column)
      both Row = r.axes Row
  one_track Row min max = record { axes = both; placements = r.placements; even = r.even }
    where
      both : (b : Axis) → AxisRange (spanned b v) (view_in (step_in v Row (track_step v.rows min max)).panel b)
      both Column = r.axes Column
      both Row = track_range (spanned Row v) v.rows min max (r.axes Row)

  -- a placement
  one_place : (p : Placement) → PlacementRange p → PanelRange (with_placement v p)
  one_place p h = record { axes = both; placements = all_append PlacementRange v.placements (p ∷ []) r.placements (h, tt); even = r.even }
    where
      both : (b : Axis) → AxisRange (spanned b v) (view_in (with_placement v p) b)
      both Column = r.axes Column
      both Row = r.axes Row

  record_range : (fs : Line) (q : Record) → EditRecord q → Placed q → (record_step v fs q).fault ≡ 0 → PanelRange (record_step v fs q).panel
  unfolding record_step place_step
  record_range fs q (a_fault n) p z = r
  record_range fs q (an_area a) p z = subst PanelRange (sym (area-taken (at fs 1) (edges_of a) v z)) (added_range (at fs 1) (edges_of a))
  record_range fs q (a_track a min max) p z = one_track a min max
  record_range fs q (a_place a s e) p z =
      let x : Placement = record { axis = a; cell = false; start = placed_end (at fs 3) s; end = placed_end (at fs 6) e } in
      limited_by PanelRange v (ends_fault x.start x.end) (with_placement v x) r (λ f g. one_place x p)

pub edit_range : (v : PanelView) → PanelRange v → (fs : Line) → is_edit fs ≡ true → PanelRange (edit_step v fs).panel
unfolding edit_step
edit_range v r fs e = go (eqb (edit_fault v fs) 0) refl
  where
    w : PanelView
    w = reopened v

    taken : edit_fault v fs ≡ 0 → PanelRange (line_step w fs).panel
    taken z =
        let c = clean_line w fs (line_clean w fs z) in
        let same = alike_range v w (record { columns = refl; rows = refl; areas = refl; picture = refl; placements = refl; count = refl }) r in
        let x = (record_step w fs (record_of fs)).panel in
        subst PanelRange (sym c.panel)
        (alike_range x (at_stage (stage_of w (record_of fs)) x) (record { columns = refl; rows = refl; areas = refl; picture = refl; placements = refl; count = refl })
        (record_range w same fs (record_of fs) (edit_record fs e) (record_placed fs) c.step))

    go : (t : Bool) → eqb (edit_fault v fs) 0 ≡ t → PanelRange (cond t (accepted (line_step (reopened v) fs).panel) (refused (edit_fault v fs) v)).panel
    go true f = taken (eqb-true (edit_fault v fs) 0 f)
    go false f = r

-- one after the other
pub edits_range : (v : PanelView) → PanelRange v → (edits : List Edit) → AllEdits edits → PanelRange (edited_by v edits).panel
unfolding edited_by
edits_range v r [] all = r
edits_range v r (line fs ∷ edits) all = go (eqb (edit_step v fs).fault 0) (edits_range (edit_step v fs).panel (edit_range v r fs all.0) edits all.1)
  where
    go : (t : Bool) → PanelRange (edited_by (edit_step v fs).panel edits).panel → PanelRange (cond t (edited_by (edit_step v fs).panel edits) (edit_step v fs)).panel
    go true h = h
    go false h = edit_range v r fs all.0
edits_range v r (enter c ∷ edits) all = edits_range v r edits all
edits_range v r (unread ∷ edits) all = r

pub base_range : (s : List ℕ) → PanelRange (base_of s).view
base_range s = subst PanelRange (base_view s) (sheet_range s)
