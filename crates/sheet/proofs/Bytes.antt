-- A sheet is too short to fill the names of an axis: each `name` line takes 8 bytes beside its name. Assumes nothing.
use Prim.Native.Nat.{ℕ, ◌+◌, ◌≤◌, ◌<◌}
use mathlib.Core.Path.{◌≡◌, refl, sym, ap, subst}
use mathlib.Core.List.{List, [], ◌∷◌, ◌++◌}
use mathlib.Core.Bool.{Bool, true, false, cond}
use native.Mathlib.Omega.{arith}
use lib.Dec.{eqb, leb, ltb}
use lib.ListN.{length, get_or, drop, length-append}
use borrow.Author.Tests.{ltb-false}
use Rattle.coordinates.specs.declared.axis.Axis.{Axis}
use Rattle.coordinates.specs.declared.axis.Axis.TheVariants.{Column, Row}
use Rattle.text.specs.Split.{split}
use Rattle.text.proofs.Cut.{join, join-split}
use Rattle.sheet_forms.specs.Said.{Record}
use Rattle.sheet_forms.specs.Said.{Fault, Axis as AxisLine, Area, Name, Track, Repeat, End as EndLine, Spare, Extra, Item, Place, PictureRow, Cell}
use Rattle.sheet_forms.specs.Words.{at}
use Rattle.sheet_forms.specs.Forms.{name as name_kind, Of}
use Rattle.sheet_forms.specs.Records.{record_of}
use Rattle.sheet_forms.proofs.Bounds.{Bounded}
use Rattle.sheet_forms.proofs.Theorem.{record_bounded}
use Rattle.axis_tables.specs.Runs.{bytes_of}
use Rattle.axis_tables.specs.View.{AxisView, NameRecord, empty_axis, name_of, axis_names, axis_bytes, name_step, named_fault}
use Rattle.panel_tables.specs.declared.AreaEdges.{AreaEdges}
use Rattle.panel_tables.specs.View.{End, Placement, PanelView, PanelOutcome, empty_view, refused as refused_panel, accepted as accepted_panel, raised, area_step, ends_fault, lower, limited_step, with_item, place_step, cell_step, edges_outside}
use Rattle.panel_tables.proofs.Fits.{limited_by}
use Rattle.panel_tables.specs.Axes.{view_in, with_view}
use Rattle.picture_rules.specs.Picture.{Word}
use Rattle.sheet_rules.specs.Pictures.{areas_of, with_words, other_width, drawn_row, picture_step}
use Rattle.sheet_rules.specs.Lines.{bit, edges_of, placed_end, late_at, record_step, stage_of, record_fault, at_stage, line_step}
use Rattle.sheet_rules.specs.Rows.{OnAxis}
use Rattle.sheet_rules.specs.Sheet.{end_fault, outcome, ended, run, fold_of, display_of, sheet_of}
use Rattle.sheet_rules.proofs.Says.{Says, record_says}
use Rattle.sheet.proofs.Names.{Within, within_more, track-names, repeat_names, end-names, spare-names, item-names, extra-names, axis_names_lem, name-within}

-- ---- the bytes of a line of three fields

-- with two tabs
three : (ps : List (List ℕ)) → length ps ≡ 3 → length (join 9 ps) ≡ length (get_or ps 0 []) + length (get_or ps 1 []) + length (get_or ps 2 []) + 2
unfolding join
three [] e = absurd (omega arith)
three (p ∷ []) e = absurd (omega arith)
three (p ∷ q ∷ []) e = absurd (omega arith)
three (p ∷ q ∷ r ∷ []) e = omega (arith, length-append p (9 ∷ (q ++ 9 ∷ r)), length-append q (9 ∷ r))
three (p ∷ q ∷ r ∷ s ∷ ps) e = absurd (omega arith)

-- `name`, a tab, the axis, a tab, the name
name-line : (l : List ℕ) (a : Axis) → Of (split 9 l) name_kind → OnAxis (split 9 l) a → length l ≡ length (at (split 9 l) 2) + 7
name-line l a o x =
    let fs : List (List ℕ) = split 9 l in
    omega (arith, ap length (join-split 9 l), three fs o.fields, ap length o.word, axis-byte fs a x)
  where
    axis-byte : (fs : List (List ℕ)) (a : Axis) → OnAxis fs a → length (at fs 1) ≡ 1
    axis-byte fs Column x = ap length x
    axis-byte fs Row x = ap length x

-- ---- one line on a panel

-- both axes
abbrev BothWithin : ℕ → PanelView → Type 0
BothWithin n v = (a : Axis) → Within n (axis_names (view_in v a))

module _ (v : PanelView) (n k : ℕ) (p : BothWithin n v) where
  -- nothing is written
  stays : BothWithin (n + k) v
  stays a = within_more n (n + k) (axis_names (view_in v a)) (omega arith) (p a)

  -- one axis changes
  steps : (b : Axis) (x : AxisView) → Within (n + k) (axis_names x) → BothWithin (n + k) (with_view v b x)
  steps Column x q Column = q
  steps Column x q Row = stays Row
  steps Row x q Column = stays Column
  steps Row x q Row = q

  -- and keeps its names
  kept : (b : Axis) (x : AxisView) → axis_names x ≡ axis_names (view_in v b) → BothWithin (n + k) (with_view v b x)
  kept b x e = steps b x (subst (Within (n + k)) (sym e) (stays b))

  -- refused or accepted
  cond-within : (t : Bool) (x y : PanelOutcome) → BothWithin (n + k) x.panel → BothWithin (n + k) y.panel → BothWithin (n + k) (cond t x y).panel
  cond-within true x y a b = a
  cond-within false x y a b = b

  -- what is no record of an axis writes no name
  area-within : (m : List ℕ) (e : AreaEdges) → BothWithin (n + k) (area_step v m e).panel
  unfolding area_step
  area-within m e =
      cond-within (edges_outside e) (refused_panel (named_fault (length m) 4) v) _ stays
      (cond-within (ltb 32 (length m)) (refused_panel 2 v) _ stays (cond-within (leb 64 (length v.areas)) (refused_panel 8 v) _ stays drawn))
    where
      drawn : (a : Axis) → Within (n + k) (axis_names (view_in (record {
        columns = raised v.columns e.columnend;
        rows = raised v.rows e.rowend;
        areas = v.areas ++ (record { name = m; edges = e } ∷ []);
        picture = v.picture;
        placements = v.placements;
        cells = v.cells;
        stage = v.stage;
        lines = v.lines;
      }) a))
      drawn Column = stays Column
      drawn Row = stays Row

  item-within : (fault : ℕ) (ps : List Placement) (cs : List ℕ) → BothWithin (n + k) (limited_step v fault (with_item v ps cs)).panel
  item-within fault ps cs = limited_by (BothWithin (n + k)) v fault (with_item v ps cs) stays (λ x y. placed)
    where
      placed : (a : Axis) → Within (n + k) (axis_names (view_in (with_item v ps cs) a))
      placed Column = stays Column
      placed Row = stays Row

  place-within : (b : Axis) (s e : End) → BothWithin (n + k) (place_step v b s e).panel
  unfolding place_step
  place-within b s e = item-within (ends_fault s e) _ _

  cell-within : (cs ce rs re : End) → BothWithin (n + k) (cell_step v cs ce rs re).panel
  unfolding cell_step
  cell-within cs ce rs re = item-within (lower (ends_fault cs ce) (ends_fault rs re)) _ _

  row_within : (ws : List Word) → BothWithin (n + k) (picture_step v ws).panel
  unfolding picture_step
  row_within ws =
      cond-within (leb 10000 (length v.picture)) (refused_panel 8 v) _ stays
      (cond-within (ltb 64 (length (areas_of (with_words v.picture ws)))) (refused_panel 8 v) _ stays (cond-within (other_width v.picture (length ws)) (refused_panel 13 v) _ stays drawn))
    where
      drawn : (a : Axis) → Within (n + k) (axis_names (view_in (drawn_row v ws) a))
      drawn Column = stays Column
      drawn Row = stays Row

  -- a `name` line of at least 8 bytes beside its name, or any other line
  record-within : (fs : List (List ℕ)) (r : Record) → ((a : Axis) → r ≡ Name a → (1 ≤ length (at fs 2)) × (length (at fs 2) + 8 ≤ k)) → BothWithin (n + k) (record_step v fs r).panel
  unfolding record_step
  record-within fs (Fault m) h = stays
  record-within fs (AxisLine a) h = kept a.axis _ (axis_names_lem (view_in v a.axis) (bit a.definite) a.inner a.rule a.gap)
  record-within fs (Area a) h = area-within (at fs 1) (edges_of a)
  record-within fs (Name a) h =
      let x : AxisView = view_in v a in
      let q = h a refl in
      steps a (name_step x (at fs 2)).axis (name-within x x.template x.unended (at fs 2) n k q.0 q.1 (p a))
  record-within fs (Track a min max) h = kept a _ (track-names (view_in v a) (view_in v a).template (view_in v a).unended min max)
  record-within fs (Repeat a m) h = kept a _ (repeat_names (view_in v a) (view_in v a).template (view_in v a).unended m.kind m.number)
  record-within fs (EndLine a) h = kept a _ (end-names (view_in v a) (view_in v a).template (view_in v a).unended)
  record-within fs (Spare a min max) h = kept a _ (spare-names (view_in v a) min max)
  record-within fs (Extra a m l) h = kept a _ (extra-names (view_in v a) m l)
  record-within fs (Item a i) h = kept a _ (item-names (view_in v a) i)
  record-within fs (Place a s e) h = place-within a (placed_end (at fs 3) s) (placed_end (at fs 6) e)
  record-within fs (Cell cs ce rs re) h = cell-within (placed_end (at fs 2) cs) (placed_end (at fs 5) ce) (placed_end (at fs 8) rs) (placed_end (at fs 11) re)
  record-within fs (PictureRow m) h = cond-within (late_at 2 v.stage) (accepted_panel v) _ stays (row_within (drop 1 fs))

-- the kind order holds no name
stage_within : (n m : ℕ) (v : PanelView) → BothWithin n v → BothWithin n (at_stage m v)
stage_within n m v p Column = p Column
stage_within n m v p Row = p Row

-- its line feed included
line-within : (v : PanelView) (n : ℕ) (l : List ℕ) → BothWithin n v → BothWithin (n + (length l + 1)) (line_step v (split 9 l)).panel
unfolding line_step
line-within v n l p = go (eqb (record_fault v fs r) 0)
  where
    fs : List (List ℕ)
    fs = split 9 l

    r : Record
    r = record_of fs

    k : ℕ
    k = length l + 1

    long : (a : Axis) → r ≡ Name a → (1 ≤ length (at fs 2)) × (length (at fs 2) + 8 ≤ k)
    long a e =
        let s : Says fs (Name a) = subst (Says fs) e (record_says fs) in
        let b : Bounded fs (Name a) = subst (Bounded fs) e (record_bounded fs) in
        (b.some, omega (arith, name-line l a s.0 s.1))

    go : (t : Bool) → BothWithin (n + k) (cond t (accepted_panel (at_stage (stage_of v r) (record_step v fs r).panel)) (refused_panel (record_fault v fs r) v)).panel
    go true = stage_within (n + k) (stage_of v r) (record_step v fs r).panel (record-within v n k p fs r long)
    go false = stays v n k p

-- ---- a sheet

-- after the last line
ended-within : (n m k : ℕ) (v : PanelView) → BothWithin m v → BothWithin (m + k) (ended n v).view
unfolding ended
ended-within n m k v p = go (eqb (end_fault v) 0)
  where
    go : (t : Bool) → BothWithin (m + k) (cond t (outcome 0 0 v) (outcome (end_fault v) n v)).view
    go true = stays v m k p
    go false = stays v m k p

-- a line with its line feed
joined : (m : ℕ) (l o : List ℕ) (ls : List (List ℕ)) → m + (length l + 1) + length (join 10 (o ∷ ls)) ≡ m + length (join 10 (l ∷ o ∷ ls))
unfolding join
joined m l o ls = omega (arith, length-append l (10 ∷ join 10 (o ∷ ls)))

-- from any line on
run-within : (n : ℕ) (ls : List (List ℕ)) (v : PanelView) (m : ℕ) → BothWithin m v → BothWithin (m + length (join 10 ls)) (run n ls v).view
unfolding run
run-within n [] v m p = ended-within n m (length (join 10 [])) v p
run-within n (l ∷ []) v m p = go (eqb (length l) 0)
  where
    go : (t : Bool) → BothWithin (m + length (join 10 (l ∷ []))) (cond t (ended n v) (outcome 1 n v)).view
    go true = ended-within n m (length (join 10 (l ∷ []))) v p
    go false = stays v m (length (join 10 (l ∷ []))) p
run-within n (l ∷ o ∷ ls) v m p =
    go (eqb (line_step v (split 9 l)).fault 0) (run-within (n + 1) (o ∷ ls) (line_step v (split 9 l)).panel (m + (length l + 1)) (line-within v m l p))
  where
    all : ℕ
    all = length (join 10 (l ∷ o ∷ ls))

    go : (t : Bool) → BothWithin (m + (length l + 1) + length (join 10 (o ∷ ls))) (run (n + 1) (o ∷ ls) (line_step v (split 9 l)).panel).view
        → BothWithin (m + all) (cond t (run (n + 1) (o ∷ ls) (line_step v (split 9 l)).panel) (outcome (line_step v (split 9 l)).fault n v)).view
    go true q = λ a. subst (λ (j : ℕ). Within j (axis_names (view_in (run (n + 1) (o ∷ ls) (line_step v (split 9 l)).panel).view a))) (joined m l o ls) (q a)
    go false q = stays v m all p

-- nothing is read
none_within : (n : ℕ) → BothWithin n empty_view
unfolding empty_view empty_axis
none_within n Column = record { names = omega arith; bytes = omega arith }
none_within n Row = record { names = omega arith; bytes = omega arith }

-- names that a sheet can have don't fill a store of its size
not_full : (ns : List NameRecord) → Within 32768 ns → (length ns < 4096) × (length (bytes_of name_of ns) < 32768)
not_full [] p = (omega arith, omega arith)
not_full (n ∷ ns) p = (omega (arith, p.names), omega (arith, p.bytes))

-- a sheet that is read has at most 32,768 bytes
sheet_within : (s : List ℕ) → BothWithin 32768 (sheet_of s).view
unfolding sheet_of display_of fold_of
sheet_within s = go (ltb 32768 (length s)) refl
  where
    go : (t : Bool) → ltb 32768 (length s) ≡ t → BothWithin 32768 (cond t (outcome 1 0 empty_view) (run 1 (split 10 s) empty_view)).view
    go true e = none_within 32768
    go false e = λ a.
        within_more (0 + length (join 10 (split 10 s))) 32768 _ (omega (arith, ltb-false 32768 (length s) e, ap length (join-split 10 s)))
        (run-within 1 (split 10 s) empty_view 0 (none_within 0) a)

-- no sheet has 4,096 names on an axis
pub few-names : (s : List ℕ) (a : Axis) → length (axis_names (view_in (sheet_of s).view a)) < 4096
few-names s a = (not_full (axis_names (view_in (sheet_of s).view a)) (sheet_within s a)).0

-- nor names of 32,768 bytes
pub few_bytes : (s : List ℕ) (a : Axis) → length (axis_bytes (view_in (sheet_of s).view a)) < 32768
few_bytes s a = (not_full (axis_names (view_in (sheet_of s).view a)) (sheet_within s a)).1
