-- The panel of any sheet fits the tables: every line keeps it so. Assumes nothing.
use Prim.Native.Nat.{ℕ, ◌+◌, ◌≤◌}
use mathlib.Core.Path.{◌≡◌, refl, sym, subst}
use mathlib.Core.List.{List, [], ◌∷◌}
use mathlib.Core.Bool.{Bool, true, false, cond, false≢true}
use mathlib.Core.Logic.{inl}
use native.Mathlib.Omega.{arith}
use lib.Dec.{eqb, leb, ltb}
use lib.ListN.{length, drop}
use borrow.Author.Tests.{eqb-true, eqb-false, leb-true, leb-false, ltb-false}
use Rattle.text.specs.Split.{split}
use Rattle.coordinates.specs.declared.axis.Axis.{Axis}
use Rattle.coordinates.specs.declared.axis.Axis.TheVariants.{Column, Row}
use Rattle.sheet_forms.specs.Said.{Record}
use Rattle.sheet_forms.specs.Said.{Fault, Axis as AxisLine, Area, Name, Track, Repeat, End, Spare, Extra, Item, Place, PictureRow, Cell}
use Rattle.sheet_forms.specs.Words.{at}
use Rattle.sheet_forms.specs.Records.{record_of}
use Rattle.axis_tables.specs.View.{AxisView, track_step, repeat_step, end_step, name_step, spare_step, item_step, extra_step, axis_step}
use Rattle.axis_tables.proofs.Kept.{track-fits, repeat-fits, end_fits, name-fits, spare-fits, item-fits, extra-fits, axis_fits}
use Rattle.panel_tables.specs.View.{PanelView, refused, accepted, empty_view}
use Rattle.panel_tables.specs.Axes.{view_in, with_view}
use Rattle.panel_tables.proofs.Axes.{axis_in_fits, step_in_fits}
use Rattle.panel_tables.proofs.Fits.{FitsPanel, raised-fits, area-fits, place-fits, cell-fits, empty_fits_panel}
use Rattle.picture_rules.specs.Picture.{Word}
use Rattle.picture_rules.specs.Steps.{rows_from}
use Rattle.sheet_forms.specs.Fields.{row_fault}
use Rattle.sheet_forms.proofs.Bounds.{Bounded}
use Rattle.sheet_forms.proofs.Theorem.{record_bounded}
use Rattle.sheet_rules.specs.Pictures.{areas_of, with_words, other_width, drawn_row, picture_step}
use Rattle.sheet_rules.proofs.LineRows.{late-no}
use Rattle.sheet_rules.proofs.Pictures.{row_taken, clean_line}
use Rattle.sheet_rules.proofs.RowSame.{bounded_row, row-good}
use Rattle.sheet_rules.specs.Lines.{bit, edges_of, placed_end, late_at, record_step, stage_of, record_fault, at_stage, line_step}
use Rattle.sheet_rules.specs.Sheet.{end_fault, outcome, ended, run, fold_of, display_of, sheet_of}

-- ---- pictures

-- where a row may be drawn, all areas are those of the picture
pub record FitsSheet (v : PanelView) : Type 0 where
  pub panel : FitsPanel v
  pub pictured : late_at 2 v.stage ≡ false → v.areas ≡ areas_of v.picture

row_fits : (v : PanelView) → FitsPanel v → v.areas ≡ areas_of v.picture → (ws : List Word) → row_fault ws ≡ 0 → FitsPanel (picture_step v ws).panel
unfolding picture_step
row_fits v f own ws z = go (leb 10000 (length v.picture)) (ltb 64 (length (areas_of (with_words v.picture ws)))) (other_width v.picture (length ws)) refl refl
  where
    drawn : leb 10000 (length v.picture) ≡ false → ltb 64 (length (areas_of (with_words v.picture ws))) ≡ false → FitsPanel (drawn_row v ws)
    drawn d e =
        record {
          columns = raised-fits v.columns (length ws + 1) f.columns;
          rows = raised-fits v.rows (length v.picture + 2) f.rows;
          areas = ltb-false 64 (length (areas_of (with_words v.picture ws))) e;
          drawn = row-good v f own ws z (leb-false 10000 (length v.picture) d) (ltb-false 64 (length (areas_of (with_words v.picture ws))) e);
          items = f.items;
          cells = f.cells;
          placed = f.placed;
          lines = f.lines;
        }

    go : (a b c : Bool) → leb 10000 (length v.picture) ≡ a → ltb 64 (length (areas_of (with_words v.picture ws))) ≡ b
        → FitsPanel (cond a (refused 8 v) (cond b (refused 8 v) (cond c (refused 13 v) (accepted (drawn_row v ws))))).panel
    go true b c d e = f
    go false true c d e = f
    go false false true d e = f
    go false false false d e = drawn d e

module _ (v : PanelView) (s : FitsSheet v) where
  abbrev f : FitsPanel v
  f = s.panel

  record-fits : (fs : List (List ℕ)) (r : Record) → Bounded fs r → FitsPanel (record_step v fs r).panel
  unfolding record_step
  record-fits fs (Fault n) b = f
  record-fits fs (AxisLine a) b = step_in_fits v a.axis (axis_step (view_in v a.axis) (bit a.definite) a.inner a.rule a.gap) f (axis_fits (view_in v a.axis) (axis_in_fits v a.axis f) (bit a.definite) a.inner a.rule a.gap)
  record-fits fs (Area a) b = area-fits v (at fs 1) (edges_of a) f
  record-fits fs (Name a) b = step_in_fits v a (name_step (view_in v a) (at fs 2)) f (name-fits (view_in v a) (axis_in_fits v a f) (at fs 2))
  record-fits fs (Track a min max) b = step_in_fits v a (track_step (view_in v a) min max) f (track-fits (view_in v a) (axis_in_fits v a f) min max)
  record-fits fs (Repeat a n) b = step_in_fits v a (repeat_step (view_in v a) n.kind n.number) f (repeat-fits (view_in v a) (axis_in_fits v a f) n.kind n.number)
  record-fits fs (End a) b = step_in_fits v a (end_step (view_in v a)) f (end_fits (view_in v a) (axis_in_fits v a f))
  record-fits fs (Spare a min max) b = step_in_fits v a (spare_step (view_in v a) min max) f (spare-fits (view_in v a) (axis_in_fits v a f) min max)
  record-fits fs (Extra a n p) b = step_in_fits v a (extra_step (view_in v a) n p) f (extra-fits (view_in v a) (axis_in_fits v a f) n p)
  record-fits fs (Item a i) b = step_in_fits v a (item_step (view_in v a) i) f (item-fits (view_in v a) (axis_in_fits v a f) i)
  record-fits fs (Place a u e) b = place-fits v a (placed_end (at fs 3) u) (placed_end (at fs 6) e) f
  record-fits fs (Cell cs ce rs re) b = cell-fits v (placed_end (at fs 2) cs) (placed_end (at fs 5) ce) (placed_end (at fs 8) rs) (placed_end (at fs 11) re) f
  record-fits fs (PictureRow n) b = go (late_at 2 v.stage) refl
    where
      go : (t : Bool) → late_at 2 v.stage ≡ t → FitsPanel (cond t (accepted v) (picture_step v (drop 1 fs))).panel
      go true e = f
      go false e = row_fits v f (s.pictured e) (drop 1 fs) (bounded_row (drop 1 fs) n b)

stage_fits : (n : ℕ) (v : PanelView) → FitsPanel v → FitsPanel (at_stage n v)
stage_fits n v f = record { columns = f.columns; rows = f.rows; areas = f.areas; drawn = f.drawn; items = f.items; cells = f.cells; placed = f.placed; lines = f.lines }

-- ---- a line

refused-line : (v : PanelView) (fs : List (List ℕ)) → ((line_step v fs).fault ≡ 0 → ⊥) → (line_step v fs).panel ≡ v
unfolding line_step
refused-line v fs = go (eqb (record_fault v fs (record_of fs)) 0) refl
  where
    r : Record
    r = record_of fs

    go : (t : Bool) → eqb (record_fault v fs r) 0 ≡ t → ((cond t (accepted (at_stage (stage_of v r) (record_step v fs r).panel)) (refused (record_fault v fs r) v)).fault ≡ 0 → ⊥)
        → (cond t (accepted (at_stage (stage_of v r) (record_step v fs r).panel)) (refused (record_fault v fs r) v)).panel ≡ v
    go true e h = absurd (h refl)
    go false e h = refl

-- what a record keeps pictured
record_pictured : (v : PanelView) → FitsSheet v → (fs : List (List ℕ)) (r : Record) → late_at (stage_of v r) v.stage ≡ false → (record_step v fs r).fault ≡ 0 → late_at 2 (stage_of v r) ≡ false
    → (record_step v fs r).panel.areas ≡ areas_of (record_step v fs r).panel.picture
unfolding record_step
record_pictured v s fs (Fault n) g z k = s.pictured k
record_pictured v s fs (AxisLine a) g z k = on a.axis _
  where
    none : v.stage ≤ 0
    none = pick (leb v.stage 0) refl
      where
        pick : (t : Bool) → leb v.stage 0 ≡ t → v.stage ≤ 0
        pick true e = leb-true v.stage 0 e
        pick false e = absurd (late-no 0 v.stage g (inl (leb-false v.stage 0 e)))

    first : (n : ℕ) → n ≤ 0 → late_at 2 n ≡ false
    first n h = rw (zero n h)
      where
        zero : (n : ℕ) → n ≤ 0 → n ≡ 0
        zero n h = omega arith

    on : (b : Axis) (y : AxisView) → (with_view v b y).areas ≡ areas_of (with_view v b y).picture
    on Column y = s.pictured (first v.stage none)
    on Row y = s.pictured (first v.stage none)
record_pictured v s fs (Area a) g z k = absurd (false≢true (sym k))
record_pictured v s fs (Name a) g z k = absurd (false≢true (sym k))
record_pictured v s fs (Track a min max) g z k = absurd (false≢true (sym k))
record_pictured v s fs (Repeat a n) g z k = absurd (false≢true (sym k))
record_pictured v s fs (End a) g z k = absurd (false≢true (sym k))
record_pictured v s fs (Spare a min max) g z k = absurd (false≢true (sym k))
record_pictured v s fs (Extra a n p) g z k = absurd (false≢true (sym k))
record_pictured v s fs (Item a i) g z k = absurd (false≢true (sym k))
record_pictured v s fs (Place a u e) g z k = absurd (false≢true (sym k))
record_pictured v s fs (Cell cs ce rs re) g z k = absurd (false≢true (sym k))
record_pictured v s fs (PictureRow n) g z k = drawn (late_at 2 v.stage) g z
  where
    drawn : (t : Bool) → t ≡ false → (cond t (accepted v) (picture_step v (drop 1 fs))).fault ≡ 0
        → (cond t (accepted v) (picture_step v (drop 1 fs))).panel.areas ≡ areas_of (cond t (accepted v) (picture_step v (drop 1 fs))).panel.picture
    drawn true e y = absurd (false≢true (sym e))
    drawn false e y = rw (row_taken v (drop 1 fs) y).panel

pub line-fits : (v : PanelView) → FitsSheet v → (fs : List (List ℕ)) → FitsSheet (line_step v fs).panel
line-fits v s fs = go (eqb (line_step v fs).fault 0) refl
  where
    go : (t : Bool) → eqb (line_step v fs).fault 0 ≡ t → FitsSheet (line_step v fs).panel
    go false e = subst FitsSheet (sym (refused-line v fs (eqb-false (line_step v fs).fault 0 e))) s
    go true e =
        let c = clean_line v fs (eqb-true (line_step v fs).fault 0 e) in
        let r = record_of fs in
        subst FitsSheet (sym c.panel)
        (record {
          panel = stage_fits (stage_of v r) (record_step v fs r).panel (record-fits v s fs r (record_bounded fs));
          pictured = λ k. record_pictured v s fs r c.timely c.step k;
        })

ended-fits : (n : ℕ) (v : PanelView) → FitsPanel v → FitsPanel (ended n v).view
unfolding ended
ended-fits n v f = go (eqb (end_fault v) 0)
  where
    go : (t : Bool) → FitsPanel (cond t (outcome 0 0 v) (outcome (end_fault v) n v)).view
    go true = f
    go false = f

run_fits : (n : ℕ) (ls : List (List ℕ)) (v : PanelView) → FitsSheet v → FitsPanel (run n ls v).view
unfolding run
run_fits n [] v f = ended-fits n v f.panel
run_fits n (l ∷ []) v f = go (eqb (length l) 0)
  where
    go : (t : Bool) → FitsPanel (cond t (ended n v) (outcome 1 n v)).view
    go true = ended-fits n v f.panel
    go false = f.panel
run_fits n (l ∷ m ∷ ls) v f = go (eqb (line_step v (split 9 l)).fault 0) (run_fits (n + 1) (m ∷ ls) (line_step v (split 9 l)).panel (line-fits v f (split 9 l)))
  where
    go : (t : Bool) → FitsPanel (run (n + 1) (m ∷ ls) (line_step v (split 9 l)).panel).view
        → FitsPanel (cond t (run (n + 1) (m ∷ ls) (line_step v (split 9 l)).panel) (outcome (line_step v (split 9 l)).fault n v)).view
    go true h = h
    go false h = f.panel

-- every sheet
pub empty_fits_sheet : FitsSheet empty_view
unfolding empty_view rows_from
empty_fits_sheet = record { panel = empty_fits_panel; pictured = λ h. refl }

pub display_fits : (s : List ℕ) → FitsPanel (display_of s).view
unfolding display_of fold_of
display_fits s = go (ltb 32768 (length s))
  where
    go : (t : Bool) → FitsPanel (cond t (outcome 1 0 empty_view) (run 1 (split 10 s) empty_view)).view
    go true = empty_fits_panel
    go false = run_fits 1 (split 10 s) empty_view empty_fits_sheet

pub sheet_fits : (s : List ℕ) → FitsPanel (sheet_of s).view
unfolding sheet_of
sheet_fits s = display_fits s
