-- An accepted line changes the columns, the areas and the placements by what these are and by its record alone, and a line of the row names or
-- the row template doesn't change them. Assumes nothing.
use Prim.Native.Nat.{ℕ, ◌+◌, ◌-◌}
use mathlib.Core.Path.{◌≡◌, refl, sym, ap, ◌∙◌}
use mathlib.Core.List.{List, [], ◌∷◌, ◌++◌, map, map-append}
use mathlib.Core.Bool.{Bool, true, false, cond, true≢false, false≢true}
use lib.Dec.{eqb, leb, ltb}
use lib.ListN.{length, get_or, drop, length-map}
use native.Mathlib.Omega.{arith}
use borrow.Author.Tests.{eqb-true}
use Rattle.coordinates.specs.declared.axis.Axis.{Axis}
use Rattle.coordinates.specs.declared.axis.Axis.TheVariants.{Column, Row}
use Rattle.std.proofs.lemmas.Bool.{and_parts}
use Rattle.text.specs.Split.{same}
use Rattle.text.proofs.Which.{same_equal}
use Rattle.sheet_forms.specs.Said.{Record}
use Rattle.sheet_forms.specs.Said.{Fault, Axis as AxisLine, Area, Name, Track, Repeat, End, Spare, Extra, Item, Place, PictureRow, Cell}
use Rattle.sheet_forms.specs.Words.{at, axis_words, kind_words}
use Rattle.sheet_forms.specs.Records.{record_of, fault_of}
use Rattle.sheet_forms.specs.Faults.{first_of}
use Rattle.sheet_forms.proofs.Firsts.{first_zero}
use Rattle.picture_rules.specs.Picture.{Word, Picture}
use Rattle.sheet_rules.specs.Pictures.{areas_of, with_words, other_width, drawn_row, picture_step}
use Rattle.sheet_forms.specs.Forms.{Kind, axis, area, spare, extra, item, place, row, cell, kind_number}
use Rattle.axis_tables.specs.View.{AxisView, AxisOutcome, empty_axis, track_step, repeat_step, end_step, name_step, spare_step, item_step, extra_step, axis_step, named_fault}
use Rattle.panel_tables.specs.declared.AreaEdges.{AreaEdges}
use Rattle.panel_tables.specs.View.{End as PlacedEnd, PanelView, refused, accepted, Area as DrawnArea, Placement, raised, edges_outside, area_step, ends_fault, lower, items, limited_step, with_placement, place_step, half, with_cell, cell_step}
use Rattle.panel_tables.specs.Axes.{view_in, step_in}
use Rattle.sheet_rules.specs.Lines.{bit, late_at, edges_of, placed_end, record_step, twice_fault, stage_of, late_fault, record_fault, at_stage, line_step}
use Rattle.sheet_rules.specs.Rows.{OnAxis}
use Rattle.sheet_rules.proofs.Says.{Says, record_says, one_axis}
use Rattle.panel_rules.specs.Alone.{template_word, row_template_line}

-- the cells without their lines, which other lines of a sheet move
abbrev unnumbered : List ℕ → List ℕ
unnumbered lines = map (λ n. 0) lines

abbrev alone : AxisView → List DrawnArea → Picture → List Placement → List ℕ → PanelView
alone columns areas picture placements cells =
    record { columns = columns; rows = empty_axis; areas = areas; picture = picture; placements = placements; cells = cells; stage = 0; lines = 0 }

-- a view of which the rows, the stage and all lines are forgotten
abbrev pub only_columns : PanelView → PanelView
only_columns v = alone v.columns v.areas v.picture v.placements (unnumbered v.cells)

unnumbered-twice : (lines : List ℕ) → unnumbered (unnumbered lines) ≡ unnumbered lines
unnumbered-twice [] = refl
unnumbered-twice (n ∷ lines) = ap (λ (l : List ℕ). 0 ∷ l) (unnumbered-twice lines)

twice : (c : AxisView) (areas : List DrawnArea) (p : Picture) (ps : List Placement) (lines : List ℕ) → alone c areas p ps (unnumbered lines) ≡ alone c areas p ps (unnumbered (unnumbered lines))
twice c areas p ps lines = ap (alone c areas p ps) (sym (unnumbered-twice lines))

pub only-twice : (v : PanelView) → only_columns (only_columns v) ≡ only_columns v
only-twice v = sym (twice v.columns v.areas v.picture v.placements v.cells)

-- ---- one record

on_axis_lem : (v : PanelView) (a : Axis) (step : AxisView → AxisOutcome)
    → only_columns (step_in v a (step (view_in v a))).panel ≡ only_columns (step_in (only_columns v) a (step (view_in (only_columns v) a))).panel
on_axis_lem v Column step = twice _ v.areas v.picture v.placements v.cells
on_axis_lem v Row step = twice v.columns v.areas v.picture v.placements v.cells

area_columns : (v : PanelView) (n : List ℕ) (e : AreaEdges) → only_columns (area_step v n e).panel ≡ only_columns (area_step (only_columns v) n e).panel
unfolding area_step
area_columns v n e = go (edges_outside e) (ltb 32 (length n)) (leb 64 (length v.areas))
  where
    more : PanelView → PanelView
    more x =
        record {
          columns = raised x.columns e.columnend;
          rows = raised x.rows e.rowend;
          areas = x.areas ++ (record { name = n; edges = e } ∷ []);
          picture = x.picture;
          placements = x.placements;
          cells = x.cells;
          stage = x.stage;
          lines = x.lines;
        }

    go : (s t u : Bool)
        → only_columns (cond s (refused (named_fault (length n) 4) v) (cond t (refused 2 v) (cond u (refused 8 v) (accepted (more v))))).panel
        ≡ only_columns (cond s (refused (named_fault (length n) 4) (only_columns v)) (cond t (refused 2 (only_columns v)) (cond u (refused 8 (only_columns v)) (accepted (more (only_columns v)))))).panel
    go true t u = sym (only-twice v)
    go false true u = sym (only-twice v)
    go false false true = sym (only-twice v)
    go false false false = twice (raised v.columns e.columnend) (v.areas ++ (record { name = n; edges = e } ∷ [])) v.picture v.placements v.cells

-- whether there is room for one item more
limited_columns : (v : PanelView) (fault : ℕ) (more : PanelView → PanelView) → only_columns (more v) ≡ only_columns (more (only_columns v))
    → only_columns (limited_step v fault (more v)).panel ≡ only_columns (limited_step (only_columns v) fault (more (only_columns v))).panel
unfolding limited_step
limited_columns v fault more h = go (eqb fault 0) (leb 256 (items v)) (leb 256 (items (only_columns v))) (ap (λ (k : ℕ). leb 256 (length v.placements - k)) (length-map v.cells (λ n. 0)))
  where
    by : Bool → Bool → PanelView → PanelView
    by s t x = (cond s (cond t (refused 8 x) (accepted (more x))) (refused fault x)).panel

    go : (s t u : Bool) → u ≡ t → only_columns (by s t v) ≡ only_columns (by s u (only_columns v))
    go true true true e = sym (only-twice v)
    go true true false e = absurd (false≢true e)
    go true false true e = absurd (true≢false e)
    go true false false e = h
    go false t u e = sym (only-twice v)

place_columns : (v : PanelView) (a : Axis) (s e : PlacedEnd) → only_columns (place_step v a s e).panel ≡ only_columns (place_step (only_columns v) a s e).panel
unfolding place_step
place_columns v a s e =
    let p : Placement = record { axis = a; cell = false; start = s; end = e } in
    limited_columns v (ends_fault s e) (λ x. with_placement x p) (twice v.columns v.areas v.picture (v.placements ++ (p ∷ [])) v.cells)

cell_columns : (v : PanelView) (cs ce rs re : PlacedEnd) → only_columns (cell_step v cs ce rs re).panel ≡ only_columns (cell_step (only_columns v) cs ce rs re).panel
unfolding cell_step
cell_columns v cs ce rs re =
    let c : Placement = half Column cs ce in
    let r : Placement = half Row rs re in
    limited_columns v (lower (ends_fault cs ce) (ends_fault rs re)) (λ x. with_cell x c r)
    (ap (alone v.columns v.areas v.picture ((v.placements ++ (c ∷ [])) ++ (r ∷ [])))
    (map-append (λ n. 0) v.cells (_ ∷ []) ∙ ap (λ (l : List ℕ). l ++ (0 ∷ [])) (sym (unnumbered-twice v.cells)) ∙ sym (map-append (λ n. 0) (unnumbered v.cells) (_ ∷ []))))

row_columns : (v : PanelView) (ws : List Word) → only_columns (picture_step v ws).panel ≡ only_columns (picture_step (only_columns v) ws).panel
unfolding picture_step
row_columns v ws = go (leb 10000 (length v.picture)) (ltb 64 (length (areas_of (with_words v.picture ws)))) (other_width v.picture (length ws))
  where
    by : Bool → Bool → Bool → PanelView → PanelView
    by b c d x = (cond b (refused 8 x) (cond c (refused 8 x) (cond d (refused 13 x) (accepted (drawn_row x ws))))).panel

    go : (b c d : Bool) → only_columns (by b c d v) ≡ only_columns (by b c d (only_columns v))
    go true c d = sym (only-twice v)
    go false true d = sym (only-twice v)
    go false false true = sym (only-twice v)
    go false false false = twice (raised v.columns (length ws + 1)) (areas_of (with_words v.picture ws)) (with_words v.picture ws) v.placements v.cells

-- a row that is not late: of the stage nothing else is asked
abbrev Timely : PanelView → Record → Type 0
Timely v (Fault n) = Unit {0}
Timely v (AxisLine a) = Unit {0}
Timely v (Area a) = Unit {0}
Timely v (Name a) = Unit {0}
Timely v (Track a min max) = Unit {0}
Timely v (Repeat a n) = Unit {0}
Timely v (End a) = Unit {0}
Timely v (Spare a min max) = Unit {0}
Timely v (Extra a n p) = Unit {0}
Timely v (Item a i) = Unit {0}
Timely v (Place a s e) = Unit {0}
Timely v (Cell cs ce rs re) = Unit {0}
Timely v (PictureRow n) = late_at 2 v.stage ≡ false

record_columns : (v : PanelView) (fs : List (List ℕ)) (r : Record) → Timely v r → only_columns (record_step v fs r).panel ≡ only_columns (record_step (only_columns v) fs r).panel
unfolding record_step
record_columns v fs (Fault n) h = sym (only-twice v)
record_columns v fs (AxisLine a) h = on_axis_lem v a.axis (λ x. axis_step x (bit a.definite) a.inner a.rule a.gap)
record_columns v fs (Area a) h = area_columns v (at fs 1) (edges_of a)
record_columns v fs (Name a) h = on_axis_lem v a (λ x. name_step x (at fs 2))
record_columns v fs (Track a min max) h = on_axis_lem v a (λ x. track_step x min max)
record_columns v fs (Repeat a n) h = on_axis_lem v a (λ x. repeat_step x n.kind n.number)
record_columns v fs (End a) h = on_axis_lem v a end_step
record_columns v fs (Spare a min max) h = on_axis_lem v a (λ x. spare_step x min max)
record_columns v fs (Extra a n p) h = on_axis_lem v a (λ x. extra_step x n p)
record_columns v fs (Item a i) h = on_axis_lem v a (λ x. item_step x i)
record_columns v fs (Place a s e) h = place_columns v a (placed_end (at fs 3) s) (placed_end (at fs 6) e)
record_columns v fs (Cell cs ce rs re) h = cell_columns v (placed_end (at fs 2) cs) (placed_end (at fs 5) ce) (placed_end (at fs 8) rs) (placed_end (at fs 11) re)
record_columns v fs (PictureRow n) h = rw h (row_columns v (drop 1 fs))

-- ---- one line

-- a line that is accepted is not late
timely : (v : PanelView) (fs : List (List ℕ)) (r : Record) → record_fault v fs r ≡ 0 → Timely v r
unfolding record_fault
timely v fs (Fault n) z = tt
timely v fs (AxisLine a) z = tt
timely v fs (Area a) z = tt
timely v fs (Name a) z = tt
timely v fs (Track a min max) z = tt
timely v fs (Repeat a n) z = tt
timely v fs (End a) z = tt
timely v fs (Spare a min max) z = tt
timely v fs (Extra a n p) z = tt
timely v fs (Item a i) z = tt
timely v fs (Place a s e) z = tt
timely v fs (Cell cs ce rs re) z = tt
timely v fs (PictureRow n) z = go (late_at 2 v.stage) (late z)
  where
    late : record_fault v fs (PictureRow n) ≡ 0 → late_fault v (PictureRow n) ≡ 0
    late y =
        (first_zero (late_fault v (PictureRow n)) (record_step v fs (PictureRow n)).fault
        (first_zero (twice_fault v fs (PictureRow n)) (first_of (late_fault v (PictureRow n)) (record_step v fs (PictureRow n)).fault)
        (first_zero (fault_of (PictureRow n)) (first_of (twice_fault v fs (PictureRow n)) (first_of (late_fault v (PictureRow n)) (record_step v fs (PictureRow n)).fault)) y).1).1).0

    go : (t : Bool) → ◌≡◌ {A = ℕ} (cond t 7 0) 0 → t ≡ false
    go true y = absurd (omega arith)
    go false y = refl

-- what a line does to the columns, the areas and the placements
abbrev pub column_step : PanelView → List (List ℕ) → PanelView
column_step v fs = only_columns (record_step v fs (record_of fs)).panel

pub line_columns : (v : PanelView) (fs : List (List ℕ)) → eqb (line_step v fs).fault 0 ≡ true → only_columns (line_step v fs).panel ≡ column_step (only_columns v) fs
unfolding line_step
line_columns v fs = go (eqb (record_fault v fs (record_of fs)) 0) refl
  where
    n : ℕ
    n = record_fault v fs (record_of fs)

    go : (t : Bool) → eqb n 0 ≡ t → eqb (cond t (accepted (at_stage (stage_of v (record_of fs)) (record_step v fs (record_of fs)).panel)) (refused n v)).fault 0 ≡ true
        → only_columns (cond t (accepted (at_stage (stage_of v (record_of fs)) (record_step v fs (record_of fs)).panel)) (refused n v)).panel ≡ column_step (only_columns v) fs
    go true e z = record_columns v fs (record_of fs) (timely v fs (record_of fs) (eqb-true n 0 e))
    go false e z = absurd (true≢false (sym z ∙ e))

-- ---- a line of the row names or the row template

-- a word of another kind
no_word : (f : List ℕ) (k : Kind) → f ≡ get_or kind_words (kind_number k) [] → template_word (get_or kind_words (kind_number k) []) ≡ false → template_word f ≡ true → ⊥
no_word f k e z t = true≢false (sym t ∙ ap template_word e ∙ z)

pub row_line_lem : (v : PanelView) (fs : List (List ℕ)) → row_template_line fs ≡ true → column_step v fs ≡ only_columns v
unfolding row_template_line record_step same
row_line_lem v fs t = go (record_of fs) (record_says fs)
  where
    word : template_word (at fs 0) ≡ true
    word = (and_parts (template_word (at fs 0)) (same (at fs 1) (get_or axis_words 1 [])) t).0

    axis_word_lem : at fs 1 ≡ get_or axis_words 1 []
    axis_word_lem = same_equal (at fs 1) (get_or axis_words 1 []) (and_parts (template_word (at fs 0)) (same (at fs 1) (get_or axis_words 1 [])) t).1

    on-rows : (a : Axis) (o : AxisOutcome) → OnAxis fs a → only_columns (step_in v a o).panel ≡ only_columns v
    on-rows a o h = rw (one_axis fs a Row h axis_word_lem)

    go : (r : Record) → Says fs r → only_columns (record_step v fs r).panel ≡ only_columns v
    go (Fault n) h = refl
    go (AxisLine a) h = absurd (no_word (at fs 0) axis h.0.word refl word)
    go (Area a) h = absurd (no_word (at fs 0) area h.word refl word)
    go (Name a) h = on-rows a (name_step (view_in v a) (at fs 2)) h.1
    go (Track a min max) h = on-rows a (track_step (view_in v a) min max) h.1
    go (Repeat a n) h = on-rows a (repeat_step (view_in v a) n.kind n.number) h.1
    go (End a) h = on-rows a (end_step (view_in v a)) h.1
    go (Spare a min max) h = absurd (no_word (at fs 0) spare h.0.word refl word)
    go (Extra a n p) h = absurd (no_word (at fs 0) extra h.0.word refl word)
    go (Item a i) h = absurd (no_word (at fs 0) item h.0.word refl word)
    go (Place a s e) h = absurd (no_word (at fs 0) place h.0.word refl word)
    go (PictureRow n) h = absurd (no_word (at fs 0) row h.word refl word)
    go (Cell cs ce rs re) h = absurd (no_word (at fs 0) cell h.word refl word)
