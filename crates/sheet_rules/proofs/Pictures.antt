-- The rows of a picture: a row that is accepted, and the last of them. Assumes nothing.
use Prim.Native.Nat.{ℕ, ◌≤◌, ◌<◌}
use mathlib.Core.Path.{◌≡◌, refl, sym, ap, ◌∙◌, subst}
use mathlib.Core.List.{List, [], ◌∷◌, ◌++◌}
use mathlib.Core.Bool.{Bool, true, false, cond, not, ◌&&◌, ◌||◌, false≢true}
use mathlib.Core.Logic.{◌⊎◌, inl, inr, ◌↔◌}
use native.Mathlib.Omega.{arith}
use lib.Dec.{eqb, leb, ltb}
use lib.ListN.{length, drop}
use borrow.Author.Tests.{eqb-true, eqb-false, le-ltb, leb-false, ltb-false}
use Rattle.picture_rules.specs.Picture.{Word}
use Rattle.picture_rules.specs.Steps.{taken_of}
use Rattle.picture_rules.proofs.Theorem.{picture_exactly}
use Rattle.sheet_forms.specs.Said.{Record}
use Rattle.sheet_forms.specs.Said.{Fault, Axis as AxisLine, Area, Name, Track, Repeat, End, Spare, Extra, Item, Place, PictureRow, Cell}
use Rattle.sheet_forms.specs.Faults.{first_of}
use Rattle.sheet_forms.specs.Fields.{row_fault}
use Rattle.sheet_forms.specs.Records.{unless, row_line, record_of, fault_of}
use Rattle.sheet_forms.specs.Forms.{Kind, axis, area, name, track, repeat, end, spare, extra, item, place, row, cell, Of}
use Rattle.sheet_forms.proofs.Firsts.{first_zero}
use Rattle.sheet_forms.proofs.LineFaults.{line_record}
use Rattle.coordinates.specs.declared.axis.Axis.{Axis}
use Rattle.coordinates.specs.declared.axis.Axis.TheVariants.{Column, Row}
use Rattle.sheet_forms.specs.Words.{at}
use Rattle.axis_tables.specs.View.{AxisView, named_fault}
use Rattle.panel_tables.specs.declared.AreaEdges.{AreaEdges}
use Rattle.panel_tables.specs.View.{End as PlacedEnd, PanelView, PanelOutcome, refused, accepted, raised, edges_outside, area_step, ends_fault, lower, place_step, cell_step}
use Rattle.panel_tables.specs.Axes.{with_view}
use Rattle.panel_tables.proofs.Fits.{limited_by}
use Rattle.sheet_rules.specs.Kinds.{is_kind, is_one, later_kinds, row_follows}
use Rattle.sheet_rules.specs.Contents.{Line, words_in}
use Rattle.sheet_rules.specs.Pictures.{areas_of, with_words, other_width, drawn_row, picture_step}
use Rattle.sheet_rules.specs.Lines.{edges_of, placed_end, late_at, record_step, twice_fault, stage_of, late_fault, record_fault, at_stage, line_step}
use Rattle.sheet_rules.specs.Sheet.{broken_at}
use Rattle.sheet_rules.specs.Rows.{PictureKind, RowFollows, here, there, BrokenBy}
use Rattle.sheet_rules.proofs.KindTest.{kind_exactly}
use Rattle.sheet_rules.proofs.Says.{Says, record_says}
use Rattle.sheet_rules.proofs.LineRows.{late-no}

-- ---- the lines after a row

abbrev In : Kind → List Kind → Type 0
In k [] = ⊥
In k (j ∷ ks) = (j ≡ k) ⊎ In k ks

one-not : (ks : List Kind) (fs : Line) → is_one ks fs ≡ false → (k : Kind) → In k ks → Of fs k → ⊥
one-not [] fs e k i o = i
one-not (j ∷ ks) fs e k i o = go (one-not ks fs) (is_kind j fs) refl e i
  where
    go : (is_one ks fs ≡ false → (k : Kind) → In k ks → Of fs k → ⊥) → (t : Bool) → is_kind j fs ≡ t → (t || is_one ks fs) ≡ false → (j ≡ k) ⊎ In k ks → ⊥
    go rest true q z m = false≢true (sym z)
    go rest false q z (inl m) = false≢true (sym q ∙ (kind_exactly j fs).1 (subst (Of fs) (sym m) o))
    go rest false q z (inr m) = rest z k m o

one-is : (ks : List Kind) (fs : Line) → is_one ks fs ≡ true → (k : Kind) × In k ks × Of fs k
one-is [] fs e = absurd (false≢true e)
one-is (j ∷ ks) fs e = go (one-is ks fs) (is_kind j fs) refl e
  where
    go : (is_one ks fs ≡ true → (k : Kind) × In k ks × Of fs k) → (t : Bool) → is_kind j fs ≡ t → (t || is_one ks fs) ≡ true → (k : Kind) × In k (j ∷ ks) × Of fs k
    go rest true q z = (j, inl refl, (kind_exactly j fs).0 q)
    go rest false q z = let m = rest z in (m.0, inr m.1, m.2)

-- a kind ends a picture or does not
kind_or : (k : Kind) → PictureKind k ⊎ In k later_kinds
kind_or axis = inl tt
kind_or area = inr (inl refl)
kind_or name = inr (inr (inl refl))
kind_or track = inr (inr (inr (inl refl)))
kind_or repeat = inr (inr (inr (inr (inl refl))))
kind_or end = inr (inr (inr (inr (inr (inl refl)))))
kind_or spare = inr (inr (inr (inr (inr (inr (inl refl))))))
kind_or extra = inr (inr (inr (inr (inr (inr (inr (inl refl)))))))
kind_or item = inr (inr (inr (inr (inr (inr (inr (inr (inl refl))))))))
kind_or place = inr (inr (inr (inr (inr (inr (inr (inr (inr (inl refl)))))))))
kind_or row = inl tt
kind_or cell = inr (inr (inr (inr (inr (inr (inr (inr (inr (inr (inl refl))))))))))

not-both : (k : Kind) → In k later_kinds → PictureKind k → ⊥
not-both k (inl e) p = subst PictureKind (sym e) p
not-both k (inr (inl e)) p = subst PictureKind (sym e) p
not-both k (inr (inr (inl e))) p = subst PictureKind (sym e) p
not-both k (inr (inr (inr (inl e)))) p = subst PictureKind (sym e) p
not-both k (inr (inr (inr (inr (inl e))))) p = subst PictureKind (sym e) p
not-both k (inr (inr (inr (inr (inr (inl e)))))) p = subst PictureKind (sym e) p
not-both k (inr (inr (inr (inr (inr (inr (inl e))))))) p = subst PictureKind (sym e) p
not-both k (inr (inr (inr (inr (inr (inr (inr (inl e)))))))) p = subst PictureKind (sym e) p
not-both k (inr (inr (inr (inr (inr (inr (inr (inr (inl e))))))))) p = subst PictureKind (sym e) p
not-both k (inr (inr (inr (inr (inr (inr (inr (inr (inr (inl e)))))))))) p = subst PictureKind (sym e) p
not-both k (inr (inr (inr (inr (inr (inr (inr (inr (inr (inr e)))))))))) p = e

keeps : (fs : Line) → is_one later_kinds fs ≡ false → (k : Kind) → Of fs k → PictureKind k
keeps fs e k o = go (kind_or k)
  where
    go : PictureKind k ⊎ In k later_kinds → PictureKind k
    go (inl p) = p
    go (inr i) = absurd (one-not later_kinds fs e k i o)

ends_not : (fs : Line) → is_one later_kinds fs ≡ true → ((k : Kind) → Of fs k → PictureKind k) → ⊥
ends_not fs e h = let m = one-is later_kinds fs e in not-both m.0 m.1 (h m.0 m.2)

follows_to : (ls : List Line) → row_follows ls ≡ true → RowFollows ls
unfolding row_follows
follows_to [] e = absurd (false≢true e)
follows_to (fs ∷ ls) e = go (follows_to ls) (is_kind row fs) (is_one later_kinds fs) refl refl e
  where
    go : (row_follows ls ≡ true → RowFollows ls) → (t u : Bool) → is_kind row fs ≡ t → is_one later_kinds fs ≡ u → cond t true (cond u false (row_follows ls)) ≡ true → RowFollows (fs ∷ ls)
    go rest true u p q z = here ((kind_exactly row fs).0 p)
    go rest false true p q z = absurd (false≢true z)
    go rest false false p q z = there (keeps fs q) (rest z)

follows_from : (ls : List Line) → RowFollows ls → row_follows ls ≡ true
unfolding row_follows
follows_from (fs ∷ ls) (here o) = rw ((kind_exactly row fs).1 o)
follows_from (fs ∷ ls) (there h r) = go (is_kind row fs) (is_one later_kinds fs) refl (follows_from ls r)
  where
    go : (t u : Bool) → is_one later_kinds fs ≡ u → row_follows ls ≡ true → cond t true (cond u false (row_follows ls)) ≡ true
    go true u q e = refl
    go false true q e = absurd (ends_not fs q h)
    go false false q e = e
follows_from [] x' = elim x' [ ]

-- the test is right
pub follows_exactly : (ls : List Line) → (row_follows ls ≡ true) ↔ RowFollows ls
follows_exactly ls = (follows_to ls, follows_from ls)

-- ---- a row that is accepted

pub record TakenRow (v : PanelView) (ws : List Word) (o : PanelOutcome) : Type 0 where
  pub panel : o.panel ≡ drawn_row v ws
  pub rows : length v.picture < 10000
  pub names : length (areas_of (with_words v.picture ws)) ≤ 64
  pub width : other_width v.picture (length ws) ≡ false

pub row_taken : (v : PanelView) (ws : List Word) → (picture_step v ws).fault ≡ 0 → TakenRow v ws (picture_step v ws)
unfolding picture_step
row_taken v ws = go (leb 10000 (length v.picture)) (ltb 64 (length (areas_of (with_words v.picture ws)))) (other_width v.picture (length ws)) refl refl refl
  where
    by : Bool → Bool → Bool → PanelOutcome
    by a b c = cond a (refused 8 v) (cond b (refused 8 v) (cond c (refused 13 v) (accepted (drawn_row v ws))))

    go : (a b c : Bool) → leb 10000 (length v.picture) ≡ a → ltb 64 (length (areas_of (with_words v.picture ws))) ≡ b → other_width v.picture (length ws) ≡ c
        → (by a b c).fault ≡ 0 → TakenRow v ws (by a b c)
    go true b c d e f z = absurd (omega arith)
    go false true c d e f z = absurd (omega arith)
    go false false true d e f z = absurd (omega arith)
    go false false false d e f z =
        record { panel = refl; rows = leb-false 10000 (length v.picture) d; names = ltb-false 64 (length (areas_of (with_words v.picture ws))) e; width = f }

-- the record of a row without a fault of its own
row_line_lem : (fs : Line) → Of fs row → record_of fs ≡ unless (row_fault (drop 1 fs)) (PictureRow (length (drop 1 fs)))
unfolding row_line
row_line_lem fs o = line_record row fs o.word ∙ ap (λ (t : Bool). cond t (Fault 1) (unless (row_fault (drop 1 fs)) (PictureRow (length (drop 1 fs))))) (le-ltb (length fs) 2 o.fields)

pub row_record : (fs : Line) → Of fs row → fault_of (record_of fs) ≡ 0 → record_of fs ≡ PictureRow (length (drop 1 fs))
row_record fs o z = row_line_lem fs o ∙ go (eqb (row_fault (drop 1 fs)) 0) refl (ap fault_of (sym (row_line_lem fs o)) ∙ z)
  where
    made : Bool → Record
    made t = cond t (PictureRow (length (drop 1 fs))) (Fault (row_fault (drop 1 fs)))

    go : (t : Bool) → eqb (row_fault (drop 1 fs)) 0 ≡ t → fault_of (made t) ≡ 0 → made t ≡ PictureRow (length (drop 1 fs))
    go true e y = refl
    go false e y = absurd (eqb-false (row_fault (drop 1 fs)) 0 e y)

-- of a line without a fault: its record has none, is not late, and leaves what it does
pub record CleanLine (v : PanelView) (fs : Line) (r : Record) : Type 0 where
  pub own : fault_of r ≡ 0
  pub timely : late_at (stage_of v r) v.stage ≡ false
  pub step : (record_step v fs r).fault ≡ 0
  pub panel : (line_step v fs).panel ≡ at_stage (stage_of v r) (record_step v fs r).panel

pub clean_line : (v : PanelView) (fs : Line) → (line_step v fs).fault ≡ 0 → CleanLine v fs (record_of fs)
unfolding line_step record_fault
clean_line v fs = go (eqb (record_fault v fs (record_of fs)) 0) refl
  where
    r : Record
    r = record_of fs

    timely : (t : Bool) → late_at (stage_of v r) v.stage ≡ t → ◌≡◌ {A = ℕ} (cond t 7 0) 0 → t ≡ false
    timely true e z = absurd (omega arith)
    timely false e z = refl

    go : (t : Bool) → eqb (record_fault v fs r) 0 ≡ t → (cond t (accepted (at_stage (stage_of v r) (record_step v fs r).panel)) (refused (record_fault v fs r) v)).fault ≡ 0
        → CleanLine v fs r
    go false e z = absurd (eqb-false (record_fault v fs r) 0 e z)
    go true e z =
        let f = first_zero (fault_of r) (first_of (twice_fault v fs r) (first_of (late_fault v r) (record_step v fs r).fault)) (eqb-true (record_fault v fs r) 0 e) in
        let g = first_zero (twice_fault v fs r) (first_of (late_fault v r) (record_step v fs r).fault) f.1 in
        let h = first_zero (late_fault v r) (record_step v fs r).fault g.1 in
        record { own = f.0; timely = timely (late_at (stage_of v r) v.stage) refl h.0; step = h.1; panel = rw e }

pub record AcceptedRow (v : PanelView) (fs : Line) : Type 0 where
  pub timely : late_at 2 v.stage ≡ false
  pub taken : TakenRow v (words_in fs) (picture_step v (words_in fs))
  pub panel : (line_step v fs).panel ≡ at_stage 2 (drawn_row v (words_in fs))

pub accepted_row : (v : PanelView) (fs : Line) → Of fs row → (line_step v fs).fault ≡ 0 → AcceptedRow v fs
unfolding record_step
accepted_row v fs o z = go (subst (CleanLine v fs) (row_record fs o (clean_line v fs z).own) (clean_line v fs z))
  where
    go : CleanLine v fs (PictureRow (length (drop 1 fs))) → AcceptedRow v fs
    go c =
        let fault : (picture_step v (words_in fs)).fault ≡ 0 = rw c.timely at c.step in
        let taken = row_taken v (words_in fs) fault in
        let step : (cond (late_at 2 v.stage) (accepted v) (picture_step v (words_in fs))).panel ≡ drawn_row v (words_in fs) = rw c.timely taken.panel in
        record { timely = c.timely; taken = taken; panel = c.panel ∙ ap (at_stage 2) step }

-- ---- the last row of a broken picture

module _ (v : PanelView) (fs : Line) (after : List Line) (z : (line_step v fs).fault ≡ 0) where
  broken-to : (a b c : Bool) → is_kind row fs ≡ a → (taken_of (line_step v fs).panel.picture).broken ≡ b → row_follows after ≡ c → (a && (b && not c)) ≡ true → BrokenBy v fs after
  broken-to true true false d e f y =
      let o = (kind_exactly row fs).0 d in
      let r = accepted_row v fs o z in
      let drawn : (taken_of (with_words v.picture (words_in fs))).broken ≡ true = ap (λ (w : PanelView). (taken_of w.picture).broken) (sym r.panel) ∙ e in
      record {
        drawn = o;
        timely = late-no 2 v.stage r.timely;
        cells = λ h. false≢true (sym ((picture_exactly (with_words v.picture (words_in fs))).1 h) ∙ drawn);
        last = λ h. false≢true (sym f ∙ (follows_exactly after).1 h);
      }
  broken-to true true true d e f y = absurd (false≢true y)
  broken-to true false c d e f y = absurd (false≢true y)
  broken-to false b c d e f y = absurd (false≢true y)

  broken-from : (a b c : Bool) → is_kind row fs ≡ a → (taken_of (line_step v fs).panel.picture).broken ≡ b → row_follows after ≡ c → (a && (b && not c)) ≡ false → BrokenBy v fs after → ⊥
  broken-from true true false d e f y k = false≢true (sym y)
  broken-from true true true d e f y k = k.last ((follows_exactly after).0 f)
  broken-from true false c d e f y k =
      let r = accepted_row v fs k.drawn z in
      let drawn : (taken_of (with_words v.picture (words_in fs))).broken ≡ false = ap (λ (w : PanelView). (taken_of w.picture).broken) (sym r.panel) ∙ e in
      k.cells ((picture_exactly (with_words v.picture (words_in fs))).0 drawn)
  broken-from false b c d e f y k = false≢true (sym d ∙ (kind_exactly row fs).1 k.drawn)

  pub broken-yes : broken_at (line_step v fs).panel fs after ≡ true → BrokenBy v fs after
  unfolding broken_at
  broken-yes = broken-to (is_kind row fs) (taken_of (line_step v fs).panel.picture).broken (row_follows after) refl refl refl

  pub broken-no : broken_at (line_step v fs).panel fs after ≡ false → BrokenBy v fs after → ⊥
  unfolding broken_at
  broken-no = broken-from (is_kind row fs) (taken_of (line_step v fs).panel.picture).broken (row_follows after) refl refl refl

  -- it is a row: no `area` record may follow it
  pub broken-stage : broken_at (line_step v fs).panel fs after ≡ true → (line_step v fs).panel.stage ≡ 2
  broken-stage e = ap (λ (w : PanelView). w.stage) (accepted_row v fs (broken-yes e).drawn z).panel

-- ---- any other line leaves the picture

axis_picture : (v : PanelView) (a : Axis) (y : AxisView) → (with_view v a y).picture ≡ v.picture
axis_picture v Column y = refl
axis_picture v Row y = refl

area_picture : (v : PanelView) (n : List ℕ) (e : AreaEdges) → (area_step v n e).panel.picture ≡ v.picture
unfolding area_step
area_picture v n e = go (edges_outside e) (ltb 32 (length n)) (leb 64 (length v.areas))
  where
    drawn : PanelView
    drawn =
        record {
          columns = raised v.columns e.columnend;
          rows = raised v.rows e.rowend;
          areas = v.areas ++ (record { name = n; edges = e } ∷ []);
          picture = v.picture;
          placements = v.placements;
          cells = v.cells;
          stage = v.stage;
          lines = v.lines;
        }

    go : (a b c : Bool) → (cond a (refused (named_fault (length n) 4) v) (cond b (refused 2 v) (cond c (refused 8 v) (accepted drawn)))).panel.picture ≡ v.picture
    go true b c = refl
    go false true c = refl
    go false false true = refl
    go false false false = refl

place_picture : (v : PanelView) (a : Axis) (s e : PlacedEnd) → (place_step v a s e).panel.picture ≡ v.picture
unfolding place_step
place_picture v a s e = limited_by (λ w. w.picture ≡ v.picture) v (ends_fault s e) _ refl (λ x y. refl)

cell_picture : (v : PanelView) (cs ce rs re : PlacedEnd) → (cell_step v cs ce rs re).panel.picture ≡ v.picture
unfolding cell_step
cell_picture v cs ce rs re = limited_by (λ w. w.picture ≡ v.picture) v (lower (ends_fault cs ce) (ends_fault rs re)) _ refl (λ x y. refl)

record_picture : (v : PanelView) (fs : Line) (r : Record) → Says fs r → (Of fs row → ⊥) → (record_step v fs r).panel.picture ≡ v.picture
unfolding record_step
record_picture v fs (Fault n) s h = refl
record_picture v fs (AxisLine a) s h = axis_picture v a.axis _
record_picture v fs (Area a) s h = area_picture v (at fs 1) (edges_of a)
record_picture v fs (Name a) s h = axis_picture v a _
record_picture v fs (Track a min max) s h = axis_picture v a _
record_picture v fs (Repeat a n) s h = axis_picture v a _
record_picture v fs (End a) s h = axis_picture v a _
record_picture v fs (Spare a min max) s h = axis_picture v a _
record_picture v fs (Extra a n p) s h = axis_picture v a _
record_picture v fs (Item a i) s h = axis_picture v a _
record_picture v fs (Place a u e) s h = place_picture v a (placed_end (at fs 3) u) (placed_end (at fs 6) e)
record_picture v fs (PictureRow n) s h = absurd (h s)
record_picture v fs (Cell cs ce rs re) s h = cell_picture v (placed_end (at fs 2) cs) (placed_end (at fs 5) ce) (placed_end (at fs 8) rs) (placed_end (at fs 11) re)

pub other_picture : (v : PanelView) (fs : Line) → (Of fs row → ⊥) → (line_step v fs).fault ≡ 0 → (line_step v fs).panel.picture ≡ v.picture
other_picture v fs h z = ap (λ (w : PanelView). w.picture) (clean_line v fs z).panel ∙ record_picture v fs (record_of fs) (record_says fs) h

-- ---- no record counts lines

axis_lines_lem : (v : PanelView) (a : Axis) (y : AxisView) → (with_view v a y).lines ≡ v.lines
axis_lines_lem v Column y = refl
axis_lines_lem v Row y = refl

area-lines : (v : PanelView) (n : List ℕ) (e : AreaEdges) → (area_step v n e).panel.lines ≡ v.lines
unfolding area_step
area-lines v n e = go (edges_outside e) (ltb 32 (length n)) (leb 64 (length v.areas)) _ refl
  where
    go : (a b c : Bool) (w : PanelView) → w.lines ≡ v.lines → (cond a (refused (named_fault (length n) 4) v) (cond b (refused 2 v) (cond c (refused 8 v) (accepted w)))).panel.lines ≡ v.lines
    go true b c w e = refl
    go false true c w e = refl
    go false false true w e = refl
    go false false false w e = e

picture_lines : (v : PanelView) (ws : List Word) → (picture_step v ws).panel.lines ≡ v.lines
unfolding picture_step
picture_lines v ws = go (leb 10000 (length v.picture)) (ltb 64 (length (areas_of (with_words v.picture ws)))) (other_width v.picture (length ws))
  where
    go : (a b c : Bool) → (cond a (refused 8 v) (cond b (refused 8 v) (cond c (refused 13 v) (accepted (drawn_row v ws))))).panel.lines ≡ v.lines
    go true b c = refl
    go false true c = refl
    go false false true = refl
    go false false false = refl

pub record_lines_lem : (v : PanelView) (fs : Line) (r : Record) → (record_step v fs r).panel.lines ≡ v.lines
unfolding record_step place_step cell_step
record_lines_lem v fs (Fault n) = refl
record_lines_lem v fs (AxisLine a) = axis_lines_lem v a.axis _
record_lines_lem v fs (Area a) = area-lines v (at fs 1) (edges_of a)
record_lines_lem v fs (Name a) = axis_lines_lem v a _
record_lines_lem v fs (Track a min max) = axis_lines_lem v a _
record_lines_lem v fs (Repeat a n) = axis_lines_lem v a _
record_lines_lem v fs (End a) = axis_lines_lem v a _
record_lines_lem v fs (Spare a min max) = axis_lines_lem v a _
record_lines_lem v fs (Extra a n p) = axis_lines_lem v a _
record_lines_lem v fs (Item a i) = axis_lines_lem v a _
record_lines_lem v fs (Place a u e) = limited_by (λ w. w.lines ≡ v.lines) v _ _ refl (λ x y. refl)
record_lines_lem v fs (Cell cs ce rs re) = limited_by (λ w. w.lines ≡ v.lines) v _ _ refl (λ x y. refl)
record_lines_lem v fs (PictureRow n) = go (late_at 2 v.stage)
  where
    go : (t : Bool) → (cond t (accepted v) (picture_step v (drop 1 fs))).panel.lines ≡ v.lines
    go true = refl
    go false = picture_lines v (drop 1 fs)
