-- The sheet call takes a sheet without rows line by line: so accepted edits after a sheet give what it gives of the sheet with their lines in it.
-- Assumes nothing.
use Prim.Native.Nat.{ℕ, ◌+◌, ◌≤◌}
use mathlib.Core.Path.{◌≡◌, refl, sym, ap, ap₂, ◌∙◌, subst}
use mathlib.Core.List.{List, [], ◌∷◌}
use mathlib.Core.Bool.{Bool, true, false, cond, false≢true}
use native.Mathlib.Omega.{arith}
use lib.Dec.{eqb}
use lib.ListN.{length}
use borrow.Author.Tests.{eqb-true, eqb-false, ne_eqb, le-ltb}
use Rattle.text.specs.Split.{split}
use Rattle.sheet_forms.specs.Said.{Record}
use Rattle.sheet_forms.specs.Said.{Fault, Axis as AxisLine, Area, Name, Track, Repeat, End, Spare, Extra, Item, Place, PictureRow, Cell}
use Rattle.sheet_forms.specs.Forms.{row}
use Rattle.sheet_forms.specs.Records.{record_of}
use Rattle.sheet_forms.specs.Faults.{first_of}
use Rattle.axis_tables.specs.View.{AxisView}
use Rattle.panel_tables.specs.View.{PanelView, PanelOutcome, empty_view, refused, accepted}
use Rattle.sheet_rules.specs.Kinds.{is_kind}
use Rattle.sheet_rules.specs.Contents.{Line, is_of, lines_from, lines_of}
use Rattle.sheet_rules.specs.Lines.{stage_of, shared_at, line_fault, line_step}
use Rattle.sheet_rules.specs.Sheet.{Outcome, outcome, axis_fault, end_fault, ended, run, fold_of, broken_at, broken_from, broken_of, display_of, no_overlap, overlap_at, overlap_from, overlap_of, chosen, sheet_of}
use Rattle.sheet_rules.proofs.Says.{Says, record_says}
use Rattle.sheet_rules.proofs.LineTheorem.{line-former, line-overlap}
use Rattle.sheet_rules.proofs.Pictures.{clean_line}
use Rattle.edit_rules.specs.Edits.{Edit}
use Rattle.edit_rules.specs.Replay.{edited_by}
use Rattle.edit_rules.specs.Settled.{or_else, view_by}
use Rattle.edit_rules.specs.Bases.{base_of}
use Rattle.edit_rules.specs.Theorem.{after_rows, taken_by, with_edits, sheet_with, contents, AllEdits, Ended, NoRows, Readable, ReadAsSheet}
use Rattle.edit_rules.proofs.Sorts.{own_word}
use Rattle.edit_rules.proofs.Taken.{line_clean, rows_same, taken_first, taken_refused}
use Rattle.edit_rules.proofs.Theorem.{edits_as_sheet}

-- ---- no line is a row

row_stage : (v : PanelView) (fs : Line) (r : Record) → Says fs r → is_of row fs ≡ false → (v.stage ≡ 2 → ⊥) → stage_of v r ≡ 2 → ⊥
row_stage v fs (Fault n) s h k e = k e
row_stage v fs (AxisLine a) s h k e = omega (arith, e)
row_stage v fs (Area a) s h k e = omega (arith, e)
row_stage v fs (Name a) s h k e = omega (arith, e)
row_stage v fs (Track a min max) s h k e = omega (arith, e)
row_stage v fs (Repeat a n) s h k e = omega (arith, e)
row_stage v fs (End a) s h k e = omega (arith, e)
row_stage v fs (Spare a min max) s h k e = omega (arith, e)
row_stage v fs (Extra a n p) s h k e = omega (arith, e)
row_stage v fs (Item a i) s h k e = omega (arith, e)
row_stage v fs (Place a b f) s h k e = omega (arith, e)
row_stage v fs (PictureRow n) s h k e = false≢true (sym h ∙ own_word fs row s.word)
row_stage v fs (Cell cs ce rs re) s h k e = omega (arith, e)

-- so no picture is broken
no_row : (fs : Line) → is_of row fs ≡ false → is_kind row fs ≡ false
unfolding is_kind
no_row fs h = rw h

unbroken : (n : ℕ) (ls : List (List ℕ)) (v : PanelView) → NoRows (lines_from ls) → broken_from n ls v ≡ 0
unfolding broken_from lines_from broken_at
unbroken n [] v h = refl
unbroken n (l ∷ []) v h = refl
unbroken n (l ∷ m ∷ ls) v h = rw (no_row (split 9 l) h.0) (go (eqb (line_step v (split 9 l)).fault 0) (unbroken (n + 1) (m ∷ ls) (line_step v (split 9 l)).panel h.1))
  where
    go : (t : Bool) → broken_from (n + 1) (m ∷ ls) (line_step v (split 9 l)).panel ≡ 0 → cond t (broken_from (n + 1) (m ∷ ls) (line_step v (split 9 l)).panel) 0 ≡ 0
    go true i = i
    go false i = refl

-- ---- line by line

-- what is read, where an overlap is refused by 12
abbrev strict : ℕ → List (List ℕ) → PanelView → Outcome
strict n ls v = chosen (overlap_from n ls v) (run n ls v)

record Taken (o : Outcome) (p : PanelOutcome) : Type 0 where
  fault : o.fault ≡ or_else p.fault (end_fault p.panel)
  view : p.fault ≡ 0 → o.view ≡ p.panel

ended_taken : (n : ℕ) (v : PanelView) → Taken (chosen no_overlap (ended n v)) (accepted v)
unfolding ended
ended_taken n v = go (eqb (end_fault v) 0) refl
  where
    go : (t : Bool) → eqb (end_fault v) 0 ≡ t → Taken (chosen no_overlap (cond t (outcome 0 0 v) (outcome (end_fault v) n v))) (accepted v)
    go true e = record { fault = sym (eqb-true (end_fault v) 0 e); view = λ z. refl }
    go false e = record { fault = refl; view = λ z. refl }

strict_taken : (n : ℕ) (ls : List (List ℕ)) (v : PanelView) → Ended ls → NoRows (lines_from ls) → (v.stage ≡ 2 → ⊥) → Taken (strict n ls v) (taken_by v (lines_from ls))
unfolding run overlap_from lines_from taken_by
strict_taken n [] v q h k = ended_taken n v
strict_taken n (l ∷ []) v q h k = rw q (ended_taken n v)
strict_taken n (l ∷ m ∷ ls) v q h k =
    go (strict_taken (n + 1) (m ∷ ls) (line_step v (split 9 l)).panel q h.1) (eqb (line_step v (split 9 l)).fault 0) refl (eqb (shared_at v (split 9 l)) 0) refl
  where
    fs : Line
    fs = split 9 l

    next : PanelView
    next = (line_step v fs).panel

    rest : List Line
    rest = lines_from (m ∷ ls)

    same : after_rows v fs ≡ v
    same = rows_same v fs k

    By : Bool → Bool → Type 0
    By t u =
        Taken
        (chosen (cond u (cond t (overlap_from (n + 1) (m ∷ ls) next) no_overlap) (overlap_at (shared_at v fs) (length v.areas) n))
        (cond t (run (n + 1) (m ∷ ls) next) (outcome (line_step v fs).fault n v)))
        (taken_by v (fs ∷ rest))

    -- a line that is accepted
    accepted_line : ((next.stage ≡ 2 → ⊥) → Taken (strict (n + 1) (m ∷ ls) next) (taken_by next rest)) → line_fault v fs ≡ 0 → By true true
    accepted_line i z =
        let c = clean_line v fs (line_clean v fs z) in
        let first = taken_first v fs rest (ap (λ (w : PanelView). line_fault w fs) same ∙ z) in
        let e : taken_by v (fs ∷ rest) ≡ taken_by next rest = first ∙ ap (λ (w : PanelView). taken_by (line_step w fs).panel rest) same in
        subst (λ (p : PanelOutcome). Taken (strict (n + 1) (m ∷ ls) next) p) (sym e)
        (i (λ s. row_stage v fs (record_of fs) (record_says fs) h.0 k (ap (λ (w : PanelView). w.stage) (sym c.panel) ∙ s)))

    -- one that is refused by a number
    refused_line : (o : Outcome) → (line_fault v fs ≡ 0 → ⊥) → o.fault ≡ line_fault v fs → Taken o (taken_by v (fs ∷ rest))
    refused_line o z e =
        let fault = ap (λ (w : PanelView). line_fault w fs) same in
        let stop : taken_by v (fs ∷ rest) ≡ refused (line_fault v fs) v =
        taken_refused v fs rest (λ y. z (sym fault ∙ y)) ∙ ap (λ (f : ℕ). refused f v) fault
        in
        subst (Taken o) (sym stop) (record { fault = e ∙ rw (ne_eqb (line_fault v fs) 0 z); view = λ y. absurd (z y) })

    overlaps : (o : Outcome) → (shared_at v fs ≡ 0 → ⊥) → Taken (chosen (overlap_at (shared_at v fs) (length v.areas) n) o) (taken_by v (fs ∷ rest))
    overlaps o f =
        let twelve = line-overlap v fs f in
        let later : eqb (length v.areas + 1) 0 ≡ false = ne_eqb (length v.areas + 1) 0 (λ y. omega (arith, y)) in
        refused_line (chosen (overlap_at (shared_at v fs) (length v.areas) n) o) (λ y. omega (arith, twelve, y)) (rw (later, twelve))

    go : ((next.stage ≡ 2 → ⊥) → Taken (strict (n + 1) (m ∷ ls) next) (taken_by next rest))
        → (t : Bool) → eqb (line_step v fs).fault 0 ≡ t → (u : Bool) → eqb (shared_at v fs) 0 ≡ u → By t u
    go i true e true f = accepted_line i (line-former v fs (eqb-true (shared_at v fs) 0 f) ∙ eqb-true (line_step v fs).fault 0 e)
    go i true e false f = overlaps (run (n + 1) (m ∷ ls) next) (eqb-false (shared_at v fs) 0 f)
    go i false e true f =
        let former = line-former v fs (eqb-true (shared_at v fs) 0 f) in
        refused_line (chosen no_overlap (outcome (line_step v fs).fault n v)) (λ y. eqb-false (line_step v fs).fault 0 e (sym former ∙ y)) (sym former)
    go i false e false f = overlaps (outcome (line_step v fs).fault n v) (eqb-false (shared_at v fs) 0 f)

-- ---- a sheet

empty_stage : empty_view.stage ≡ 2 → ⊥
unfolding empty_view
empty_stage e = omega (arith, e)

short_sheet : (t : List ℕ) → length t ≤ 32768 → NoRows (lines_of t) → sheet_of t ≡ strict 1 (split 10 t) empty_view
unfolding sheet_of display_of fold_of overlap_of broken_of
short_sheet t few h = rw (le-ltb 32768 (length t) few, unbroken 1 (split 10 t) empty_view h)

sheet_read : (t : List ℕ) → Readable t → Taken (sheet_of t) (taken_by empty_view (lines_of t))
sheet_read t r =
    subst (λ (o : Outcome). Taken o (taken_by empty_view (lines_of t))) (sym (short_sheet t r.few r.undrawn))
    (strict_taken 1 (split 10 t) empty_view r.ended r.undrawn empty_stage)

end_contents : (v w : PanelView) → contents v ≡ contents w → end_fault v ≡ end_fault w
unfolding end_fault
end_contents v w e = ap₂ (λ (c r : AxisView). first_of (axis_fault c) (axis_fault r)) (ap (λ (x : PanelView). x.columns) e) (ap (λ (x : PanelView). x.rows) e)

pub read_as_sheet : (s : List ℕ) → (base_of s).fault ≡ 0 → (edits : List Edit) → AllEdits edits → (edited_by (base_of s).view edits).fault ≡ 0
    → (t : List ℕ) → Readable t → lines_of t ≡ with_edits (lines_of s) edits → ReadAsSheet s t edits
read_as_sheet s z edits all y t r e =
    let a = edits_as_sheet s z edits all y in
    let o = subst (λ (ls : List Line). Taken (sheet_of t) (taken_by empty_view ls)) e (sheet_read t r) in
    record {
      fault = o.fault ∙ rw a.accepted (sym (end_contents (view_by (base_of s).view edits) (sheet_with s edits).panel a.panel));
      panel = ap contents (o.view a.accepted) ∙ sym a.panel;
    }
