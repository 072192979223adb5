-- Reading on what is held for a view follows reading on the view: the same refusal at the same line, the same
-- overlap, and what is held for the sized panel. Assumes nothing.
use Prim.Native.Nat.{ℕ, ◌+◌, ◌≤◌, min}
use mathlib.Core.Path.{◌≡◌, refl, sym, ap, ◌∙◌, subst}
use mathlib.Core.List.{List, [], ◌∷◌}
use mathlib.Core.Bool.{Bool, true, false, cond}
use native.Mathlib.Omega.{arith}
use lib.Dec.{eqb}
use lib.ListN.{length}
use borrow.Author.Tests.{eq-eqb, ne_eqb, eqb-true, eqb-false}
use Rattle.text.specs.Split.{split}
use Rattle.sheet_forms.proofs.Firsts.{first_zero}
use Rattle.axis_tables.specs.declared.AxisState.{AxisState}
use Rattle.axis_tables.specs.Readings.{AxisReading}
use Rattle.axis_tables.specs.View.{AxisView}
use Rattle.axis_tables.specs.Written.{state_of, reading_of, axis_words, words_with, names_store}
use Rattle.axis_tables.proofs.Fits.{Fits}
use Rattle.panel_tables.specs.View.{PanelView}
use Rattle.panel_tables.specs.Written.{picture_reading_of, panel_reading_of, PanelHeld, held_panel, area_words, area_store, placement_words, placement_store}
use Rattle.panel_tables.proofs.Fits.{FitsPanel}
use Rattle.sheet_rules.specs.declared.Overlap.{Overlap}
use Rattle.sheet_rules.specs.Lines.{shared_at, line_step}
use Rattle.sheet_rules.specs.Sheet.{axis_fault, end_fault, Outcome, outcome, ended, run, broken_at, broken_from, no_overlap, overlap_at, overlap_from}
use Rattle.sheet_rules.specs.Panels.{entry_words, sized_panel}
use Rattle.picture_rules.specs.Steps.{taken_of}
use Rattle.sheet_rules.specs.Contents.{Line, lines_from}
use Rattle.sheet_rules.proofs.Fits.{FitsSheet, line-fits}
use Rattle.picture_end.specs.Steps.{broken_row}
use Rattle.picture_end.proofs.Follows.{broken-at}
use Rattle.sheet_faults.specs.Lines.{line_in, line_shared}
use Rattle.sheet_faults.proofs.Same.{line_fault_lem, line-held, line_shared_lem}
use Rattle.sheet_end.specs.End.{EndedAxis, end_fault_in, end_in}
use Rattle.sheet_end.proofs.Same.{end_fault_lem, end_same}
use Rattle.sheet.specs.Runs.{HeldRun, stopped, held_run, noted_at, or_else, held_overlap, broken_note, or_line, held_broken, ended_panel, held_end, held_after}

-- what is held for a view whose sheet has ended
unfoldable pub held_sized : PanelView → PanelHeld
held_sized v =
    record {
      panel = sized_panel v;
      reading = panel_reading_of v;
      columns = words_with v.columns (entry_words v.columns);
      rows = words_with v.rows (entry_words v.rows);
      column_marks = v.columns.marks;
      row_marks = v.rows.marks;
      column_bytes = names_store v.columns;
      row_bytes = names_store v.rows;
      areas = area_words v.areas;
      area_bytes = area_store v.areas;
      placements = placement_words v.placements v.cells;
      placement_bytes = placement_store v.placements;
    }

-- a run and what it means: a refused one holds nothing that is answered
pub record Follows (r : HeldRun) (o : Outcome) : Type 0 where
  pub fault : r.fault ≡ o.fault
  pub line : (o.fault ≡ 0 → ⊥) → r.line ≡ o.line
  pub held : o.fault ≡ 0 → r.held ≡ held_sized o.view

-- a refusal
follows_stop : (n m : ℕ) (h : PanelHeld) (v : PanelView) (f : ℕ) → n ≡ f → (f ≡ 0 → ⊥) → Follows (held_after (stopped n m h)) (outcome f m v)
unfolding held_after
follows_stop n m h v f e z =
    let k : eqb n 0 ≡ false = ne_eqb n 0 (λ y. z (sym e ∙ y)) in
    rw k (record { fault = e; line = λ y. refl; held = λ y. absurd (z y) })

-- a line that is not the last: the rest goes on, with what is held and with the view, in any relation that refusals at the same line are in
module _ (As : HeldRun → Outcome → Type 0) (stop : (n m : ℕ) (h : PanelHeld) (v : PanelView) (f : ℕ) → n ≡ f → (f ≡ 0 → ⊥) → As (stopped n m h) (outcome f m v)) where
  pub line_follows : (n : ℕ) (fs : List (List ℕ)) (v : PanelView) → FitsSheet v → (next : PanelHeld → HeldRun) (rest : PanelView → Outcome)
      → As (next (held_panel (line_step v fs).panel)) (rest (line_step v fs).panel)
      → As
      (cond (eqb (line_in (held_panel v) fs).fault 0) (next (line_in (held_panel v) fs).held) (stopped (line_in (held_panel v) fs).fault n (line_in (held_panel v) fs).held))
      (cond (eqb (line_step v fs).fault 0) (rest (line_step v fs).panel) (outcome (line_step v fs).fault n v))
  line_follows n fs v f next rest q = go (eqb (line_step v fs).fault 0) refl
    where
      go : (t : Bool) → eqb (line_step v fs).fault 0 ≡ t
          → As
          (cond (eqb (line_in (held_panel v) fs).fault 0) (next (line_in (held_panel v) fs).held) (stopped (line_in (held_panel v) fs).fault n (line_in (held_panel v) fs).held))
          (cond t (rest (line_step v fs).panel) (outcome (line_step v fs).fault n v))
      go true e =
          let z : (line_step v fs).fault ≡ 0 = eqb-true (line_step v fs).fault 0 e in
          rw (eq-eqb (line_in (held_panel v) fs).fault 0 (line_fault_lem v f fs ∙ z))
          (subst (λ (h : PanelHeld). As (next h) (rest (line_step v fs).panel)) (sym (line-held v f fs z)) q)
      go false e =
          let z : (line_step v fs).fault ≡ 0 → ⊥ = eqb-false (line_step v fs).fault 0 e in
          rw (ne_eqb (line_in (held_panel v) fs).fault 0 (λ y. z (sym (line_fault_lem v f fs) ∙ y)))
          (stop (line_in (held_panel v) fs).fault n (line_in (held_panel v) fs).held v (line_step v fs).fault (line_fault_lem v f fs) z)

-- ---- the end

-- the fault that an axis answers
end-answer : (s : AxisState) (r : AxisReading) (w : List ℕ) → (end_in s r w).answer.fault ≡ end_fault_in s r w
unfolding end_in
end-answer s r w = go (eqb (end_fault_in s r w) 0) refl _ _ refl refl
  where
    go : (t : Bool) → eqb (end_fault_in s r w) 0 ≡ t → (a b : EndedAxis) → a.answer.fault ≡ 0 → b.answer.fault ≡ end_fault_in s r w → (cond t a b).answer.fault ≡ end_fault_in s r w
    go true e a b x y = x ∙ sym (eqb-true (end_fault_in s r w) 0 e)
    go false e a b x y = y

-- an axis of a view after the last line
abbrev ended_axis : AxisView → EndedAxis
ended_axis x = end_in (state_of x) (reading_of x) (axis_words x)

axis_end : (x : AxisView) → Fits x → (ended_axis x).answer.fault ≡ axis_fault x
axis_end x f = end-answer (state_of x) (reading_of x) (axis_words x) ∙ end_fault_lem x f

-- where nothing is refused
pub end-held : (v : PanelView) → FitsPanel v → end_fault v ≡ 0 → (held_end 0 (held_panel v)).held ≡ held_sized v
unfolding held_panel held_sized ended_panel end_fault sized_panel
end-held v f e =
    let z = first_zero (axis_fault v.columns) (axis_fault v.rows) e in
    rw (end_same v.columns f.columns z.0, end_same v.rows f.rows z.1)

-- the fault
pub end_first : (n : ℕ) (v : PanelView) → FitsPanel v → (held_end n (held_panel v)).fault ≡ end_fault v
unfolding held_panel ended_panel end_fault
end_first n v f = rw (axis_end v.columns f.columns, axis_end v.rows f.rows)

end_follows : (n : ℕ) (v : PanelView) → FitsPanel v → Follows (held_end n (held_panel v)) (ended n v)
unfolding ended
end_follows n v f = go (eqb (end_fault v) 0) refl
  where
    go : (t : Bool) → eqb (end_fault v) 0 ≡ t → Follows (held_end n (held_panel v)) (cond t (outcome 0 0 v) (outcome (end_fault v) n v))
    go true e =
        let z : end_fault v ≡ 0 = eqb-true (end_fault v) 0 e in
        record { fault = end_first n v f ∙ z; line = λ y. absurd (y refl); held = λ y. end-held v f z }
    go false e = record { fault = end_first n v f; line = λ y. refl; held = λ y. absurd (eqb-false (end_fault v) 0 e y) }

-- ---- the lines

-- from any line on
pub run_follows : (n : ℕ) (ls : List (List ℕ)) (v : PanelView) → FitsSheet v → Follows (held_after (held_run n ls (held_panel v))) (run n ls v)
unfolding run held_run held_after
run_follows n [] v f = end_follows n v f.panel
run_follows n (l ∷ []) v f = go (eqb (length l) 0)
  where
    go : (t : Bool) → Follows (held_after (cond t (stopped 0 n (held_panel v)) (stopped 1 n (held_panel v)))) (cond t (ended n v) (outcome 1 n v))
    go true = end_follows n v f.panel
    go false = follows_stop 1 n (held_panel v) v 1 refl (λ y. omega arith)
run_follows n (l ∷ m ∷ ls) v f =
    line_follows (λ r o. Follows (held_after r) o) follows_stop n (split 9 l) v f (held_run (n + 1) (m ∷ ls)) (run (n + 1) (m ∷ ls)) (run_follows (n + 1) (m ∷ ls) (line_step v (split 9 l)).panel (line-fits v f (split 9 l)))

-- ---- the overlap

-- a line that is not the last
line-overlap : (n : ℕ) (fs : List (List ℕ)) (v : PanelView) → FitsSheet v → (next : PanelHeld → Overlap) (rest : PanelView → Overlap)
    → next (held_panel (line_step v fs).panel) ≡ rest (line_step v fs).panel
    → or_else (noted_at (line_shared (held_panel v) fs) (held_panel v).panel.grid.areas n) (cond (eqb (line_in (held_panel v) fs).fault 0) (next (line_in (held_panel v) fs).held) no_overlap)
    ≡ cond (eqb (shared_at v fs) 0) (cond (eqb (line_step v fs).fault 0) (rest (line_step v fs).panel) no_overlap) (overlap_at (shared_at v fs) (length v.areas) n)
unfolding held_panel
line-overlap n fs v f next rest q =
    let z : min (length v.areas) 64 ≡ length v.areas = omega (arith, f.panel.areas) in
    rw (line_shared_lem v f fs, z, line_fault_lem v f fs) (go (eqb (shared_at v fs) 0) (eqb (line_step v fs).fault 0) refl)
  where
    go : (t u : Bool) → eqb (line_step v fs).fault 0 ≡ u
        → or_else (cond t no_overlap (overlap_at (shared_at v fs) (length v.areas) n)) (cond u (next (line_in (held_panel v) fs).held) no_overlap)
        ≡ cond t (cond u (rest (line_step v fs).panel) no_overlap) (overlap_at (shared_at v fs) (length v.areas) n)
    go true true e = ap next (line-held v f fs (eqb-true (line_step v fs).fault 0 e)) ∙ q
    go true false e = refl
    go false u e = rw (ne_eqb (length v.areas + 1) 0 (λ y. omega arith))

pub overlap_follows : (n : ℕ) (ls : List (List ℕ)) (v : PanelView) → FitsSheet v → held_overlap n ls (held_panel v) ≡ overlap_from n ls v
unfolding held_overlap overlap_from
overlap_follows n [] v f = refl
overlap_follows n (l ∷ []) v f = refl
overlap_follows n (l ∷ m ∷ ls) v f =
    line-overlap n (split 9 l) v f (held_overlap (n + 1) (m ∷ ls)) (overlap_from (n + 1) (m ∷ ls)) (overlap_follows (n + 1) (m ∷ ls) (line_step v (split 9 l)).panel (line-fits v f (split 9 l)))

-- ---- a broken picture

-- the reading knows whether it is
held-broken : (v : PanelView) → (held_panel v).reading.picture.broken ≡ (taken_of v.picture).broken
unfolding held_panel picture_reading_of
held-broken v = refl

-- a line that is not the last
line-broken : (n : ℕ) (fs : Line) (after : List Line) (v : PanelView) → FitsSheet v → (next : PanelHeld → ℕ) (rest : PanelView → ℕ) → 1 ≤ n
    → next (held_panel (line_step v fs).panel) ≡ rest (line_step v fs).panel
    → cond (eqb (line_in (held_panel v) fs).fault 0) (or_line (broken_note (line_in (held_panel v) fs).held.reading.picture.broken fs after n) (next (line_in (held_panel v) fs).held)) 0
    ≡ cond (eqb (line_step v fs).fault 0) (cond (broken_at (line_step v fs).panel fs after) n (rest (line_step v fs).panel)) 0
line-broken n fs after v f next rest one q = rw (line_fault_lem v f fs) (go (eqb (line_step v fs).fault 0) refl)
  where
    note : (h : PanelHeld) → h ≡ held_panel (line_step v fs).panel → broken_row h.reading.picture.broken fs after ≡ broken_at (line_step v fs).panel fs after
    note h e = ap (λ (b : Bool). broken_row b fs after) (ap (λ (x : PanelHeld). x.reading.picture.broken) e ∙ held-broken (line_step v fs).panel) ∙ broken-at (line_step v fs).panel fs after

    pick : (t : Bool) (m : ℕ) → or_line (cond t n 0) m ≡ cond t n m
    pick true m = rw (ne_eqb n 0 (λ z. omega arith))
    pick false m = refl

    go : (t : Bool) → eqb (line_step v fs).fault 0 ≡ t
        → cond t (or_line (broken_note (line_in (held_panel v) fs).held.reading.picture.broken fs after n) (next (line_in (held_panel v) fs).held)) 0
        ≡ cond t (cond (broken_at (line_step v fs).panel fs after) n (rest (line_step v fs).panel)) 0
    go true e =
        let h = line-held v f fs (eqb-true (line_step v fs).fault 0 e) in
        ap (λ (t : Bool). or_line (cond t n 0) (next (line_in (held_panel v) fs).held)) (note (line_in (held_panel v) fs).held h)
        ∙ ap (or_line (cond (broken_at (line_step v fs).panel fs after) n 0)) (ap next h ∙ q)
        ∙ pick (broken_at (line_step v fs).panel fs after) (rest (line_step v fs).panel)
    go false e = refl

pub broken_follows : (n : ℕ) (ls : List (List ℕ)) (v : PanelView) → FitsSheet v → 1 ≤ n → held_broken n ls (held_panel v) ≡ broken_from n ls v
unfolding held_broken broken_from
broken_follows n [] v f one = refl
broken_follows n (l ∷ []) v f one = refl
broken_follows n (l ∷ m ∷ ls) v f one =
    line-broken n (split 9 l) (lines_from (m ∷ ls)) v f (held_broken (n + 1) (m ∷ ls)) (broken_from (n + 1) (m ∷ ls)) one
    (broken_follows (n + 1) (m ∷ ls) (line_step v (split 9 l)).panel (line-fits v f (split 9 l)) (omega arith))
