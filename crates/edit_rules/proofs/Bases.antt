-- An accepted sheet has accepted lines, whose panel is its own; a sheet whose lines are accepted is refused by what comes after the last alone,
-- and one whose lines are refused is refused as they are. Without edits what is held is what the sheet left. Assumes nothing.
use Prim.Native.Nat.{ℕ, ◌+◌, ◌≤◌}
use mathlib.Core.Path.{◌≡◌, refl, sym, ap, ◌∙◌, subst}
use mathlib.Core.List.{List, [], ◌∷◌}
use mathlib.Core.Bool.{Bool, true, false, cond}
use native.Mathlib.Omega.{arith}
use lib.Dec.{eqb, ltb}
use lib.ListN.{length}
use borrow.Author.Tests.{eqb-true, eqb-false, eq-eqb, ne_eqb}
use Rattle.text.specs.Split.{split}
use Rattle.panel_tables.specs.View.{PanelView, PanelOutcome, empty_view}
use Rattle.panel_tables.specs.Written.{zero_panel}
use Rattle.panel_tables.proofs.Fits.{FitsPanel}
use Rattle.sheet_rules.specs.declared.Overlap.{Overlap}
use Rattle.sheet_rules.specs.Lines.{line_step}
use Rattle.sheet_rules.specs.Sheet.{Outcome, outcome, end_fault, ended, run, fold_of, with_broken, broken_of, display_of, no_overlap, chosen, overlap_of, sheet_of}
use Rattle.sheet_rules.specs.Panels.{Tables}
use Rattle.sheet_rules.specs.Read.{SheetRead, short_stores, read_by, read_sheet}
use Rattle.sheet_rules.proofs.Chosen.{accepted_former, display_former_lem, former_outcome, overlap-refused, none-overlap}
use Rattle.sheet_rules.proofs.Fits.{sheet_fits}
use Rattle.panel_rules.specs.Runs.{Accepted, sheet_held, after_calls}
use Rattle.panel_rules.proofs.Sheets.{read_former, read_overlap, accepted_sheet, sheet_held_lem}
use Rattle.edit_rules.specs.Bases.{lined, lined_sheet, base_of}
use Rattle.edit_rules.specs.Replay.{edited_by}
use Rattle.edit_rules.specs.Settled.{calls_of, calls_fault, edits_fault, edits_held}
use Rattle.edit_rules.proofs.Held.{or-none}
use Rattle.edit_rules.proofs.Stages.{sheet_stage}

-- ---- the lines of a sheet, and what comes after the last

abbrev with_end : ℕ → Outcome → Outcome
with_end k o = cond (eqb o.fault 0) (ended k o.view) o

run_lined : (n : ℕ) (ls : List (List ℕ)) (v : PanelView) → (k : ℕ) × (run n ls v ≡ with_end k (lined n ls v))
unfolding run lined
run_lined n [] v = (n, refl)
run_lined n (l ∷ []) v = go (eqb (length l) 0)
  where
    go : (t : Bool) → (k : ℕ) × (cond t (ended n v) (outcome 1 n v) ≡ with_end k (cond t (outcome 0 0 v) (outcome 1 n v)))
    go true = (n, refl)
    go false = (n, refl)
run_lined n (l ∷ m ∷ ls) v = go (eqb (line_step v (split 9 l)).fault 0) refl (run_lined (n + 1) (m ∷ ls) (line_step v (split 9 l)).panel)
  where
    a : PanelOutcome
    a = line_step v (split 9 l)

    go : (t : Bool) → eqb a.fault 0 ≡ t → (k : ℕ) × (run (n + 1) (m ∷ ls) a.panel ≡ with_end k (lined (n + 1) (m ∷ ls) a.panel))
        → (k : ℕ) × (cond t (run (n + 1) (m ∷ ls) a.panel) (outcome a.fault n v) ≡ with_end k (cond t (lined (n + 1) (m ∷ ls) a.panel) (outcome a.fault n v)))
    go true e i = i
    go false e i = (n, rw e)

fold_lined : (s : List ℕ) → (k : ℕ) × (fold_of s ≡ with_end k (lined_sheet s))
unfolding fold_of lined_sheet
fold_lined s = go (ltb 32768 (length s))
  where
    go : (t : Bool) → (k : ℕ) × (cond t (outcome 1 0 empty_view) (run 1 (split 10 s) empty_view) ≡ with_end k (cond t (outcome 1 0 empty_view) (lined 1 (split 10 s) empty_view)))
    go true = (0, refl)
    go false = run_lined 1 (split 10 s) empty_view

-- accepted lines have line 0
lined_none : (n : ℕ) (ls : List (List ℕ)) (v : PanelView) → (lined n ls v).fault ≡ 0 → lined n ls v ≡ outcome 0 0 (lined n ls v).view
unfolding lined
lined_none n [] v z = refl
lined_none n (l ∷ []) v z = go (eqb (length l) 0) z
  where
    go : (t : Bool) → (cond t (outcome 0 0 v) (outcome 1 n v)).fault ≡ 0 → cond t (outcome 0 0 v) (outcome 1 n v) ≡ outcome 0 0 (cond t (outcome 0 0 v) (outcome 1 n v)).view
    go true y = refl
    go false y = absurd (omega arith)
lined_none n (l ∷ m ∷ ls) v z = go (eqb (line_step v (split 9 l)).fault 0) refl (lined_none (n + 1) (m ∷ ls) (line_step v (split 9 l)).panel) z
  where
    a : PanelOutcome
    a = line_step v (split 9 l)

    rest : Outcome
    rest = lined (n + 1) (m ∷ ls) a.panel

    go : (t : Bool) → eqb a.fault 0 ≡ t → (rest.fault ≡ 0 → rest ≡ outcome 0 0 rest.view)
        → (cond t rest (outcome a.fault n v)).fault ≡ 0 → cond t rest (outcome a.fault n v) ≡ outcome 0 0 (cond t rest (outcome a.fault n v)).view
    go true e i y = i y
    go false e i y = absurd (eqb-false a.fault 0 e y)

pub sheet_none : (s : List ℕ) → (lined_sheet s).fault ≡ 0 → lined_sheet s ≡ outcome 0 0 (lined_sheet s).view
unfolding lined_sheet
sheet_none s = go (ltb 32768 (length s))
  where
    o : Outcome
    o = lined 1 (split 10 s) empty_view

    go : (t : Bool) → (cond t (outcome 1 0 empty_view) o).fault ≡ 0 → cond t (outcome 1 0 empty_view) o ≡ outcome 0 0 (cond t (outcome 1 0 empty_view) o).view
    go true y = absurd (omega arith)
    go false y = lined_none 1 (split 10 s) empty_view y

ended_view : (k : ℕ) (v : PanelView) → (ended k v).view ≡ v
unfolding ended
ended_view k v = go (eqb (end_fault v) 0)
  where
    go : (t : Bool) → (cond t (outcome 0 0 v) (outcome (end_fault v) k v)).view ≡ v
    go true = refl
    go false = refl

ended_fault : (k : ℕ) (v : PanelView) → (ended k v).fault ≡ end_fault v
unfolding ended
ended_fault k v = go (eqb (end_fault v) 0) refl
  where
    go : (t : Bool) → eqb (end_fault v) 0 ≡ t → (cond t (outcome 0 0 v) (outcome (end_fault v) k v)).fault ≡ end_fault v
    go true e = sym (eqb-true (end_fault v) 0 e)
    go false e = refl

with_end_view : (k : ℕ) (o : Outcome) → (with_end k o).view ≡ o.view
with_end_view k o = go (eqb o.fault 0)
  where
    go : (t : Bool) → (cond t (ended k o.view) o).view ≡ o.view
    go true = ended_view k o.view
    go false = refl

with_end_fault : (k : ℕ) (o : Outcome) → (with_end k o).fault ≡ 0 → o.fault ≡ 0
with_end_fault k o = go (eqb o.fault 0) refl
  where
    go : (t : Bool) → eqb o.fault 0 ≡ t → (cond t (ended k o.view) o).fault ≡ 0 → o.fault ≡ 0
    go true e z = eqb-true o.fault 0 e
    go false e z = z

-- ---- with what pictures and areas are refused by

module _ (p : Overlap) (b : ℕ) where
  abbrev marked : Outcome → Outcome
  marked o = chosen p (with_broken b o)

  marked_none : (o : Outcome) → p.later ≡ 0 → b ≡ 0 → marked o ≡ o
  marked_none o e f = rw (eq-eqb p.later 0 e, eq-eqb b 0 f)

  unmarked : (o : Outcome) → (marked o).fault ≡ 0 → (p.later ≡ 0) × (b ≡ 0) × (o.fault ≡ 0)
  unmarked o = go (eqb p.later 0) (eqb b 0) refl refl
    where
      go : (t u : Bool) → eqb p.later 0 ≡ t → eqb b 0 ≡ u → ◌≡◌ {A = ℕ} (cond t (cond u o.fault 14) 12) 0 → (p.later ≡ 0) × (b ≡ 0) × (o.fault ≡ 0)
      go true true e f z = (eqb-true p.later 0 e, eqb-true b 0 f, z)
      go true false e f z = absurd (omega arith)
      go false u e f z = absurd (omega arith)

  refused_alike : (k : ℕ) (o : Outcome) → ((marked o).fault ≡ 0 → ⊥) → marked (with_end k o) ≡ marked o
  refused_alike k o = go (eqb p.later 0) (eqb b 0) (eqb o.fault 0) refl
    where
      go : (t u w : Bool) → eqb o.fault 0 ≡ w → (◌≡◌ {A = ℕ} (cond t (cond u o.fault 14) 12) 0 → ⊥)
          → outcome (cond t (cond u (cond w (ended k o.view) o).fault 14) 12) (cond t (cond u (cond w (ended k o.view) o).line b) p.line) (cond w (ended k o.view) o).view
          ≡ outcome (cond t (cond u o.fault 14) 12) (cond t (cond u o.line b) p.line) o.view
      go true true true e h = absurd (h (eqb-true o.fault 0 e))
      go true true false e h = refl
      go true false true e h = ap (outcome 14 b) (ended_view k o.view)
      go true false false e h = refl
      go false u true e h = ap (outcome 12 p.line) (ended_view k o.view)
      go false u false e h = refl

-- ---- the sheet

-- accepted lines: no areas of theirs share a cell, and no picture is broken
pub base_parts : (s : List ℕ) → (base_of s).fault ≡ 0 → ((overlap_of s).later ≡ 0) × (broken_of s ≡ 0) × ((lined_sheet s).fault ≡ 0)
unfolding base_of
base_parts s = unmarked (overlap_of s) (broken_of s) (lined_sheet s)

pub base_view : (s : List ℕ) → (sheet_of s).view ≡ (base_of s).view
unfolding sheet_of display_of base_of
base_view s = let f = fold_lined s in ap (λ (o : Outcome). o.view) f.1 ∙ with_end_view f.0 (lined_sheet s)

pub base_end : (s : List ℕ) → (base_of s).fault ≡ 0 → (sheet_of s).fault ≡ end_fault (base_of s).view
unfolding sheet_of display_of base_of
base_end s z =
    let u = base_parts s z in
    let f = fold_lined s in
    let open_end : with_end f.0 (lined_sheet s) ≡ ended f.0 (lined_sheet s).view = rw (eq-eqb (lined_sheet s).fault 0 u.2) in
    ap (λ (o : Outcome). o.fault) (marked_none (overlap_of s) (broken_of s) (fold_of s) u.0 u.1 ∙ f.1 ∙ open_end) ∙ ended_fault f.0 (lined_sheet s).view

pub base_accepted : (s : List ℕ) → (sheet_of s).fault ≡ 0 → base_of s ≡ outcome 0 0 (sheet_of s).view
unfolding base_of
base_accepted s z =
    let a = accepted_former s z in
    let d = display_former_lem s a.1 in
    let f = fold_lined s in
    let none = with_end_fault f.0 (lined_sheet s) (sym (ap (λ (o : Outcome). o.fault) f.1) ∙ d.1) in
    marked_none (overlap_of s) (broken_of s) (lined_sheet s) a.0 d.0 ∙ sheet_none s none ∙ ap (outcome 0 0) (sym (base_view s))

-- lines that are refused are refused as the whole sheet is
pub base_refused : (s : List ℕ) → ((base_of s).fault ≡ 0 → ⊥) → sheet_of s ≡ base_of s
unfolding sheet_of display_of base_of
base_refused s h =
    let f = fold_lined s in
    ap (marked (overlap_of s) (broken_of s)) f.1 ∙ refused_alike (overlap_of s) (broken_of s) f.0 (lined_sheet s) h

-- the answer of reading a sheet whose lines are refused: their number and line, and the pair of areas, zeros but for 12
abbrev pub lines_refused : List ℕ → Tables → SheetRead
lines_refused s t =
    record {
      answer = record {
        refusal = record { number = (base_of s).fault; line = (base_of s).line };
        earlier = (overlap_of s).earlier;
        later = (overlap_of s).later;
        panel = zero_panel;
      };
      tables = t;
    }

answer_by : (s : List ℕ) (t : Tables) → ((base_of s).fault ≡ 0 → ⊥) → (o : Outcome) → o ≡ base_of s → overlap_of s ≡ no_overlap → read_by no_overlap o t ≡ lines_refused s t
unfolding read_by
answer_by s t h o e n = rw (e, ne_eqb (base_of s).fault 0 h, n)

pub base_answer : (s : List ℕ) (t : Tables) → ((base_of s).fault ≡ 0 → ⊥) → read_sheet s t ≡ lines_refused s t
base_answer s t h = go (eqb (overlap_of s).later 0) refl
  where
    go : (b : Bool) → eqb (overlap_of s).later 0 ≡ b → read_sheet s t ≡ lines_refused s t
    go true e =
        let z = eqb-true (overlap_of s).later 0 e in
        read_former s t z ∙ answer_by s t h (display_of s) (sym (former_outcome s z) ∙ base_refused s h) (none-overlap s z)
    go false e =
        let z = eqb-false (overlap_of s).later 0 e in
        let r = overlap-refused s z in
        let b = base_refused s h in
        read_overlap s t z ∙ rw (← b, r.0, r.1)

pub base_fits : (s : List ℕ) → FitsPanel (base_of s).view
base_fits s = subst FitsPanel (base_view s) (sheet_fits s)

pub base_stage : (s : List ℕ) → (base_of s).view.stage ≤ 3
base_stage s = subst (λ (v : PanelView). v.stage ≤ 3) (base_view s) (sheet_stage s)

-- ---- step 0: no edit

-- "a sheet is accepted" where its lines are and no edit is refused after them, by what comes after the last line
pub no_edit_accepted : (s : List ℕ) (t : Tables) → (base_of s).fault ≡ 0 → edits_fault (base_of s).view [] ≡ 0 → short_stores t ≡ false → Accepted s t
unfolding edits_fault edited_by calls_of calls_fault read_by
no_edit_accepted s t z e long =
    let later = (base_parts s z).0 in
    let none : (display_of s).fault ≡ 0 = ap (λ (o : Outcome). o.fault) (sym (former_outcome s later)) ∙ base_end s z ∙ (or-none (end_fault (base_of s).view) 0 e).0 in
    ap (λ (r : SheetRead). r.answer.refusal) (read_former s t later) ∙ rw (none, long)

pub accepted_no_edit : (s : List ℕ) (t : Tables) → Accepted s t → ((base_of s).fault ≡ 0) × (edits_fault (base_of s).view [] ≡ 0) × (short_stores t ≡ false)
unfolding edits_fault edited_by calls_of calls_fault
accepted_no_edit s t ok =
    let a = accepted_sheet s t ok in
    let b : (base_of s).fault ≡ 0 = ap (λ (o : Outcome). o.fault) (base_accepted s a.0) in
    (b, rw (sym (base_end s b) ∙ a.0), a.1)

-- "step 0 is the panel before them"
pub base_held : (s : List ℕ) (t : Tables) → Accepted s t → edits_held (base_of s).view t [] ≡ sheet_held s t
unfolding edits_held edited_by calls_of after_calls
base_held s t ok = rw (← base_view s) (sym (sheet_held_lem s t ok))
