-- The lines of a sheet, read into zeros, are refused as the sheet's lines are, and where they are not, what is held is what their view says.
-- Assumes nothing.
use Rattle.std.specs.Prelude.{Result, Ok, Err, IfOk}
use Prim.Native.Nat.{ℕ, ◌+◌, ◌≤◌, ◌<◌}
use mathlib.Core.Path.{◌≡◌, refl, sym, ap, ◌∙◌, subst}
use mathlib.Core.List.{List, [], ◌∷◌}
use mathlib.Core.Bool.{Bool, true, false, cond}
use native.Mathlib.Omega.{arith}
use lib.Dec.{eqb}
use lib.ListN.{length}
use borrow.Author.Tests.{le-ltb, lt-ltb, eqb-true, eqb-false}
use Rattle.text.specs.Split.{split}
use Rattle.panel_tables.specs.View.{PanelView, empty_view}
use Rattle.panel_tables.specs.Written.{PanelHeld, held_panel}
use Rattle.panel_tables.proofs.Same.{zeros_same}
use Rattle.sheet_rules.specs.declared.Overlap.{Overlap}
use Rattle.sheet_rules.specs.declared.SheetFault.{SheetFault}
use Rattle.sheet_rules.specs.Answers.{SheetAnswer, noted}
use Rattle.sheet_rules.specs.Lines.{line_step}
use Rattle.sheet_rules.specs.Sheet.{Outcome, outcome, broken_of, no_overlap, overlap_of, with_broken as outcome_with, chosen}
use Rattle.sheet_rules.proofs.Fits.{FitsSheet, line-fits, empty_fits_sheet}
use Rattle.sheet_rules.proofs.Chosen.{none-overlap}
use Rattle.sheet.specs.Runs.{HeldRun, stopped, held_run, held_overlap, held_broken, broken_fault, broken_place}
use Rattle.sheet.specs.declared.LinesRead.{LinesRead}
use Rattle.sheet.specs.Steps.{fault_in, stop_in, line_or_none, refused_answer, overlap_answer, judged_by, judgement, zero_held}
use Rattle.sheet.proofs.Follows.{line_follows}
use Rattle.sheet.proofs.Answers.{pair-noted, sheet_broken}
use Rattle.edit_rules.specs.Bases.{lined, lined_sheet, base_of}
use Rattle.edit_rules.proofs.Bases.{sheet_none}
use Rattle.panel_edits.specs.Bases.{lines_judgement, base_judgement}

-- ---- what is held after lines is what their view says

-- lines and what they mean: refused ones hold nothing that is answered
record Lined (r : HeldRun) (o : Outcome) : Type 0 where
  pub fault : r.fault ≡ o.fault
  pub line : (o.fault ≡ 0 → ⊥) → r.line ≡ o.line
  pub held : o.fault ≡ 0 → r.held ≡ held_panel o.view

lined_stop : (n m : ℕ) (h : PanelHeld) (v : PanelView) (f : ℕ) → n ≡ f → (f ≡ 0 → ⊥) → Lined (stopped n m h) (outcome f m v)
lined_stop n m h v f e z = record { fault = e; line = λ y. refl; held = λ y. absurd (z y) }

lined_end : (n : ℕ) (v : PanelView) → Lined (stopped 0 n (held_panel v)) (outcome 0 0 v)
lined_end n v = record { fault = refl; line = λ y. absurd (y refl); held = λ y. refl }

-- from any line on
lines_follow : (n : ℕ) (ls : List (List ℕ)) (v : PanelView) → FitsSheet v → Lined (held_run n ls (held_panel v)) (lined n ls v)
unfolding lined held_run
lines_follow n [] v f = lined_end n v
lines_follow n (l ∷ []) v f = go (eqb (length l) 0)
  where
    go : (t : Bool) → Lined (cond t (stopped 0 n (held_panel v)) (stopped 1 n (held_panel v))) (cond t (outcome 0 0 v) (outcome 1 n v))
    go true = lined_end n v
    go false = lined_stop 1 n (held_panel v) v 1 refl (λ y. omega arith)
lines_follow n (l ∷ m ∷ ls) v f =
    line_follows Lined lined_stop n (split 9 l) v f (held_run (n + 1) (m ∷ ls)) (lined (n + 1) (m ∷ ls)) (lines_follow (n + 1) (m ∷ ls) (line_step v (split 9 l)).panel (line-fits v f (split 9 l)))

-- of a sheet that is not too long
sheet_lines : (s : List ℕ) → length s ≤ 32768 → Lined (held_run 1 (split 10 s) zero_held) (lined_sheet s)
unfolding lined_sheet
sheet_lines s k =
    rw (le-ltb 32768 (length s) k)
    (subst (λ (h : PanelHeld). Lined (held_run 1 (split 10 s) h) (lined 1 (split 10 s) empty_view)) zeros_same (lines_follow 1 (split 10 s) empty_view empty_fits_sheet))

-- ---- what they are refused by

-- a number at its line, where there is one
abbrev told : HeldRun → ℕ
told r = cond (eqb r.fault 0) 0 r.line

-- a sheet too long
pub base_long : (s : List ℕ) → 32768 < length s → refused_answer 1 0 ≡ base_judgement s
unfolding base_judgement base_of lined_sheet broken_of overlap_of
base_long s k = rw (lt-ltb 32768 (length s) k)

module _ (s : List ℕ) (few : length s ≤ 32768) (start : PanelHeld) (zero : start ≡ zero_held) where
  abbrev r : HeldRun
  r = held_run 1 (split 10 s) start

  run_lines : Lined r (lined_sheet s)
  run_lines = subst (λ (h : PanelHeld). Lined (held_run 1 (split 10 s) h) (lined_sheet s)) (sym zero) (sheet_lines s few)

  told_line : told r ≡ (lined_sheet s).line
  told_line = go (eqb r.fault 0) refl
    where
      go : (t : Bool) → eqb r.fault 0 ≡ t → cond t 0 r.line ≡ (lined_sheet s).line
      go true e = sym (ap (λ (o : Outcome). o.line) (sheet_none s (sym run_lines.fault ∙ eqb-true r.fault 0 e)))
      go false e = run_lines.line (λ y. eqb-false r.fault 0 e (run_lines.fault ∙ y))

  -- the choice of the pair, a broken picture and a line's fault
  chosen_same : (p : Overlap) (b : ℕ) (o : Outcome) → (p.later ≡ 0 → p ≡ no_overlap)
      → judged_by false p (broken_fault b o.fault) (broken_place b o.line)
      ≡ record {
        refusal = record { number = (chosen p (outcome_with b o)).fault; line = (chosen p (outcome_with b o)).line };
        earlier = p.earlier;
        later = p.later;
        panel = (refused_answer 0 0).panel;
      }
  chosen_same p b o none = go (eqb p.later 0) refl
    where
      go : (t : Bool) → eqb p.later 0 ≡ t
          → cond t (refused_answer (broken_fault b o.fault) (broken_place b o.line)) (overlap_answer p)
          ≡ record {
            refusal = record { number = cond t (outcome_with b o).fault 12; line = cond t (outcome_with b o).line p.line };
            earlier = p.earlier;
            later = p.later;
            panel = (refused_answer 0 0).panel;
          }
      go true e =
          ap {B = SheetAnswer} (λ (q : Overlap). record {
            refusal = record { number = broken_fault b o.fault; line = broken_place b o.line };
            earlier = q.earlier;
            later = q.later;
            panel = (refused_answer 0 0).panel;
          }) (sym (none (eqb-true p.later 0 e)))
      go false e = refl

  -- of lines that were read into it
  module _ (l : LinesRead) (h : PanelHeld) (lines : record { fault = fault_in l.end; line = stop_in l.end; held = h } ≡ held_run 1 (split 10 s) start) where
    pub base_judged : noted l.overlap ≡ held_overlap 1 (split 10 s) start → line_or_none l.broken ≡ held_broken 1 (split 10 s) start → lines_judgement l ≡ base_judgement s
    unfolding base_judgement base_of
    base_judged x y =
        rw (
          pair-noted s few start zero (noted l.overlap) x,
          y ∙ ap (held_broken 1 (split 10 s)) zero ∙ sheet_broken s few,
          ap (λ (r : HeldRun). told r) lines ∙ told_line,
          ap (λ (r : HeldRun). r.fault) lines ∙ run_lines.fault,
        )
        (chosen_same (overlap_of s) (broken_of s) (lined_sheet s) (none-overlap s))

    -- accepted ones leave what is held for the view
    accepted_held : fault_in l.end ≡ 0 → h ≡ held_panel (base_of s).view
    unfolding base_of
    accepted_held z = ap (λ (r : HeldRun). r.held) lines ∙ run_lines.held (sym run_lines.fault ∙ ap (λ (r : HeldRun). r.fault) (sym lines) ∙ z)

    -- no pair, no broken picture and no fault of a line
    unrefused : (lines_judgement l).refusal.number ≡ 0 → fault_in l.end ≡ 0
    unrefused = go (eqb (noted l.overlap).later 0) (eqb (line_or_none l.broken) 0)
      where
        at : ℕ
        at = cond (eqb (fault_in l.end) 0) 0 (stop_in l.end)

        go : (t u : Bool)
            → (cond t (refused_answer (cond u (fault_in l.end) 14) (cond u at (line_or_none l.broken))) (overlap_answer (noted l.overlap))).refusal.number ≡ 0
            → fault_in l.end ≡ 0
        go true true z = z
        go true false z = absurd (omega (arith, z))
        go false u z = absurd (omega (arith, z))

    pub drafted_held : (r : Result (Unit {0}) SheetFault) → judgement r ≡ lines_judgement l → IfOk r (λ u. h ≡ held_panel (base_of s).view)
    drafted_held (Ok u) e = accepted_held (unrefused (ap (λ (a : SheetAnswer). a.refusal.number) (sym e)))
    drafted_held (Err f) e = tt
