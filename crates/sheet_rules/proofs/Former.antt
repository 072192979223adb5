-- Where an overlap is no fault nothing is refused by 12. Assumes nothing.
use Prim.Native.Nat.{ℕ, ◌+◌}
use mathlib.Core.Path.{◌≡◌, refl, sym, ap, ◌∙◌, subst}
use mathlib.Core.List.{List, [], ◌∷◌}
use mathlib.Core.Bool.{Bool, true, false, cond}
use mathlib.Core.Logic.{inl, inr, ⊎_elim}
use native.Mathlib.Omega.{arith}
use lib.Dec.{eqb, ltb}
use lib.ListN.{length}
use Rattle.text.specs.Split.{split}
use Rattle.sheet_forms.specs.Said.{Record}
use Rattle.sheet_forms.specs.Said.{Fault, Axis as AxisLine, Area, Name, Track, Repeat, End, Spare, Extra, Item, Place, PictureRow, Cell}
use Rattle.sheet_forms.specs.Faults.{first_of, no_row, first_row}
use Rattle.sheet_forms.specs.Records.{record_of, fault_of}
use Rattle.sheet_forms.proofs.Firsts.{first_either}
use Rattle.sheet_forms.proofs.Bounds.{Bounded}
use Rattle.sheet_forms.proofs.Theorem.{record_bounded}
use Rattle.axis_tables.specs.View.{Unended, none, inside, AxisView}
use Rattle.panel_tables.specs.View.{PanelView, has_area, empty_view}
use Rattle.panel_tables.specs.Axes.{view_in}
use Rattle.sheet_forms.specs.Words.{at}
use Rattle.sheet_rules.specs.Lines.{late_at, stage_of, record_step, twice_fault, record_fault, line_step}
use Rattle.sheet_rules.specs.Rows.{Row, unread, bad_name, bad_value, bad_count, bad_area, twice, late, crowded, overlap, unequal, broken, number_of, First}
use Rattle.sheet_rules.specs.Sheet.{Outcome, outcome, ended, run, fold_of, broken_of, display_of, end_fault, axis_fault, open_fault, explicit_of, entries_of}
use Rattle.sheet_rules.proofs.Says.{Says, record_says}
use Rattle.sheet_rules.proofs.Only.{own_first}
use Rattle.sheet_rules.proofs.LineRows.{IsRecord, StepRow, step-first}
use Rattle.sheet_rules.proofs.LineTheorem.{outcome-fault}

-- the first of two numbers
of-two : (a b : ℕ) → (a ≡ 12 → ⊥) → (b ≡ 12 → ⊥) → first_of a b ≡ 12 → ⊥
of-two a b h k z = ⊎_elim (λ e. h (sym e ∙ z)) (λ e. k (sym e ∙ z)) (first_either a b)

-- a number where a test says so
if-so : (t : Bool) (a b : ℕ) → (a ≡ 12 → ⊥) → (b ≡ 12 → ⊥) → cond t a b ≡ 12 → ⊥
if-so true a b h k = h
if-so false a b h k = k

-- the number of the first row, of which none is that of an overlap
row-other : {holds : Row → Type 0} {n : ℕ} → (holds overlap → ⊥) → First holds n → n ≡ 12 → ⊥
row-other h (no_row e k) z = omega (arith, e, z)
row-other h (first_row unread e x k) z = omega (arith, e, z)
row-other h (first_row bad_name e x k) z = omega (arith, e, z)
row-other h (first_row bad_value e x k) z = omega (arith, e, z)
row-other h (first_row bad_count e x k) z = omega (arith, e, z)
row-other h (first_row bad_area e x k) z = omega (arith, e, z)
row-other h (first_row twice e x k) z = omega (arith, e, z)
row-other h (first_row late e x k) z = omega (arith, e, z)
row-other h (first_row crowded e x k) z = omega (arith, e, z)
row-other h (first_row overlap e x k) z = h x
row-other h (first_row unequal e x k) z = omega (arith, e, z)
row-other h (first_row broken e x k) z = omega (arith, e, z)

-- ---- a line

module _ (v : PanelView) (fs : List (List ℕ)) where
  no-step-row : StepRow v fs overlap → ⊥
  no-step-row (inl (e, x)) = omega (arith, ap number_of e)
  no-step-row (inr (inl (e, x))) = omega (arith, ap number_of e)
  no-step-row (inr (inr (e, x))) = omega (arith, ap number_of e)

  record-other : (r : Record) → record_of fs ≡ r → IsRecord r → (record_step v fs r).fault ≡ 12 → ⊥
  record-other r e i = row-other no-step-row (step-first v fs r i (subst (Says fs) e (record_says fs)) (subst (Bounded fs) e (record_bounded fs)))

  step-other : (r : Record) → record_of fs ≡ r → (record_step v fs r).fault ≡ 12 → ⊥
  unfolding record_step
  step-other (Fault n) e z = omega (arith, z)
  step-other (AxisLine a) e z = record-other (AxisLine a) e tt z
  step-other (Area a) e z = record-other (Area a) e tt z
  step-other (Name a) e z = record-other (Name a) e tt z
  step-other (Track a min max) e z = record-other (Track a min max) e tt z
  step-other (Repeat a n) e z = record-other (Repeat a n) e tt z
  step-other (End a) e z = record-other (End a) e tt z
  step-other (Spare a min max) e z = record-other (Spare a min max) e tt z
  step-other (Extra a n p) e z = record-other (Extra a n p) e tt z
  step-other (Item a i) e z = record-other (Item a i) e tt z
  step-other (Place a s t) e z = record-other (Place a s t) e tt z
  step-other (PictureRow n) e z = record-other (PictureRow n) e tt z
  step-other (Cell cs ce rs re) e z = record-other (Cell cs ce rs re) e tt z

  twice-other : (r : Record) → twice_fault v fs r ≡ 12 → ⊥
  twice-other (Fault n) z = omega (arith, z)
  twice-other (AxisLine a) z = if-so (eqb (view_in v a.axis).line.seen 0) 0 6 (λ y. omega (arith, y)) (λ y. omega (arith, y)) z
  twice-other (Area a) z = if-so (has_area (at fs 1) v.areas) 6 0 (λ y. omega (arith, y)) (λ y. omega (arith, y)) z
  twice-other (Name a) z = omega (arith, z)
  twice-other (Track a min max) z = omega (arith, z)
  twice-other (Repeat a n) z = omega (arith, z)
  twice-other (End a) z = omega (arith, z)
  twice-other (Spare a min max) z = omega (arith, z)
  twice-other (Extra a n p) z = omega (arith, z)
  twice-other (Item a i) z = omega (arith, z)
  twice-other (Place a s e) z = omega (arith, z)
  twice-other (PictureRow n) z = omega (arith, z)
  twice-other (Cell cs ce rs re) z = omega (arith, z)

  own-other : fault_of (record_of fs) ≡ 12 → ⊥
  own-other = row-other (λ x. x) (own_first fs)

  fault-other : record_fault v fs (record_of fs) ≡ 12 → ⊥
  unfolding record_fault
  fault-other =
      let r : Record = record_of fs in
      of-two _ _ own-other
      (of-two _ _ (twice-other r)
      (of-two _ _ (if-so (late_at (stage_of v r) v.stage) 7 0 (λ z. omega (arith, z)) (λ z. omega (arith, z))) (step-other r refl)))

  line-other : (line_step v fs).fault ≡ 12 → ⊥
  unfolding line_step
  line-other z = fault-other (sym (outcome-fault v fs (record_of fs)) ∙ z)

-- ---- the line after the last

open-other : (u : Unended) → open_fault u ≡ 12 → ⊥
open-other none z = omega (arith, z)
open-other (inside r) z = omega (arith, z)

axis-other : (x : AxisView) → axis_fault x ≡ 12 → ⊥
axis-other x =
    of-two _ _ (open-other x.unended)
    (of-two _ _ (if-so (ltb 10000 (explicit_of x)) 4 0 (λ z. omega (arith, z)) (λ z. omega (arith, z)))
    (if-so (ltb 4096 (length (entries_of x))) 8 0 (λ z. omega (arith, z)) (λ z. omega (arith, z))))

end-other : (v : PanelView) → end_fault v ≡ 12 → ⊥
unfolding end_fault
end-other v = of-two _ _ (axis-other v.columns) (axis-other v.rows)

ended-other : (n : ℕ) (v : PanelView) → (ended n v).fault ≡ 12 → ⊥
unfolding ended
ended-other n v = go (eqb (end_fault v) 0)
  where
    go : (t : Bool) → (cond t (outcome 0 0 v) (outcome (end_fault v) n v)).fault ≡ 12 → ⊥
    go true z = omega (arith, z)
    go false z = end-other v z

-- ---- the sheet

run-other : (n : ℕ) (ls : List (List ℕ)) (v : PanelView) → (run n ls v).fault ≡ 12 → ⊥
unfolding run
run-other n [] v = ended-other n v
run-other n (l ∷ []) v = go (eqb (length l) 0)
  where
    go : (t : Bool) → (cond t (ended n v) (outcome 1 n v)).fault ≡ 12 → ⊥
    go true z = ended-other n v z
    go false z = omega (arith, z)
run-other n (l ∷ m ∷ ls) v = go (run-other (n + 1) (m ∷ ls) (line_step v (split 9 l)).panel) (eqb (line_step v (split 9 l)).fault 0)
  where
    rest : Outcome
    rest = run (n + 1) (m ∷ ls) (line_step v (split 9 l)).panel

    go : (rest.fault ≡ 12 → ⊥) → (t : Bool) → (cond t rest (outcome (line_step v (split 9 l)).fault n v)).fault ≡ 12 → ⊥
    go h true z = h z
    go h false z = line-other v (split 9 l) z

fold-other : (s : List ℕ) → (fold_of s).fault ≡ 12 → ⊥
unfolding fold_of
fold-other s = go (ltb 32768 (length s))
  where
    go : (t : Bool) → (cond t (outcome 1 0 empty_view) (run 1 (split 10 s) empty_view)).fault ≡ 12 → ⊥
    go true z = omega (arith, z)
    go false z = run-other 1 (split 10 s) empty_view z

pub display-other : (s : List ℕ) → (display_of s).fault ≡ 12 → ⊥
unfolding display_of
display-other s = if-so (eqb (broken_of s) 0) (fold_of s).fault 14 (fold-other s) (λ z. omega (arith, z))
