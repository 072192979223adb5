-- Where an overlap is no fault, nothing is refused by 12. Assumes nothing.
use Prim.Native.Nat.{ℕ, ◌+◌}
use mathlib.Core.Path.{◌≡◌, refl, sym, ap, ◌∙◌, subst}
use mathlib.Core.List.{List, [], ◌∷◌}
use mathlib.Core.Bool.{Bool, true, false, cond}
use mathlib.Core.Logic.{⊎_elim}
use native.Mathlib.Omega.{arith}
use lib.Dec.{eqb, ltb}
use lib.ListN.{length}
use Rattle.text.specs.Split.{split}
use Rattle.sheet_forms.specs.Said.{Record}
use Rattle.sheet_forms.specs.Said.{Fault, Axis as AxisLine, Area, Name, Track, Repeat, End, Spare, Extra, Item, Place, PictureRow, Cell}
use Rattle.sheet_forms.specs.Faults.{first_of, no_row, first_row}
use Rattle.sheet_forms.specs.Records.{record_of, fault_of}
use Rattle.sheet_forms.proofs.Firsts.{first_either, first_none}
use Rattle.sheet_forms.proofs.Bounds.{Bounded}
use Rattle.sheet_forms.proofs.Theorem.{record_bounded}
use Rattle.panel_tables.specs.View.{PanelView, empty_view, accepted, refused}
use Rattle.sheet_rules.specs.Lines.{late_at, record_step, twice_fault, stage_of, late_fault, record_fault, at_stage, line_step}
use Rattle.sheet_rules.specs.Sheet.{end_fault, outcome, ended, run, fold_of, broken_of, display_of}
use Rattle.sheet_rules.specs.Rows.{Row, unread, bad_name, bad_value, bad_count, bad_area, twice, late, crowded, overlap, unequal, broken, number_of, First}
use Rattle.sheet_rules.proofs.Says.{Says, record_says}
use Rattle.sheet_rules.proofs.Only.{Only, own_first}
use Rattle.sheet_rules.proofs.LineRows.{late_yes, IsRecord, twice-first, late-first, step-first}
use Rattle.sheet_rules.proofs.Theorem.{after_first}

-- only row 12 has that number
not-overlap : {holds : Row → Type 0} {n : ℕ} → (holds overlap → ⊥) → First holds n → n ≡ 12 → ⊥
not-overlap h (no_row e k) z = omega (arith, e, z)
not-overlap {holds} {n} h (first_row r e k l) z = go r e k
  where
    go : (r : Row) → n ≡ number_of r → holds r → ⊥
    go unread e k = omega (arith, e, z)
    go bad_name e k = omega (arith, e, z)
    go bad_value e k = omega (arith, e, z)
    go bad_count e k = omega (arith, e, z)
    go bad_area e k = omega (arith, e, z)
    go twice e k = omega (arith, e, z)
    go late e k = omega (arith, e, z)
    go crowded e k = omega (arith, e, z)
    go overlap e k = h k
    go unequal e k = omega (arith, e, z)
    go broken e k = omega (arith, e, z)

neither : (a b : ℕ) → (a ≡ 12 → ⊥) → (b ≡ 12 → ⊥) → first_of a b ≡ 12 → ⊥
neither a b h k z = ⊎_elim (λ e. h (sym e ∙ z)) (λ e. k (sym e ∙ z)) (first_either a b)

other_row : (q : Row) → (number_of q ≡ 12 → ⊥) → {P : Type 0} → Only q P overlap → ⊥
other_row q h (e, p) = h (sym (ap number_of e))

module _ (v : PanelView) (fs : List (List ℕ)) where
  own-number : (r : Record) → record_of fs ≡ r → fault_of r ≡ 12 → ⊥
  own-number r e = subst (λ (x : Record). fault_of x ≡ 12 → ⊥) e (not-overlap (λ x. x) (own_first fs))

  record-number : (r : Record) → record_of fs ≡ r → IsRecord r → record_fault v fs r ≡ 12 → ⊥
  unfolding record_fault
  record-number r e i =
      let says = subst (Says fs) e (record_says fs) in
      let bounded = subst (Bounded fs) e (record_bounded fs) in
      neither (fault_of r) (first_of (twice_fault v fs r) (first_of (late_fault v r) (record_step v fs r).fault)) (own-number r e)
      (neither (twice_fault v fs r) (first_of (late_fault v r) (record_step v fs r).fault) (not-overlap (other_row twice (λ z. omega arith)) (twice-first v fs r i says))
      (neither (late_fault v r) (record_step v fs r).fault (not-overlap (other_row late (λ z. omega arith)) (late-first v fs r i says))
      (not-overlap (⊎_elim (other_row unread (λ z. omega arith)) (⊎_elim (other_row crowded (λ z. omega arith)) (other_row unequal (λ z. omega arith)))) (step-first v fs r i says bounded))))

  fault-fault : (n : ℕ) → record_fault v fs (Fault n) ≡ n
  unfolding record_fault record_step first_of
  fault-fault n = rw (never-late (late_at v.stage v.stage) refl) (first_none n)
    where
      never-late : (t : Bool) → late_at v.stage v.stage ≡ t → late_at v.stage v.stage ≡ false
      never-late true e = absurd (⊎_elim (λ h. omega arith) (λ h. omega arith) (late_yes v.stage v.stage e))
      never-late false e = e

  any-number : (r : Record) → record_of fs ≡ r → record_fault v fs r ≡ 12 → ⊥
  any-number (Fault n) e = λ z. own-number (Fault n) e (sym (fault-fault n) ∙ z)
  any-number (AxisLine a) e = record-number (AxisLine a) e tt
  any-number (Area a) e = record-number (Area a) e tt
  any-number (Name a) e = record-number (Name a) e tt
  any-number (Track a min max) e = record-number (Track a min max) e tt
  any-number (Repeat a n) e = record-number (Repeat a n) e tt
  any-number (End a) e = record-number (End a) e tt
  any-number (Spare a min max) e = record-number (Spare a min max) e tt
  any-number (Extra a n p) e = record-number (Extra a n p) e tt
  any-number (Item a i) e = record-number (Item a i) e tt
  any-number (Place a s t) e = record-number (Place a s t) e tt
  any-number (PictureRow n) e = record-number (PictureRow n) e tt
  any-number (Cell cs ce rs re) e = record-number (Cell cs ce rs re) e tt

  line-number : (line_step v fs).fault ≡ 12 → ⊥
  unfolding line_step
  line-number = go (eqb (record_fault v fs (record_of fs)) 0)
    where
      go : (t : Bool) → (cond t (accepted (at_stage (stage_of v (record_of fs)) (record_step v fs (record_of fs)).panel)) (refused (record_fault v fs (record_of fs)) v)).fault ≡ 12 → ⊥
      go true z = omega arith
      go false z = any-number (record_of fs) refl z

ended_number : (n : ℕ) (v : PanelView) → (ended n v).fault ≡ 12 → ⊥
unfolding ended
ended_number n v = go (eqb (end_fault v) 0)
  where
    go : (t : Bool) → (cond t (outcome 0 0 v) (outcome (end_fault v) n v)).fault ≡ 12 → ⊥
    go true z = omega arith
    go false z = not-overlap (λ x. x) (after_first v) z

run_number : (n : ℕ) (ls : List (List ℕ)) (v : PanelView) → (run n ls v).fault ≡ 12 → ⊥
unfolding run
run_number n [] v = ended_number n v
run_number n (l ∷ []) v = go (eqb (length l) 0)
  where
    go : (t : Bool) → (cond t (ended n v) (outcome 1 n v)).fault ≡ 12 → ⊥
    go true z = ended_number n v z
    go false z = omega arith
run_number n (l ∷ m ∷ ls) v = go (run_number (n + 1) (m ∷ ls) (line_step v (split 9 l)).panel) (eqb (line_step v (split 9 l)).fault 0)
  where
    go : ((run (n + 1) (m ∷ ls) (line_step v (split 9 l)).panel).fault ≡ 12 → ⊥)
        → (t : Bool) → (cond t (run (n + 1) (m ∷ ls) (line_step v (split 9 l)).panel) (outcome (line_step v (split 9 l)).fault n v)).fault ≡ 12 → ⊥
    go rest true z = rest z
    go rest false z = line-number v (split 9 l) z

fold_number : (s : List ℕ) → (fold_of s).fault ≡ 12 → ⊥
unfolding fold_of
fold_number s = go (ltb 32768 (length s))
  where
    go : (t : Bool) → (cond t (outcome 1 0 empty_view) (run 1 (split 10 s) empty_view)).fault ≡ 12 → ⊥
    go true z = omega arith
    go false z = run_number 1 (split 10 s) empty_view z

-- a broken picture is refused by 14
pub former_number : (s : List ℕ) → (display_of s).fault ≡ 12 → ⊥
unfolding display_of
former_number s = go (eqb (broken_of s) 0)
  where
    go : (t : Bool) → cond t (fold_of s).fault 14 ≡ 12 → ⊥
    go true z = fold_number s z
    go false z = omega arith
