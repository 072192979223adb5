-- A sheet without fault has none at its end, so no axis of it has more than 4,096 entries or 32,768 bytes. Assumes nothing.
use Prim.Native.Nat.{ℕ, ◌+◌, ◌≤◌}
use mathlib.Core.Path.{◌≡◌, refl}
use mathlib.Core.Bool.{Bool, true, false, cond}
use mathlib.Core.List.{List, [], ◌∷◌}
use native.Mathlib.Omega.{arith}
use lib.Dec.{eqb, ltb}
use lib.ListN.{length, length-map}
use borrow.Author.Tests.{ltb-false, eqb-true, eqb-false}
use Rattle.coordinates.specs.declared.axis.Axis.{Axis}
use Rattle.coordinates.specs.declared.axis.Axis.TheVariants.{Column, Row}
use Rattle.name_template.specs.Writing.{entry_word}
use Rattle.text.specs.Split.{split}
use Rattle.sheet_forms.specs.Faults.{first_of}
use Rattle.sheet_forms.proofs.Firsts.{first_zero}
use Rattle.axis_tables.specs.View.{AxisView, axis_bytes}
use Rattle.axis_tables.proofs.Fits.{Fits}
use Rattle.panel_tables.specs.View.{PanelView, empty_view}
use Rattle.panel_tables.specs.Axes.{view_in}
use Rattle.panel_tables.proofs.Axes.{axis_in_fits}
use Rattle.sheet_rules.specs.Lines.{line_step}
use Rattle.sheet_rules.specs.Sheet.{entries_of, open_fault, count_fault, entries_fault, axis_fault, end_fault, outcome, ended, run, fold_of, display_of, sheet_of}
use Rattle.sheet_rules.specs.Panels.{name_entries, entry_words}
use Rattle.sheet_rules.proofs.Chosen.{display_former_lem, whole-outcome, accepted_former}
use Rattle.sheet_rules.proofs.Fits.{sheet_fits}
use Rattle.sheet_end.proofs.Entries.{none_open, entries-count}

-- ---- the end of a sheet without fault

ended-end : (n : ℕ) (v : PanelView) → (ended n v).fault ≡ 0 → end_fault (ended n v).view ≡ 0
unfolding ended
ended-end n v = go (eqb (end_fault v) 0) refl
  where
    go : (t : Bool) → eqb (end_fault v) 0 ≡ t → let o = cond t (outcome 0 0 v) (outcome (end_fault v) n v) in o.fault ≡ 0 → end_fault o.view ≡ 0
    go true e z = eqb-true (end_fault v) 0 e
    go false e z = z

run_end : (n : ℕ) (ls : List (List ℕ)) (v : PanelView) → (run n ls v).fault ≡ 0 → end_fault (run n ls v).view ≡ 0
unfolding run
run_end n [] v = ended-end n v
run_end n (l ∷ []) v = go (eqb (length l) 0)
  where
    go : (t : Bool) → let o = cond t (ended n v) (outcome 1 n v) in o.fault ≡ 0 → end_fault o.view ≡ 0
    go true z = ended-end n v z
    go false z = absurd (omega arith)
run_end n (l ∷ m ∷ ls) v = go (eqb (line_step v (split 9 l)).fault 0) refl (run_end (n + 1) (m ∷ ls) (line_step v (split 9 l)).panel)
  where
    go : (t : Bool) → eqb (line_step v (split 9 l)).fault 0 ≡ t
        → ((run (n + 1) (m ∷ ls) (line_step v (split 9 l)).panel).fault ≡ 0 → end_fault (run (n + 1) (m ∷ ls) (line_step v (split 9 l)).panel).view ≡ 0)
        → let o = cond t (run (n + 1) (m ∷ ls) (line_step v (split 9 l)).panel) (outcome (line_step v (split 9 l)).fault n v) in o.fault ≡ 0 → end_fault o.view ≡ 0
    go true e rest z = rest z
    go false e rest z = absurd (eqb-false (line_step v (split 9 l)).fault 0 e z)

-- the whole sheet
display_end : (s : List ℕ) → (display_of s).fault ≡ 0 → end_fault (display_of s).view ≡ 0
unfolding fold_of
display_end s z = rw (whole-outcome s (display_former_lem s z).0) (go (ltb 32768 (length s)) (display_former_lem s z).1)
  where
    go : (t : Bool) → let o = cond t (outcome 1 0 empty_view) (run 1 (split 10 s) empty_view) in o.fault ≡ 0 → end_fault o.view ≡ 0
    go true z = absurd (omega arith)
    go false z = run_end 1 (split 10 s) empty_view z

pub sheet_end : (s : List ℕ) → (sheet_of s).fault ≡ 0 → end_fault (sheet_of s).view ≡ 0
unfolding sheet_of
sheet_end s z = display_end s (accepted_former s z).1

-- of either axis
pub no_fault : (v : PanelView) → end_fault v ≡ 0 → (a : Axis) → axis_fault (view_in v a) ≡ 0
unfolding end_fault
no_fault v e Column = (first_zero (axis_fault v.columns) (axis_fault v.rows) e).0
no_fault v e Row = (first_zero (axis_fault v.columns) (axis_fault v.rows) e).1

-- ---- its entries

-- "4,096 name entries an axis"
few-entries : (v : AxisView) → entries_fault v ≡ 0 → length (entries_of v) ≤ 4096
few-entries v = go (ltb 4096 (length (entries_of v))) refl
  where
    go : (t : Bool) → ltb 4096 (length (entries_of v)) ≡ t → ◌≡◌ {A = ℕ} (cond t 8 0) 0 → length (entries_of v) ≤ 4096
    go true e z = absurd (omega arith)
    go false e z = ltb-false 4096 (length (entries_of v)) e

-- the words of the entries are as many as the entries
pub few_words : (v : AxisView) → Fits v → axis_fault v ≡ 0 → length (entry_words v) ≤ 4096
unfolding entry_words
few_words v f e =
    let z = (first_zero (open_fault v.unended) (first_of (count_fault v) (entries_fault v)) e).1 in
    let k = few-entries v (first_zero (count_fault v) (entries_fault v) z).1 in
    omega (arith, length-map (name_entries v) entry_word, entries-count v f (none_open v e), k)

-- of either axis of a sheet
pub sheet_words : (s : List ℕ) → (sheet_of s).fault ≡ 0 → (a : Axis) → length (entry_words (view_in (sheet_of s).view a)) ≤ 4096
sheet_words s ok a = few_words (view_in (sheet_of s).view a) (axis_in_fits (sheet_of s).view a (sheet_fits s)) (no_fault (sheet_of s).view (sheet_end s ok) a)

pub sheet_bytes : (s : List ℕ) (a : Axis) → length (axis_bytes (view_in (sheet_of s).view a)) ≤ 32768
sheet_bytes s a = (axis_in_fits (sheet_of s).view a (sheet_fits s)).bytes
