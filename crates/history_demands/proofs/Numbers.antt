-- The refusals of an edit but 10 and 16 are the first rows of the table, up to 14. Assumes nothing.
use Prim.Native.Nat.{ℕ, ◌+◌, ◌≤◌}
use mathlib.Core.Logic.{⊎_elim}
use mathlib.Core.List.{List, [], ◌∷◌}
use mathlib.Core.Bool.{Bool, true, false, cond, not, ◌&&◌, ◌||◌}
use native.Mathlib.Omega.{arith}
use lib.Dec.{eqb, leb, ltb}
use lib.ListN.{length}
use Rattle.coordinates.specs.declared.axis.Axis.{Axis}
use Rattle.name_rules.specs.Css.{Bytes}
use Rattle.name_entries.specs.Names.{is_name}
use Rattle.sheet_forms.specs.Faults.{first_of, no_row, first_row}
use Rattle.sheet_forms.proofs.Firsts.{first_either}
use Rattle.axis_tables.specs.View.{AxisView, Unended, none, inside}
use Rattle.panel_tables.specs.View.{PanelView, refused, accepted}
use Rattle.sheet_rules.specs.Contents.{Line}
use Rattle.sheet_rules.specs.Rows.{Row, unread as unread_row, bad_name, bad_value, bad_count, bad_area, twice, late, crowded, overlap, unequal, broken, number_of, Holds, First}
use Rattle.sheet_rules.specs.Lines.{line_fault, line_step}
use Rattle.sheet_rules.specs.Sheet.{open_fault, count_fault, entries_fault, explicit_of, entries_of, axis_fault, end_fault}
use Rattle.sheet_rules.proofs.LineTheorem.{line_first}
use Rattle.panel_rules.specs.Runs.{Call}
use Rattle.panel_rules.specs.Book.{table_refusal}
use Rattle.edit_rules.specs.Edits.{Edit, line, enter, unread}
use Rattle.edit_rules.specs.Replay.{reopened, edit_fault, edit_step, edited_by}
use Rattle.edit_rules.specs.Settled.{calls_of, more_on, calls_fault, enters_fault, or_else, view_by, edits_fault}

-- ---- a line

row_number : (r : Row) → number_of r ≤ 14
row_number unread_row = omega arith
row_number bad_name = omega arith
row_number bad_value = omega arith
row_number bad_count = omega arith
row_number bad_area = omega arith
row_number twice = omega arith
row_number late = omega arith
row_number crowded = omega arith
row_number overlap = omega arith
row_number unequal = omega arith
row_number broken = omega arith

line_number : (v : PanelView) (fs : Line) → line_fault v fs ≤ 14
line_number v fs = go (line_first v fs)
  where
    go : First (Holds v fs) (line_fault v fs) → line_fault v fs ≤ 14
    go (no_row e h) = omega (arith, e)
    go (first_row r e h l) = omega (arith, e, row_number r)

step_number : (v : PanelView) (fs : Line) → (edit_step v fs).fault ≤ 14
unfolding edit_step
step_number v fs = go (eqb (edit_fault v fs) 0) (line_number (reopened v) fs)
  where
    go : (b : Bool) → edit_fault v fs ≤ 14 → (cond b (accepted (line_step (reopened v) fs).panel) (refused (edit_fault v fs) v)).fault ≤ 14
    go true h = omega arith
    go false h = h

lines_number : (v : PanelView) (edits : List Edit) → (edited_by v edits).fault ≤ 14
unfolding edited_by
lines_number v [] = omega arith
lines_number v (line fs ∷ edits) = go (eqb (edit_step v fs).fault 0) (step_number v fs) (lines_number (edit_step v fs).panel edits)
  where
    go : (b : Bool) → (edit_step v fs).fault ≤ 14 → (edited_by (edit_step v fs).panel edits).fault ≤ 14
        → (cond b (edited_by (edit_step v fs).panel edits) (edit_step v fs)).fault ≤ 14
    go true h i = i
    go false h i = h
lines_number v (enter c ∷ edits) = lines_number v edits
lines_number v (unread ∷ edits) = omega arith

-- ---- the end

first_number : (a b : ℕ) → a ≤ 14 → b ≤ 14 → first_of a b ≤ 14
first_number a b h k = ⊎_elim (λ e. omega (arith, e, h)) (λ e. omega (arith, e, k)) (first_either a b)

two : (n m : ℕ) (b : Bool) → n ≤ 14 → m ≤ 14 → cond b n m ≤ 14
two n m true h k = h
two n m false h k = k

open_number : (u : Unended) → open_fault u ≤ 14
open_number none = omega arith
open_number (inside r) = omega arith

axis_number : (v : AxisView) → axis_fault v ≤ 14
axis_number v =
    first_number (open_fault v.unended) (first_of (count_fault v) (entries_fault v)) (open_number v.unended)
    (first_number (count_fault v) (entries_fault v) (two 4 0 (ltb 10000 (explicit_of v)) (omega arith) (omega arith)) (two 8 0 (ltb 4096 (length (entries_of v))) (omega arith) (omega arith)))

end_number : (v : PanelView) → end_fault v ≤ 14
unfolding end_fault
end_number v = first_number (axis_fault v.columns) (axis_fault v.rows) (axis_number v.columns) (axis_number v.rows)

-- ---- the direct entries

table_number : (entries used number : ℕ) (name : Bytes) → table_refusal entries used number name ≤ 14
unfolding table_refusal
table_number entries used number name = go (not (is_name name)) (not (leb 1 number && leb number 20000)) (leb 4096 entries || ltb 32768 (used + length name))
  where
    go : (a b c : Bool) → cond a 2 (cond b 4 (cond c 8 0)) ≤ 14
    go true b c = omega arith
    go false true c = omega arith
    go false false true = omega arith
    go false false false = omega arith

calls_number : (entries used : Axis → ℕ) (calls : List Call) → calls_fault entries used calls ≤ 14
unfolding calls_fault
calls_number entries used [] = omega arith
calls_number entries used (c ∷ calls) =
    two (calls_fault (more_on c.axis 1 entries) (more_on c.axis (length c.name) used) calls) (table_refusal (entries c.axis) (used c.axis) c.line c.name)
    (eqb (table_refusal (entries c.axis) (used c.axis) c.line c.name) 0)
    (calls_number (more_on c.axis 1 entries) (more_on c.axis (length c.name) used) calls)
    (table_number (entries c.axis) (used c.axis) c.line c.name)

-- ---- all

pub few_faults : (v : PanelView) (edits : List Edit) → edits_fault v edits ≤ 14
unfolding edits_fault
few_faults v edits =
    let lines = (edited_by v edits).fault in
    let end = end_fault (view_by v edits) in
    let entries = enters_fault (view_by v edits) (calls_of edits) in
    two (or_else end entries) lines (eqb lines 0) (two entries end (eqb end 0) (calls_number _ _ (calls_of edits)) (end_number (view_by v edits))) (lines_number v edits)
