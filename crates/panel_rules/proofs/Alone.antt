-- Columns alone: after dropping the row names and the row template, a sheet's lines give its columns, areas and placements, and the entry calls on
-- the columns give the entries added there. Assumes nothing.
use Prim.Native.Nat.{ℕ, ◌+◌}
use mathlib.Core.Path.{◌≡◌, refl, sym, ap, ◌∙◌}
use mathlib.Core.List.{List, [], ◌∷◌}
use mathlib.Core.Bool.{Bool, true, false, cond}
use native.Mathlib.Omega.{arith}
use lib.Dec.{eqb, ltb}
use lib.ListN.{length}
use borrow.Author.Tests.{eqb-true, eqb-false}
use Rattle.coordinates.specs.declared.axis.Axis.{Axis}
use Rattle.coordinates.specs.declared.axis.Axis.TheVariants.{Column, Row}
use Rattle.text.specs.Split.{split, same, index}
use Rattle.sheet_forms.specs.Records.{record_of}
use Rattle.sheet_forms.proofs.LineFaults.{no_record}
use Rattle.panel_tables.specs.View.{PanelView, empty_view}
use Rattle.sheet_rules.specs.Lines.{record_step, line_step}
use Rattle.sheet_rules.specs.Sheet.{end_fault, outcome, ended, run, fold_of, display_of, sheet_of}
use Rattle.sheet_rules.proofs.Chosen.{accepted_former, display_former_lem, whole-outcome}
use Rattle.panel_rules.specs.Runs.{Call}
use Rattle.panel_rules.specs.Book.{added_from}
use Rattle.panel_rules.specs.Alone.{row_template_line, without_rows, kept_lines, column_calls}
use Rattle.panel_rules.proofs.ColumnView.{only_columns, only-twice, column_step, line_columns, row_line_lem}

-- ---- the sheet

-- what lines do to the columns, the areas and the placements
unfoldable pub columns_from : PanelView → List (List ℕ) → PanelView
columns_from v [] = v
columns_from v (l ∷ ls) = columns_from (column_step v (split 9 l)) ls

-- without the lines of the rows they do the same
kept_columns : (ls : List (List ℕ)) (v : PanelView) → columns_from (only_columns v) ls ≡ columns_from (only_columns v) (without_rows ls)
unfolding columns_from without_rows
kept_columns [] v = refl
kept_columns (l ∷ ls) v = go (row_template_line (split 9 l)) refl (kept_columns ls v) (kept_columns ls (record_step (only_columns v) (split 9 l) (record_of (split 9 l))).panel)
  where
    w : PanelView
    w = column_step (only_columns v) (split 9 l)

    go : (t : Bool) → row_template_line (split 9 l) ≡ t → columns_from (only_columns v) ls ≡ columns_from (only_columns v) (without_rows ls)
        → columns_from w ls ≡ columns_from w (without_rows ls) → columns_from w ls ≡ columns_from (only_columns v) (cond t (without_rows ls) (l ∷ without_rows ls))
    go true e x y = ap (λ (u : PanelView). columns_from u ls) (row_line_lem (only_columns v) (split 9 l) e ∙ only-twice v) ∙ x
    go false e x y = y

-- nothing stands after the last line feed, and that does nothing
last_line_lem : (v : PanelView) → column_step (only_columns v) (split 9 []) ≡ only_columns v
unfolding split index same record_step
last_line_lem v = rw (no_record ([] ∷ []) (omega arith)) (only-twice v)

ended_view : (n : ℕ) (v : PanelView) → (ended n v).view ≡ v
unfolding ended
ended_view n v = go (eqb (end_fault v) 0)
  where
    go : (t : Bool) → (cond t (outcome 0 0 v) (outcome (end_fault v) n v)).view ≡ v
    go true = refl
    go false = refl

run_columns : (n : ℕ) (ls : List (List ℕ)) (v : PanelView) → (run n ls v).fault ≡ 0 → only_columns (run n ls v).view ≡ columns_from (only_columns v) ls
unfolding run columns_from
run_columns n [] v z = ap only_columns (ended_view n v)
run_columns n ([] ∷ []) v z = ap only_columns (ended_view n v) ∙ sym (last_line_lem v)
run_columns n ((b ∷ bs) ∷ []) v z = absurd (go (eqb (length (b ∷ bs)) 0) refl z)
  where
    go : (t : Bool) → eqb (length (b ∷ bs)) 0 ≡ t → (cond t (ended n v) (outcome 1 n v)).fault ≡ 0 → ⊥
    go true e f = omega (arith, eqb-true (length (b ∷ bs)) 0 e)
    go false e f = omega arith
run_columns n (l ∷ m ∷ ls) v z = go (eqb (line_step v (split 9 l)).fault 0) refl (run_columns (n + 1) (m ∷ ls) (line_step v (split 9 l)).panel) z
  where
    w : PanelView
    w = (line_step v (split 9 l)).panel

    go : (t : Bool) → eqb (line_step v (split 9 l)).fault 0 ≡ t
        → ((run (n + 1) (m ∷ ls) w).fault ≡ 0 → only_columns (run (n + 1) (m ∷ ls) w).view ≡ columns_from (only_columns w) (m ∷ ls))
        → (cond t (run (n + 1) (m ∷ ls) w) (outcome (line_step v (split 9 l)).fault n v)).fault ≡ 0
        → only_columns (cond t (run (n + 1) (m ∷ ls) w) (outcome (line_step v (split 9 l)).fault n v)).view
        ≡ columns_from (column_step (only_columns v) (split 9 l)) (m ∷ ls)
    go true e h z = h z ∙ ap (λ (u : PanelView). columns_from u (m ∷ ls)) (line_columns v (split 9 l) e)
    go false e h z = absurd (eqb-false (line_step v (split 9 l)).fault 0 e z)

display_columns : (s : List ℕ) → (display_of s).fault ≡ 0 → only_columns (display_of s).view ≡ columns_from (only_columns empty_view) (kept_lines s)
unfolding fold_of
display_columns s z = rw (whole-outcome s (display_former_lem s z).0) (go (ltb 32768 (length s)) (display_former_lem s z).1)
  where
    go : (t : Bool) → (cond t (outcome 1 0 empty_view) (run 1 (split 10 s) empty_view)).fault ≡ 0
        → only_columns (cond t (outcome 1 0 empty_view) (run 1 (split 10 s) empty_view)).view ≡ columns_from (only_columns empty_view) (kept_lines s)
    go true z = absurd (omega arith)
    go false z = run_columns 1 (split 10 s) empty_view z ∙ kept_columns (split 10 s) empty_view

sheet_columns : (s : List ℕ) → (sheet_of s).fault ≡ 0 → only_columns (sheet_of s).view ≡ columns_from (only_columns empty_view) (kept_lines s)
unfolding sheet_of
sheet_columns s z = display_columns s (accepted_former s z).1

pub columns_view : (s u : List ℕ) → (sheet_of s).fault ≡ 0 → (sheet_of u).fault ≡ 0 → kept_lines s ≡ kept_lines u
    → ((sheet_of s).view.columns ≡ (sheet_of u).view.columns)
    × ((sheet_of s).view.areas ≡ (sheet_of u).view.areas)
    × ((sheet_of s).view.placements ≡ (sheet_of u).view.placements)
columns_view s u x y e =
    let z = sheet_columns s x ∙ ap (columns_from (only_columns empty_view)) e ∙ sym (sheet_columns u y) in
    (ap (λ (v : PanelView). v.columns) z, ap (λ (v : PanelView). v.areas) z, ap (λ (v : PanelView). v.placements) z)

-- ---- the calls

-- only the calls on the columns add entries there
added_columns : (cs : List Call) (entries used : ℕ) → added_from entries used Column cs ≡ added_from entries used Column (column_calls cs)
unfolding added_from column_calls
added_columns [] entries used = refl
added_columns (c ∷ cs) entries used = go c.axis (added_columns cs entries used) (added_columns cs (entries + 1) (used + length c.name))
  where
    on : Axis → Call
    on a = record { axis = a; line = c.line; name = c.name }

    go : (a : Axis) → added_from entries used Column cs ≡ added_from entries used Column (column_calls cs)
        → added_from (entries + 1) (used + length c.name) Column cs ≡ added_from (entries + 1) (used + length c.name) Column (column_calls cs)
        → added_from entries used Column (on a ∷ cs) ≡ added_from entries used Column (column_calls (on a ∷ cs))
    go Column p q = rw (p, q)
    go Row p q = p

pub columns_added : (entries used : ℕ) (cs ds : List Call) → column_calls cs ≡ column_calls ds → added_from entries used Column cs ≡ added_from entries used Column ds
columns_added entries used cs ds e = added_columns cs entries used ∙ ap (added_from entries used Column) e ∙ sym (added_columns ds entries used)
