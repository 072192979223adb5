-- After every sheet the kind order is at one of its places, so that no `track` and no `place` line is late there. Assumes nothing.
use Prim.Native.Nat.{ℕ, ◌+◌, ◌≤◌}
use mathlib.Core.List.{List, [], ◌∷◌}
use mathlib.Core.Bool.{Bool, true, false, cond}
use native.Mathlib.Omega.{arith}
use lib.Dec.{eqb, ltb}
use lib.ListN.{length}
use Rattle.text.specs.Split.{split}
use Rattle.sheet_forms.specs.Said.{Record}
use Rattle.sheet_forms.specs.Said.{Fault, Axis as AxisLine, Area, Name, Track, Repeat, End, Spare, Extra, Item, Place, PictureRow, Cell}
use Rattle.sheet_forms.specs.Records.{record_of}
use Rattle.panel_tables.specs.View.{PanelView, empty_view, refused, accepted}
use Rattle.sheet_rules.specs.Contents.{Line}
use Rattle.sheet_rules.specs.Lines.{record_step, stage_of, record_fault, at_stage, line_step}
use Rattle.sheet_rules.specs.Sheet.{end_fault, outcome, ended, run, fold_of, display_of, sheet_of}

place_in : (v : PanelView) (r : Record) → v.stage ≤ 3 → stage_of v r ≤ 3
place_in v (Fault n) h = h
place_in v (AxisLine a) h = omega arith
place_in v (Area a) h = omega arith
place_in v (Name a) h = omega arith
place_in v (Track a min max) h = omega arith
place_in v (Repeat a n) h = omega arith
place_in v (End a) h = omega arith
place_in v (Spare a min max) h = omega arith
place_in v (Extra a n p) h = omega arith
place_in v (Item a i) h = omega arith
place_in v (Place a s e) h = omega arith
place_in v (PictureRow n) h = omega arith
place_in v (Cell cs ce rs re) h = omega arith

pub line_stage : (v : PanelView) (fs : Line) → v.stage ≤ 3 → (line_step v fs).panel.stage ≤ 3
unfolding line_step
line_stage v fs h = go (eqb (record_fault v fs (record_of fs)) 0)
  where
    go : (t : Bool) → (cond t (accepted (at_stage (stage_of v (record_of fs)) (record_step v fs (record_of fs)).panel)) (refused (record_fault v fs (record_of fs)) v)).panel.stage ≤ 3
    go true = place_in v (record_of fs) h
    go false = h

ended_stage : (n : ℕ) (v : PanelView) → v.stage ≤ 3 → (ended n v).view.stage ≤ 3
unfolding ended
ended_stage n v h = go (eqb (end_fault v) 0)
  where
    go : (t : Bool) → (cond t (outcome 0 0 v) (outcome (end_fault v) n v)).view.stage ≤ 3
    go true = h
    go false = h

run_stage : (n : ℕ) (ls : List (List ℕ)) (v : PanelView) → v.stage ≤ 3 → (run n ls v).view.stage ≤ 3
unfolding run
run_stage n [] v h = ended_stage n v h
run_stage n (l ∷ []) v h = go (eqb (length l) 0)
  where
    go : (t : Bool) → (cond t (ended n v) (outcome 1 n v)).view.stage ≤ 3
    go true = ended_stage n v h
    go false = h
run_stage n (l ∷ m ∷ ls) v h = go (eqb (line_step v (split 9 l)).fault 0) (run_stage (n + 1) (m ∷ ls) (line_step v (split 9 l)).panel (line_stage v (split 9 l) h))
  where
    go : (t : Bool) → (run (n + 1) (m ∷ ls) (line_step v (split 9 l)).panel).view.stage ≤ 3
        → (cond t (run (n + 1) (m ∷ ls) (line_step v (split 9 l)).panel) (outcome (line_step v (split 9 l)).fault n v)).view.stage ≤ 3
    go true k = k
    go false k = h

empty_stage : empty_view.stage ≤ 3
unfolding empty_view
empty_stage = omega arith

pub sheet_stage : (s : List ℕ) → (sheet_of s).view.stage ≤ 3
unfolding sheet_of display_of fold_of
sheet_stage s = go (ltb 32768 (length s))
  where
    go : (t : Bool) → (cond t (outcome 1 0 empty_view) (run 1 (split 10 s) empty_view)).view.stage ≤ 3
    go true = empty_stage
    go false = run_stage 1 (split 10 s) empty_view empty_stage
