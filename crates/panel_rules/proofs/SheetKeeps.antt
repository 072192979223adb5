-- What an empty panel has and every record keeps, the panel of every sheet has. Assumes nothing.
use Prim.Native.Nat.{ℕ, ◌+◌}
use mathlib.Core.List.{List, [], ◌∷◌}
use mathlib.Core.Bool.{Bool, true, false, cond}
use lib.Dec.{eqb, ltb}
use lib.ListN.{length}
use Rattle.text.specs.Split.{split}
use Rattle.sheet_forms.specs.Records.{record_of}
use Rattle.panel_tables.specs.View.{PanelView, empty_view, refused, accepted}
use Rattle.sheet_rules.specs.Lines.{record_step, stage_of, record_fault, at_stage, line_step}
use Rattle.sheet_rules.specs.Sheet.{end_fault, outcome, ended, run, fold_of, display_of, sheet_of}
use Rattle.sheet_rules.proofs.Fits.{FitsSheet, line-fits, empty_fits_sheet}

module _ (P : PanelView → Type 0) (empty : P empty_view) (staged : (n : ℕ) (v : PanelView) → P v → P (at_stage n v))
    (kept : (v : PanelView) → P v → FitsSheet v → (fs : List (List ℕ)) → P (record_step v fs (record_of fs)).panel) where
  line-keeps : (v : PanelView) → P v → FitsSheet v → (fs : List (List ℕ)) → P (line_step v fs).panel
  unfolding line_step
  line-keeps v p f fs = go (eqb (record_fault v fs (record_of fs)) 0)
    where
      go : (t : Bool) → P (cond t (accepted (at_stage (stage_of v (record_of fs)) (record_step v fs (record_of fs)).panel)) (refused (record_fault v fs (record_of fs)) v)).panel
      go true = staged (stage_of v (record_of fs)) (record_step v fs (record_of fs)).panel (kept v p f fs)
      go false = p

  ended-keeps : (n : ℕ) (v : PanelView) → P v → P (ended n v).view
  unfolding ended
  ended-keeps n v p = go (eqb (end_fault v) 0)
    where
      go : (t : Bool) → P (cond t (outcome 0 0 v) (outcome (end_fault v) n v)).view
      go true = p
      go false = p

  run-keeps : (n : ℕ) (ls : List (List ℕ)) (v : PanelView) → P v → FitsSheet v → P (run n ls v).view
  unfolding run
  run-keeps n [] v p f = ended-keeps n v p
  run-keeps n (l ∷ []) v p f = go (eqb (length l) 0)
    where
      go : (t : Bool) → P (cond t (ended n v) (outcome 1 n v)).view
      go true = ended-keeps n v p
      go false = p
  run-keeps n (l ∷ m ∷ ls) v p f =
      go (eqb (line_step v (split 9 l)).fault 0) (run-keeps (n + 1) (m ∷ ls) (line_step v (split 9 l)).panel (line-keeps v p f (split 9 l)) (line-fits v f (split 9 l)))
    where
      go : (t : Bool) → P (run (n + 1) (m ∷ ls) (line_step v (split 9 l)).panel).view
          → P (cond t (run (n + 1) (m ∷ ls) (line_step v (split 9 l)).panel) (outcome (line_step v (split 9 l)).fault n v)).view
      go true h = h
      go false h = p

  pub sheet-keeps : (s : List ℕ) → P (sheet_of s).view
  unfolding sheet_of display_of fold_of
  sheet-keeps s = go (ltb 32768 (length s))
    where
      go : (t : Bool) → P (cond t (outcome 1 0 empty_view) (run 1 (split 10 s) empty_view)).view
      go true = empty
      go false = run-keeps 1 (split 10 s) empty_view empty empty_fits_sheet
