-- The lines of a sheet alone, before what comes after the last: edits come in between (document 02, request 14: "settled as if last in the sheet").
-- Of an accepted sheet they are all accepted, and its panel is theirs (proofs/Bases.antt).
use Rattle.std.specs.Prelude.{ℕ, ◌+◌, List, [], ◌∷◌, cond, eqb, ltb, length}
use Rattle.text.specs.Split.{split}
use Rattle.panel_tables.specs.View.{PanelView, PanelOutcome, empty_view}
use Rattle.sheet_rules.specs.Lines.{line_step}
use Rattle.sheet_rules.specs.Sheet.{Outcome, outcome, with_broken, broken_of, chosen, overlap_of}

-- from line n on, until a line is refused
unfoldable pub lined : ℕ → List (List ℕ) → PanelView → Outcome
lined n [] v = outcome 0 0 v
lined n (l ∷ []) v = cond (eqb (length l) 0) (outcome 0 0 v) (outcome 1 n v)
lined n (l ∷ m ∷ ls) v =
    let a : PanelOutcome = line_step v (split 9 l) in
    cond (eqb a.fault 0) (lined (n + 1) (m ∷ ls) a.panel) (outcome a.fault n v)

unfoldable pub lined_sheet : List ℕ → Outcome
lined_sheet s = cond (ltb 32768 (length s)) (outcome 1 0 empty_view) (lined 1 (split 10 s) empty_view)

-- with what its pictures and its areas are refused by
unfoldable pub base_of : List ℕ → Outcome
base_of s = chosen (overlap_of s) (with_broken (broken_of s) (lined_sheet s))
