-- Areas that share a cell (document 02, requests 03 and 09), beside the three demands: the sheet call refuses them and names the first pair, and
-- the display call answers such panels as before. proofs/Overlaps.antt proves each of it.
use Rattle.std.specs.Prelude.{ℕ, ◌≡◌, List, ◌↔◌}
use Rattle.coordinates.specs.Refusals.{no_refusal}
use Rattle.panel_cells.specs.Cells.{FirstPair, CellsOnce}
use Rattle.sheet_rules.specs.Sheet.{display_of, sheet_of}
use Rattle.sheet_rules.specs.Panels.{Tables}
use Rattle.sheet_rules.specs.Overlaps.{PairAt}
use Rattle.sheet_rules.specs.Read.{read_sheet, displayed, read_display}
use Rattle.panel_rules.specs.Runs.{Accepted}

-- the display call accepts
abbrev pub Displayed : List ℕ → Tables → Type 0
Displayed s t = (read_display s t).answer.refusal ≡ no_refusal

pub record OverlapTheorem (s : List ℕ) (t : Tables) : Type 0 where
  -- CSS Grid Level 2, 7.3: after an accepted sheet every cell lies in at most one area
  pub cells_once : Accepted s t → CellsOnce (sheet_of s).view.areas
  -- refusal 12 carries the first pair of areas that share a cell, and its line is that of the later one
  pub first_pair : let a = (read_sheet s t).answer in a.refusal.number ≡ 12 → PairAt s a.refusal.line a.earlier a.later
  -- every other answer of the sheet call has zeros in its place
  pub no_pair : let a = (read_sheet s t).answer in (a.refusal.number ≡ 12 → ⊥) → (a.earlier ≡ 0) × (a.later ≡ 0)
  -- the display call answers as the sheet call, which before had no 12, wherever that doesn't refuse by it, and never refuses by it
  pub display_former : ((read_sheet s t).answer.refusal.number ≡ 12 → ⊥) → read_display s t ≡ displayed (read_sheet s t)
  pub display_never : (read_display s t).answer.refusal.number ≡ 12 → ⊥
  -- an accepted display has the first pair of its areas, not zero exactly where some cell lies in two areas
  pub display_first : Displayed s t → ((read_display s t).answer.later ≡ 0 → ⊥)
      → FirstPair (display_of s).view.areas (read_display s t).answer.earlier (read_display s t).answer.later
  pub display_pair : Displayed s t → ((read_display s t).answer.later ≡ 0) ↔ CellsOnce (display_of s).view.areas
  pub display_zeros : Displayed s t → (read_display s t).answer.later ≡ 0 → (read_display s t).answer.earlier ≡ 0
