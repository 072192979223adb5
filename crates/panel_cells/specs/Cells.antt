-- Cells of drawn areas, and areas that share one (CSS Grid Level 2, 7.3: a cell bears one name; document 02, requests 03 and 09; SHEET.md, Areas).
-- They don't name the search; proofs/Pairs.antt shows that it finds the first pair.
use Rattle.std.specs.Prelude.{ℕ, ◌-◌, ◌≤◌, ◌<◌, ◌≡◌, List, length, get_or}
use Rattle.panel_tables.specs.declared.AreaEdges.{AreaEdges}
use Rattle.panel_tables.specs.View.{Area, no_area}

-- a cell, by the lines at which its row and its column start, lies in an area: from the start lines on, before the end lines
pub record Covers (e : AreaEdges) (row column : ℕ) : Type 0 where
  pub top : e.rowstart ≤ row
  pub bottom : row < e.rowend
  pub left : e.columnstart ≤ column
  pub right : column < e.columnend

-- some cell lies in both
abbrev pub ShareCell : AreaEdges → AreaEdges → Type 0
ShareCell a b = (row : ℕ) × (column : ℕ) × Covers a row column × Covers b row column

-- areas are numbered from 1, in sheet order
abbrev pub area_number : List Area → ℕ → AreaEdges
area_number list i = (get_or list (i - 1) no_area).edges

-- an area of a list shares a cell with these edges
abbrev pub SharedBy : List Area → AreaEdges → Type 0
SharedBy list e = (i : ℕ) × (1 ≤ i) × (i ≤ length list) × ShareCell (area_number list i) e

-- two areas of a list that share a cell, by their numbers, the earlier first
pub record Pair (list : List Area) (earlier later : ℕ) : Type 0 where
  pub first : 1 ≤ earlier
  pub order : earlier < later
  pub last : later ≤ length list
  pub shared : ShareCell (area_number list earlier) (area_number list later)

abbrev pub NoPair : List Area → Type 0
NoPair list = (i j : ℕ) → Pair list i j → ⊥

-- "smallest later area, then smallest earlier area, in sheet order"
pub record FirstPair (list : List Area) (earlier later : ℕ) : Type 0 where
  pub pair : Pair list earlier later
  pub smallest_later : (i j : ℕ) → j < later → Pair list i j → ⊥
  pub smallest_earlier : (i : ℕ) → i < earlier → Pair list i later → ⊥

-- CSS Grid Level 2, 7.3: every cell lies in at most one area
abbrev pub CellsOnce : List Area → Type 0
CellsOnce list = (i j row column : ℕ) → 1 ≤ i → i ≤ length list → 1 ≤ j → j ≤ length list
    → Covers (area_number list i) row column → Covers (area_number list j) row column → i ≡ j
