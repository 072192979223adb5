-- Worked cases of automatic placing (CSS Grid Level 1, 8.5; document 02, Req 10): packing, columns, cells, and where they land.
use Rattle.std.specs.Prelude.{ℕ, suc, ◌+◌, Bool, true, false, ◌&&◌, List, [], ◌∷◌, eqb, length, get_or, Option, Some, None}
use Rattle.cell_sides.specs.declared.Side.{Side}
use Rattle.cell_sides.specs.declared.Side.TheVariants.{Free, Fixed}
use Rattle.free_cells.specs.declared.Rectangle.{Rectangle}
use Rattle.cell_placing.specs.declared.Item.{Item}
use Rattle.cell_placing.specs.declared.Packing.{Packing}
use Rattle.cell_placing.specs.declared.Packing.TheVariants.{Sparse, Dense}
use Rattle.cell_placing.specs.Plain.{Run, placing, stuck_at, plainly}

-- a side of so many tracks, and one between two lines
abbrev pub free : ℕ → Option Side
free k = Some (Free k)

abbrev pub between : ℕ → ℕ → Option Side
between a b = Some (Fixed (record { start = a; end = b }))

abbrev pub cell : Option Side → Option Side → Item
cell column row = record { column = column; row = row }

-- a rectangle by its column lines and its row lines
abbrev pub land : ℕ → ℕ → ℕ → ℕ → Rectangle
land a b c d = record { columns = record { start = a; end = b }; rows = record { start = c; end = d } }

-- where all cells land, or the first in placing order that does not, counted from 0
pub data Expected : Type 0 where
  at : List Rectangle → Expected
  none : ℕ → Expected

pub record Case : Type 0 where
  pub packing : Packing
  pub columns : ℕ
  pub cells : List Item
  pub expected : Expected

abbrev pub is : Packing → ℕ → List Item → Expected → Case
is p n cells e = record { packing = p; columns = n; cells = cells; expected = e }

abbrev one : Item
one = cell (free 1) (free 1)

abbrev wide : ℕ → Item
wide k = cell (free k) (free 1)

abbrev in_row : ℕ → ℕ → Item
in_row row k = cell (free k) (between row (row + 1))

abbrev in_column : ℕ → Item
in_column column = cell (between column (column + 1)) (free 1)

abbrev fixed : ℕ → ℕ → ℕ → ℕ → Item
fixed a b c d = cell (between a b) (between c d)

unfoldable pub cases : List Case
cases =
    -- no cell; no column
    is Sparse 3 [] (at []) ∷
    is Sparse 0 (one ∷ []) (none 0) ∷
    -- one after the other, and on in the next row
    is Sparse 3 (one ∷ one ∷ one ∷ one ∷ []) (at (land 1 2 1 2 ∷ land 2 3 1 2 ∷ land 3 4 1 2 ∷ land 1 2 2 3 ∷ [])) ∷
    -- a hole stays in sparse packing, and is filled in dense packing
    is Sparse 3 (wide 2 ∷ wide 2 ∷ one ∷ []) (at (land 1 3 1 2 ∷ land 1 3 2 3 ∷ land 3 4 2 3 ∷ [])) ∷
    is Dense 3 (wide 2 ∷ wide 2 ∷ one ∷ []) (at (land 1 3 1 2 ∷ land 1 3 2 3 ∷ land 3 4 1 2 ∷ [])) ∷
    is Sparse 3 (one ∷ wide 3 ∷ one ∷ []) (at (land 1 2 1 2 ∷ land 1 4 2 3 ∷ land 1 2 3 4 ∷ [])) ∷
    is Dense 3 (one ∷ wide 3 ∷ one ∷ []) (at (land 1 2 1 2 ∷ land 1 4 2 3 ∷ land 2 3 1 2 ∷ [])) ∷
    -- cells with lines in both axes may overlap; automatic ones go around them, also where they come later in the sheet
    is Sparse 2 (fixed 1 2 1 2 ∷ fixed 1 3 1 2 ∷ []) (at (land 1 2 1 2 ∷ land 1 3 1 2 ∷ [])) ∷
    is Sparse 2 (one ∷ fixed 1 2 1 2 ∷ []) (at (land 2 3 1 2 ∷ land 1 2 1 2 ∷ [])) ∷
    is Sparse 1 (cell (free 1) (free 2) ∷ fixed 1 2 2 3 ∷ []) (at (land 1 2 3 5 ∷ land 1 2 2 3 ∷ [])) ∷
    -- cells fixed in their row come before the rest, and each first row has its own cursor
    is Sparse 2 (one ∷ in_row 1 1 ∷ []) (at (land 2 3 1 2 ∷ land 1 2 1 2 ∷ [])) ∷
    is Sparse 2 (in_row 1 1 ∷ in_row 2 1 ∷ in_row 1 1 ∷ in_row 2 1 ∷ []) (at (land 1 2 1 2 ∷ land 1 2 2 3 ∷ land 2 3 1 2 ∷ land 2 3 2 3 ∷ [])) ∷
    is Sparse 3 (in_row 1 2 ∷ in_row 1 2 ∷ []) (none 1) ∷
    -- before the cursor of its row nothing is looked for in sparse packing
    is Sparse 4 (fixed 2 3 1 2 ∷ in_row 1 2 ∷ in_row 1 1 ∷ []) (none 2) ∷
    is Dense 4 (fixed 2 3 1 2 ∷ in_row 1 2 ∷ in_row 1 1 ∷ []) (at (land 2 3 1 2 ∷ land 3 5 1 2 ∷ land 1 2 1 2 ∷ [])) ∷
    -- a cell that began in the row above does not move the cursor of a row
    is Sparse 3 (fixed 1 2 1 2 ∷ cell (free 1) (between 1 3) ∷ in_row 2 1 ∷ []) (at (land 1 2 1 2 ∷ land 2 3 1 3 ∷ land 1 2 2 3 ∷ [])) ∷
    -- a fixed column before the cursor's goes on in the next row, at the cursor's column it stays
    is Sparse 3 (in_column 2 ∷ one ∷ in_column 1 ∷ []) (at (land 2 3 1 2 ∷ land 3 4 1 2 ∷ land 1 2 2 3 ∷ [])) ∷
    is Sparse 3 (in_column 2 ∷ in_column 3 ∷ in_column 2 ∷ []) (at (land 2 3 1 2 ∷ land 3 4 1 2 ∷ land 2 3 2 3 ∷ [])) ∷
    is Dense 3 (in_column 2 ∷ one ∷ in_column 1 ∷ one ∷ []) (at (land 2 3 1 2 ∷ land 1 2 1 2 ∷ land 1 2 2 3 ∷ land 3 4 1 2 ∷ [])) ∷
    -- rows span too
    is Sparse 2 (cell (free 1) (free 2) ∷ one ∷ one ∷ []) (at (land 1 2 1 3 ∷ land 2 3 1 2 ∷ land 2 3 2 3 ∷ [])) ∷
    -- what fits nowhere: wider than the columns, past the last row, outside; of two the first in placing order
    is Dense 2 (one ∷ wide 3 ∷ []) (none 1) ∷
    is Sparse 1 (fixed 1 2 10000 10001 ∷ []) (at (land 1 2 10000 10001 ∷ [])) ∷
    is Sparse 1 (fixed 1 2 10001 10002 ∷ []) (none 0) ∷
    is Sparse 1 (cell None (free 1) ∷ fixed 1 3 1 2 ∷ []) (none 1) ∷
    is Sparse 1 (in_column 1 ∷ fixed 1 2 1 10001 ∷ []) (none 0) ∷
    []

-- ---- the test

abbrev same_land : Rectangle → Rectangle → Bool
same_land p q =
    (eqb p.columns.start q.columns.start && eqb p.columns.end q.columns.end)
    && (eqb p.rows.start q.rows.start && eqb p.rows.end q.rows.end)

unfoldable pub same_lands : (ℕ → Rectangle) → ℕ → List Rectangle → Bool
same_lands lands i [] = true
same_lands lands i (r ∷ rest) = same_land (lands i) r && same_lands lands (suc i) rest

abbrev pub agrees : Run → Expected → Bool
agrees (placing lands) (at list) = same_lands lands 0 list
agrees (placing lands) (none i) = false
agrees (stuck_at i) (at list) = false
agrees (stuck_at i) (none j) = eqb i j

abbrev pub case_holds : Case → Bool
case_holds c = agrees (plainly c.packing (c.columns + 1) (length c.cells) (λ i. get_or c.cells i (cell None None))) c.expected

unfoldable pub all_hold : List Case → Bool
all_hold [] = true
all_hold (c ∷ rest) = case_holds c && all_hold rest
