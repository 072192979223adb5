-- What the code computes, and what it knows between its steps.
use Rattle.std.specs.Prelude.{ℕ, ◌+◌, ◌≤◌, ◌<◌, ◌≡◌, Bool, cond, ◌&&◌, List, ◌⊎◌, eqb, leb, ltb, length, get_or, Option, Some, None, Result, Ok, Err}
use Rattle.coordinates.specs.declared.axis.Axis.{Axis}
use Rattle.coordinates.specs.declared.axis.Axis.TheVariants.{Column, Row}
use Rattle.cell_sides.specs.declared.Side.TheVariants.{Free, Fixed}
use Rattle.coordinates.specs.Types.{LinePair}
use Rattle.free_cells.specs.declared.Rectangle.{Rectangle}
use Rattle.free_cells.specs.declared.Place.{Place}
use Rattle.free_cells.specs.Words.{rectangle_of, rectangle_in}
use Rattle.free_cells.specs.Free.{Clear, AtOrAfter, last_row_line, no_place_of}
use Rattle.cell_placing.specs.declared.Item.{Item}
use Rattle.cell_placing.specs.declared.Packing.{Packing}
use Rattle.cell_placing.specs.declared.Packing.TheVariants.{Sparse, Dense}
use Rattle.cell_placing.specs.Items.{item_of, item_in, group_of}
use Rattle.cell_placing.specs.Css.{turn, Fits, start_of, First, Stuck, FirstStuck}

-- ---- a rectangle that is looked for

-- two lines are on an axis
abbrev pub is_on : ℕ → LinePair → Bool
is_on last l = (leb 1 l.start && ltb l.start l.end) && leb l.end last

-- the last line of an axis, and of the other
abbrev pub last_on : Axis → ℕ → ℕ
last_on Column last = last
last_on Row last = last_row_line

abbrev pub last_across : Axis → ℕ → ℕ
last_across Column last = last_row_line
last_across Row last = last

-- a cell with lines across an axis and so many tracks along it
abbrev pub item_along : Axis → ℕ → LinePair → Item
item_along Column tracks across = record { column = Some (Free tracks); row = Some (Fixed across) }
item_along Row tracks across = record { column = Some (Fixed across); row = Some (Free tracks) }

abbrev pub start_along : Axis → Rectangle → ℕ
start_along Column r = r.columns.start
start_along Row r = r.rows.start

-- a rectangle of these sides, inside, free of the placed ones, and past a cursor
pub record Here (words : List ℕ) (count last : ℕ) (item : Item) (PastIt : Rectangle → Type 0) (r : Rectangle) : Type 0 where
  pub fits : Fits last item r
  pub clear : Clear words count r
  pub past : PastIt r

-- the first such rectangle in row order, where there is one
abbrev pub FirstLand : (Rectangle → Type 0) → Option Rectangle → Type 0
FirstLand These (Some r) = These r × ((q : Rectangle) → These q → AtOrAfter (start_of r) (start_of q))
FirstLand These None = (q : Rectangle) → These q → ⊥

-- ---- the cursors

-- the larger of a column and where a cell starts that is fixed in its row, where that is this row
abbrev pub later_column : ℕ → ℕ → ℕ → ℕ → ℕ
later_column item land row column =
    cond (eqb (group_of (item_of item)) 1)
    (cond (eqb (rectangle_of land).rows.start row)
    (cond (ltb (rectangle_of land).columns.start column) column (rectangle_of land).columns.start)
    column)
    column

-- the greatest column at which one of the first cells, so many, that was fixed in its row starts, of those that start in this row; else 0
pub record RowCursor (items placed : List ℕ) (i row column : ℕ) : Type 0 where
  pub most : (j : ℕ) → j < i → group_of (item_in items j) ≡ 1 → (rectangle_in placed j).rows.start ≡ row → (rectangle_in placed j).columns.start ≤ column
  pub reached : (column ≡ 0) ⊎ ((j : ℕ) × (j < i) × (group_of (item_in items j) ≡ 1) × ((rectangle_in placed j).rows.start ≡ row) × ((rectangle_in placed j).columns.start ≡ column))

-- where the last of the rest, of so many, starts; else nowhere
pub data RestCursor (items placed : List ℕ) (i : ℕ) (place : Place) : Type 0 where
  after : (j : ℕ) → j < i → group_of (item_in items j) ≡ 2 → ((k : ℕ) → k < i → group_of (item_in items k) ≡ 2 → k ≤ j) → place ≡ start_of (rectangle_in placed j)
      → RestCursor items placed i place
  begins : ((k : ℕ) → k < i → group_of (item_in items k) ≡ 2 → ⊥) → place ≡ no_place_of → RestCursor items placed i place

-- dense packing has no cursor
abbrev pub CursorColumn : Packing → List ℕ → List ℕ → ℕ → ℕ → ℕ → Type 0
CursorColumn Sparse items placed i row column = RowCursor items placed i row column
CursorColumn Dense items placed i row column = column ≡ 0

abbrev pub CursorPlace : Packing → List ℕ → List ℕ → ℕ → Place → Type 0
CursorPlace Sparse items placed i place = RestCursor items placed i place
CursorPlace Dense items placed i place = place ≡ no_place_of

-- the first row of a cell with a fixed column: before the cursor's column, the row past the cursor's
abbrev pub start_row : Place → ℕ → ℕ
start_row cursor column = cond (ltb column cursor.column) (cursor.row + 1) cursor.row

-- ---- between two turns

-- those whose turn is past have landed, the others' words are 0
pub record Going (packing : Packing) (last count : ℕ) (items placed : List ℕ) (time : ℕ) : Type 0 where
  pub few : count ≤ 256
  pub whole : length placed ≡ count
  pub landed : (j : ℕ) → j < count → turn (item_in items) j < time → First packing last count (item_in items) (rectangle_in placed) j (rectangle_in placed j)
  pub later : (j : ℕ) → j < count → time ≤ turn (item_in items) j → get_or placed j 0 ≡ 0

-- the turn of cell i
pub record Ready (packing : Packing) (last count : ℕ) (items placed : List ℕ) (i : ℕ) : Type 0 where
  pub held : i < count
  pub going : Going packing last count items placed (turn (item_in items) i)

-- where cell i lands in its turn; nowhere where it is stuck
abbrev pub Landing : Packing → ℕ → ℕ → List ℕ → List ℕ → ℕ → Option Rectangle → Type 0
Landing packing last count items placed i (Some r) = First packing last count (item_in items) (rectangle_in placed) i r
Landing packing last count items placed i None = Stuck packing last count (item_in items) (rectangle_in placed) i

-- ---- the passes

-- after a turn or a pass: it came to a time, or to the first that is stuck
abbrev pub Passed : Packing → ℕ → ℕ → List ℕ → List ℕ → ℕ → Result (Unit {0}) ℕ → Type 0
Passed packing last count items placed time (Ok _) = Going packing last count items placed time
Passed packing last count items placed time (Err i) = FirstStuck packing last count (item_in items) i
