-- CSS Grid Level 1, 8.5, grid item placement, row flow, as document 02, Req 10, asks it of cells: "columns fixed at the explicit count and rows
-- growing up to 10,000". Cells are numbered in sheet order from 0; `items` has their sides (8.3.1), `lands` where they land, `last` is the
-- last column line. Nothing here says how a place is found.
use Rattle.std.specs.Prelude.{ℕ, zero, suc, ◌+◌, ◌*◌, ◌≤◌, ◌<◌, ◌≡◌, List, length, Option, Some, None, Result, Ok, Err}
use Rattle.std.proofs.lemmas.List.Edits.{sets}
use Rattle.cell_sides.specs.declared.Side.{Side}
use Rattle.cell_sides.specs.declared.Side.TheVariants.{Free, Fixed}
use Rattle.coordinates.specs.Types.{LinePair}
use Rattle.free_cells.specs.declared.Rectangle.{Rectangle}
use Rattle.free_cells.specs.declared.Place.{Place}
use Rattle.free_cells.specs.Words.{rectangle_in}
use Rattle.free_cells.specs.Free.{Overlap, AtOrAfter, last_row_line}
use Rattle.cell_placing.specs.declared.Item.{Item}
use Rattle.cell_placing.specs.declared.Packing.{Packing}
use Rattle.cell_placing.specs.declared.Packing.TheVariants.{Sparse, Dense}
use Rattle.cell_placing.specs.Items.{group_of}

-- ---- the order: steps 1, 2 and 4 of 8.5; "Items fixed on both axes go first, then those fixed in their row, then the rest in sheet order"

-- the turn of a cell, of which there are at most 256
abbrev pub turn : (ℕ → Item) → ℕ → ℕ
turn items i = group_of (items i) * 256 + i

-- cell j is placed before cell i
pub record Earlier (count : ℕ) (items : ℕ → Item) (j i : ℕ) : Type 0 where
  pub held : j < count
  pub order : turn items j < turn items i

-- ---- the rectangles that a cell may take

-- a side's lines are kept: its two lines, or so many tracks
abbrev pub Keeps : Option Side → LinePair → Type 0
Keeps None l = ⊥
Keeps (Some (Free tracks)) l = l.end ≡ l.start + tracks
Keeps (Some (Fixed own)) l = (l.start ≡ own.start) × (l.end ≡ own.end)

-- two lines, a track or more apart, among those of the axis
pub record On (last : ℕ) (l : LinePair) : Type 0 where
  pub first : 1 ≤ l.start
  pub order : l.start < l.end
  pub final : l.end ≤ last

-- a rectangle has the sides of a cell, and is inside the columns and the rows
pub record Fits (last : ℕ) (item : Item) (r : Rectangle) : Type 0 where
  pub columns : Keeps item.column r.columns
  pub rows : Keeps item.row r.rows
  pub across : On last r.columns
  pub down : On last_row_line r.rows

-- where it starts
abbrev pub start_of : Rectangle → Place
start_of r = record { row = r.rows.start; column = r.columns.start }

-- it shares no cell with a cell that was placed before
abbrev pub Unoccupied : ℕ → (ℕ → Item) → (ℕ → Rectangle) → ℕ → Rectangle → Type 0
Unoccupied count items lands i r = (j : ℕ) → Earlier count items j i → Overlap (lands j) r → ⊥

-- ---- the cursor of sparse packing, for the three groups

-- "kept for each first row among row-fixed items": past where those that start in its first row, and were placed before, start
abbrev pub PastInRow : ℕ → (ℕ → Item) → (ℕ → Rectangle) → ℕ → Rectangle → Type 0
PastInRow count items lands i r =
    (j : ℕ) → Earlier count items j i → group_of (items j) ≡ 1 → (lands j).rows.start ≡ r.rows.start → (lands j).columns.start ≤ r.columns.start

-- cell j is the one of the rest that was placed last before cell i
pub record LastOfRest (count : ℕ) (items : ℕ → Item) (j i : ℕ) : Type 0 where
  pub earlier : Earlier count items j i
  pub rest : group_of (items j) ≡ 2
  pub last : (k : ℕ) → Earlier count items k i → group_of (items k) ≡ 2 → k ≤ j

-- at or after its start, in row order; the cursor starts at the first row and column
abbrev pub PastCursor : ℕ → (ℕ → Item) → (ℕ → Rectangle) → ℕ → Rectangle → Type 0
PastCursor count items lands i r = (j : ℕ) → LastOfRest count items j i → AtOrAfter (start_of (lands j)) (start_of r)

-- "a sparse one the first at or after the cursor"; dense packing looks from the first row and column each time
abbrev pub Past : Packing → ℕ → ℕ → (ℕ → Item) → (ℕ → Rectangle) → ℕ → Rectangle → Type 0
Past Dense group count items lands i r = Unit {0}
Past Sparse zero count items lands i r = Unit {0}
Past Sparse (suc zero) count items lands i r = PastInRow count items lands i r
Past Sparse (suc (suc g)) count items lands i r = PastCursor count items lands i r

-- ---- where a cell lands

-- a rectangle that it could take: of cells with a line in both axes that may overlap others, of automatic ones that is free
pub record Candidate (packing : Packing) (last count : ℕ) (items : ℕ → Item) (lands : ℕ → Rectangle) (i : ℕ) (r : Rectangle) : Type 0 where
  pub fits : Fits last (items i) r
  pub free : (group_of (items i) ≡ 0 → ⊥) → Unoccupied count items lands i r
  pub past : Past packing (group_of (items i)) count items lands i r

-- it takes the first of these in row order
pub record First (packing : Packing) (last count : ℕ) (items : ℕ → Item) (lands : ℕ → Rectangle) (i : ℕ) (r : Rectangle) : Type 0 where
  pub one : Candidate packing last count items lands i r
  pub first : (q : Rectangle) → Candidate packing last count items lands i q → AtOrAfter (start_of r) (start_of q)

-- it can take none
abbrev pub Stuck : Packing → ℕ → ℕ → (ℕ → Item) → (ℕ → Rectangle) → ℕ → Type 0
Stuck packing last count items lands i = (q : Rectangle) → Candidate packing last count items lands i q → ⊥

-- ---- where all land

-- every cell lands where the ones before it leave it
abbrev pub AllLand : Packing → ℕ → ℕ → (ℕ → Item) → (ℕ → Rectangle) → Type 0
AllLand packing last count items lands = (i : ℕ) → i < count → First packing last count items lands i (lands i)

-- cell i is the first in placing order that lands nowhere
pub record FirstStuck (packing : Packing) (last count : ℕ) (items : ℕ → Item) (i : ℕ) : Type 0 where
  pub lands : ℕ → Rectangle
  pub held : i < count
  pub before : (j : ℕ) → Earlier count items j i → First packing last count items lands j (lands j)
  pub stuck : Stuck packing last count items lands i

-- what a call answers and leaves of the lent words: the words of all lands, from the first on, those past the cells as they were; or the
-- first cell that is stuck, and all words as they were
pub data Answers (packing : Packing) (last count : ℕ) (items : ℕ → Item) (before after : List ℕ) (outcome : Result (Unit {0}) ℕ) : Type 0 where
  placed : (words : List ℕ) → length words ≡ count → AllLand packing last count items (rectangle_in words) → after ≡ sets before 0 words → outcome ≡ Ok tt
      → Answers packing last count items before after outcome
  refused : (i : ℕ) → FirstStuck packing last count items i → after ≡ before → outcome ≡ Err i → Answers packing last count items before after outcome
