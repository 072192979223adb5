-- Free cells beside placed rectangles (CSS Grid Level 1, 8.5: an item takes the cells of its area as soon as it is placed), and the first
-- place that is free. Lines and tracks are numbered from 1.
use Rattle.std.specs.Prelude.{ℕ, ◌+◌, ◌≤◌, ◌<◌, ◌≡◌, List, ◌⊎◌, Option, Some, None}
use Rattle.coordinates.specs.declared.axis.Axis.{Axis}
use Rattle.coordinates.specs.declared.axis.Axis.TheVariants.{Column, Row}
use Rattle.coordinates.specs.Types.{LinePair}
use Rattle.free_cells.specs.declared.Rectangle.{Rectangle}
use Rattle.free_cells.specs.declared.Size.{Size}
use Rattle.free_cells.specs.declared.Place.{Place}
use Rattle.free_cells.specs.Words.{rectangle_in}

-- ---- cells

-- two pairs of lines have a track in common: each starts before the other ends
pub record Meet (a b : LinePair) : Type 0 where
  pub before : a.start < b.end
  pub after : b.start < a.end

-- two rectangles share a cell
pub record Overlap (a b : Rectangle) : Type 0 where
  pub columns : Meet a.columns b.columns
  pub rows : Meet a.rows b.rows

-- the cell of a column and a row lies in a rectangle
pub record Covers (r : Rectangle) (column row : ℕ) : Type 0 where
  pub left : r.columns.start ≤ column
  pub right : column < r.columns.end
  pub top : r.rows.start ≤ row
  pub bottom : row < r.rows.end

-- so many tracks from a line on
abbrev pub tracks_from : ℕ → ℕ → LinePair
tracks_from line tracks = record { start = line; end = line + tracks }

-- a rectangle by its lines along an axis and across it
abbrev pub along : Axis → LinePair → LinePair → Rectangle
along Column l a = record { columns = l; rows = a }
along Row l a = record { columns = a; rows = l }

-- the rectangle of a size at a place
abbrev pub area_at : Size → Place → Rectangle
area_at s p = record { columns = tracks_from p.column s.columns; rows = tracks_from p.row s.rows }

-- ---- what is free: no cell is shared with any of the first rectangles, so many
abbrev pub Clear : List ℕ → ℕ → Rectangle → Type 0
Clear words count r = (i : ℕ) → i < count → Overlap (rectangle_in words i) r → ⊥

-- the first of these that shares a cell, by its index
pub record FirstInWay (words : List ℕ) (count : ℕ) (r : Rectangle) (i : ℕ) : Type 0 where
  pub held : i < count
  pub before : (j : ℕ) → j < i → Overlap (rectangle_in words j) r → ⊥
  pub here : Overlap (rectangle_in words i) r

-- the first that is in the way, or none is
abbrev pub InWay : List ℕ → ℕ → Rectangle → Option ℕ → Type 0
InWay words count r (Some i) = FirstInWay words count r i
InWay words count r None = Clear words count r

-- ---- the first line along an axis at which so many tracks are free

-- tracks across, from a line on: it is at or after a line, and the last line is not passed
pub record FreeLine (words : List ℕ) (count : ℕ) (axis : Axis) (last from tracks : ℕ) (across : LinePair) (line : ℕ) : Type 0 where
  pub first : 1 ≤ line
  pub reached : from ≤ line
  pub inside : line + tracks ≤ last
  pub clear : Clear words count (along axis (tracks_from line tracks) across)

-- the first number that is one of these, 0 where there is none
pub data FirstOr0 (These : ℕ → Type 0) (n : ℕ) : Type 0 where
  first : These n → ((m : ℕ) → m < n → These m → ⊥) → FirstOr0 These n
  nowhere : n ≡ 0 → ((m : ℕ) → These m → ⊥) → FirstOr0 These n

-- the same of a line that there is, or not
abbrev pub First : (ℕ → Type 0) → Option ℕ → Type 0
First These (Some n) = (n ≡ 0 → ⊥) × FirstOr0 These n
First These None = FirstOr0 These 0

-- ---- the first place in row order

-- in row order one place comes before another: in an earlier row, or in the same row in an earlier column
abbrev pub Before : Place → Place → Type 0
Before p q = (p.row < q.row) ⊎ ((p.row ≡ q.row) × (p.column < q.column))

-- not before it
abbrev pub AtOrAfter : Place → Place → Type 0
AtOrAfter p q = Before q p → ⊥

-- the last row line: "rows growing up to 10,000"
abbrev pub last_row_line : ℕ
last_row_line = 10001

-- a place at or after another, where a rectangle is free and inside the columns and the rows
pub record FreePlace (words : List ℕ) (count last : ℕ) (size : Size) (from place : Place) : Type 0 where
  pub row : 1 ≤ place.row
  pub column : 1 ≤ place.column
  pub reached : AtOrAfter from place
  pub across : place.column + size.columns ≤ last
  pub down : place.row + size.rows ≤ last_row_line
  pub clear : Clear words count (area_at size place)

abbrev pub no_place_of : Place
no_place_of = record { row = 0; column = 0 }

-- the first of these, zeros where there is none
pub data FirstPlace (These : Place → Type 0) (p : Place) : Type 0 where
  earliest : These p → ((q : Place) → Before q p → These q → ⊥) → FirstPlace These p
  no_place : p ≡ no_place_of → ((q : Place) → These q → ⊥) → FirstPlace These p

-- the same of a place that there is, or not
abbrev pub Earliest : (Place → Type 0) → Option Place → Type 0
Earliest These (Some p) = (p.row ≡ 0 → ⊥) × FirstPlace These p
Earliest These None = FirstPlace These no_place_of
