-- Where cells land by the plainest search: cell by cell in placing order, row by row, column by column, each place tried. It is here so that
-- worked cases can be computed, and so that there is an answer for all cells (proofs/Plain.antt).
use Rattle.std.specs.Prelude.{ℕ, zero, suc, ◌+◌, ◌-◌, ◌%◌, Bool, true, false, cond, not, ◌&&◌, ◌||◌, eqb, leb, ltb, Option, Some, None}
use Rattle.cell_sides.specs.declared.Side.{Side}
use Rattle.cell_sides.specs.declared.Side.TheVariants.{Free, Fixed}
use Rattle.coordinates.specs.Types.{LinePair}
use Rattle.free_cells.specs.declared.Rectangle.{Rectangle}
use Rattle.free_cells.specs.declared.Place.{Place}
use Rattle.free_cells.specs.Free.{tracks_from, last_row_line}
use Rattle.free_cells.specs.Steps.{overlaps}
use Rattle.cell_placing.specs.declared.Item.{Item}
use Rattle.cell_placing.specs.declared.Packing.{Packing}
use Rattle.cell_placing.specs.declared.Packing.TheVariants.{Sparse, Dense}
use Rattle.cell_placing.specs.Items.{group_of}
use Rattle.cell_placing.specs.Css.{turn, start_of}
use Rattle.cell_placing.specs.Steps.{is_on}

-- ---- the tests

-- every number below n passes a test
unfoldable pub all_below : ℕ → (ℕ → Bool) → Bool
all_below zero t = true
all_below (suc n) t = let rest = all_below n t in cond (t n) rest false

-- where the first holds, so does the second
abbrev pub implies : Bool → Bool → Bool
implies a b = cond a b true

abbrev pub keeps : Option Side → LinePair → Bool
keeps None l = false
keeps (Some (Free k)) l = eqb l.end (l.start + k)
keeps (Some (Fixed own)) l = eqb l.start own.start && eqb l.end own.end

unfoldable pub fits : ℕ → Item → Rectangle → Bool
fits last item r = (keeps item.column r.columns && keeps item.row r.rows) && (is_on last r.columns && is_on last_row_line r.rows)

abbrev pub before : Place → Place → Bool
before p q = ltb p.row q.row || (eqb p.row q.row && ltb p.column q.column)

module _ (packing : Packing) (last count : ℕ) (items : ℕ → Item) (lands : ℕ → Rectangle) (i : ℕ) where
  abbrev pub earlier : ℕ → Bool
  earlier j = ltb (turn items j) (turn items i)

  unfoldable pub unoccupied : Rectangle → Bool
  unoccupied r = all_below count (λ j. implies (earlier j) (not (overlaps (lands j) r)))

  unfoldable pub past_in_row : Rectangle → Bool
  past_in_row r =
      all_below count
      (λ j. implies (earlier j && eqb (group_of (items j)) 1) (implies (eqb (lands j).rows.start r.rows.start) (leb (lands j).columns.start r.columns.start)))

  unfoldable pub last_of_rest : ℕ → Bool
  last_of_rest j = (earlier j && eqb (group_of (items j)) 2) && all_below count (λ k. implies (earlier k && eqb (group_of (items k)) 2) (leb k j))

  unfoldable pub past_cursor : Rectangle → Bool
  past_cursor r = all_below count (λ j. implies (last_of_rest j) (not (before (start_of r) (start_of (lands j)))))

  abbrev pub past : Packing → ℕ → Rectangle → Bool
  past Dense g r = true
  past Sparse zero r = true
  past Sparse (suc zero) r = past_in_row r
  past Sparse (suc (suc g)) r = past_cursor r

  unfoldable pub candidate : Rectangle → Bool
  candidate r = fits last (items i) r && ((eqb (group_of (items i)) 0 || unoccupied r) && past packing (group_of (items i)) r)

-- ---- the search

-- of so many numbers from a number on the first that passes, 0 where none does
unfoldable pub first_from : (ℕ → Bool) → ℕ → ℕ → ℕ
first_from t n zero = 0
first_from t n (suc k) = let rest = first_from t (suc n) k in cond (t n) n rest

-- the tracks of a side, and the lines at which it may start: the first, and how many
abbrev pub tracks_in : Option Side → ℕ
tracks_in None = 0
tracks_in (Some (Free k)) = k
tracks_in (Some (Fixed l)) = l.end - l.start

abbrev pub first_start : Option Side → ℕ
first_start None = 1
first_start (Some (Free k)) = 1
first_start (Some (Fixed l)) = l.start

abbrev pub starts : ℕ → Option Side → ℕ
starts last None = 0
starts last (Some (Free k)) = last
starts last (Some (Fixed l)) = 1

abbrev pub rectangle_at : Item → ℕ → ℕ → Rectangle
rectangle_at item row column = record { columns = tracks_from column (tracks_in item.column); rows = tracks_from row (tracks_in item.row) }

module _ (last : ℕ) (item : Item) (test : Rectangle → Bool) where
  unfoldable pub column_in : ℕ → ℕ
  column_in row = first_from (λ column. test (rectangle_at item row column)) (first_start item.column) (starts last item.column)

  unfoldable pub first_row : ℕ
  first_row = first_from (λ row. not (eqb (column_in row) 0)) (first_start item.row) (starts last_row_line item.row)

-- ---- all cells

pub data Run : Type 0 where
  placing : (ℕ → Rectangle) → Run
  stuck_at : ℕ → Run

-- no cell
abbrev pub nowhere : ℕ → Rectangle
nowhere j = record { columns = record { start = 0; end = 0 }; rows = record { start = 0; end = 0 } }

abbrev pub landed : (ℕ → Rectangle) → ℕ → Rectangle → ℕ → Rectangle
landed lands i r j = cond (eqb j i) r (lands j)

module _ (packing : Packing) (last count : ℕ) (items : ℕ → Item) where
  -- cell i in its turn
  unfoldable pub place_one : (ℕ → Rectangle) → ℕ → Run
  place_one lands i =
      let row = first_row last (items i) (candidate packing last count items lands i) in
      cond (eqb row 0) (stuck_at i)
      (placing (landed lands i (rectangle_at (items i) row (column_in last (items i) (candidate packing last count items lands i) row))))

  -- the turn of a time, where a cell has that
  abbrev pub after : ℕ → Run → Run
  after time (stuck_at i) = stuck_at i
  after time (placing lands) = cond (ltb (time % 256) count && eqb (turn items (time % 256)) time) (place_one lands (time % 256)) (placing lands)

  unfoldable pub up_to : ℕ → Run
  up_to zero = placing nowhere
  up_to (suc time) = after time (up_to time)

  -- three groups of at most 256 cells
  abbrev pub plainly : Run
  plainly = up_to 768
