-- What the code computes.
use Rattle.std.specs.Prelude.{ℕ, ◌+◌, ◌≤◌, ◌<◌, Bool, ◌&&◌, List, ltb, Option, Some, None}
use Rattle.coordinates.specs.declared.axis.Axis.{Axis}
use Rattle.coordinates.specs.declared.axis.Axis.TheVariants.{Column, Row}
use Rattle.free_cells.specs.declared.Rectangle.{Rectangle}
use Rattle.free_cells.specs.declared.Size.{Size}
use Rattle.free_cells.specs.declared.Place.{Place}
use Rattle.free_cells.specs.Words.{rectangle_in}
use Rattle.free_cells.specs.Free.{FreePlace}

unfoldable pub overlaps : Rectangle → Rectangle → Bool
overlaps a b =
    (ltb a.columns.start b.columns.end && ltb b.columns.start a.columns.end)
    && (ltb a.rows.start b.rows.end && ltb b.rows.start a.rows.end)

-- the end of a rectangle along an axis
abbrev pub end_along : Axis → Rectangle → ℕ
end_along Column r = r.columns.end
end_along Row r = r.rows.end

-- a row line past a row, and past no row line, past that row, at which one of these rectangles ends: between the two the same rectangles
-- are in the way
pub record NextEnd (words : List ℕ) (count row end : ℕ) : Type 0 where
  pub past : row < end
  pub least : (i : ℕ) → i < count → row < (rectangle_in words i).rows.end → end ≤ (rectangle_in words i).rows.end

-- the least such line, or no rectangle ends past the row
abbrev pub NextEnds : List ℕ → ℕ → ℕ → Option ℕ → Type 0
NextEnds words count row (Some end) = NextEnd words count row end
NextEnds words count row None = (i : ℕ) → i < count → (rectangle_in words i).rows.end ≤ row

-- a column of a place's row, at or after the place
abbrev pub InRow : List ℕ → ℕ → ℕ → Size → Place → ℕ → Type 0
InRow words count last size from column = FreePlace words count last size from (record { row = from.row; column = column })

-- a place past a row
abbrev pub Below : List ℕ → ℕ → ℕ → Size → ℕ → Place → Type 0
Below words count last size row place = FreePlace words count last size (record { row = row + 1; column = 0 }) place
