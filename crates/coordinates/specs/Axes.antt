-- An axis as a number.
use Rattle.std.specs.Prelude.{ℕ, cond, eqb}
use Rattle.coordinates.specs.declared.axis.Axis.{Axis}
use Rattle.coordinates.specs.declared.axis.Axis.TheVariants.{Column, Row}

-- `c` is 0, `r` is 1
abbrev pub axis_number : Axis → ℕ
axis_number Column = 0
axis_number Row = 1

-- and back; any other number counts as the rows'
abbrev pub axis_of : ℕ → Axis
axis_of n = cond (eqb n 0) Column Row

-- of the columns' and the rows', those of an axis
module _ {A : Type 0} where
  abbrev pub of_axis : Axis → A → A → A
  of_axis Column columns rows = columns
  of_axis Row columns rows = rows
