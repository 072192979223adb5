-- What a line says, in this paper's numbers: a record, or the number of its fault.
use Rattle.std.specs.Prelude.{ℕ, Bool, ℤ}
use Rattle.coordinates.specs.declared.axis.Axis.{Axis as AxisName}
use Rattle.sheet_forms.specs.declared.AreaRecord.{AreaRecord}

-- an `axis` line: the bits of the inner size, 0 where it is not definite; the rule, 0 for `max` and 1 for `min`; the gap's word
pub record AxisRecord : Type 0 where
  pub axis : AxisName
  pub definite : Bool
  pub inner : ℕ
  pub rule : ℕ
  pub gap : ℕ

-- a `repeat` line: kind 0 is a count, 1 `fill`, 2 `fit`. The fault is 4 where the count is outside its range, else 0:
-- such a line still says its axis, since inside a repeat of its axis it is unread before anything else
pub record RepeatRecord : Type 0 where
  pub fault : ℕ
  pub kind : ℕ
  pub number : ℕ

-- an end of a `place` or `cell` line: kinds 0 to 4 are `auto line named span nspan`. The number is 0 where it is unused
pub record PlaceEnd : Type 0 where
  pub kind : ℕ
  pub number : ℤ

-- a size is one word, its kind times 2^32 and its bits. Names stay in the line: field 1 of an `area`, field 2 of a `name`,
-- fields 3 and 6 of a `place`, fields 2, 5, 8 and 11 of a `cell`, whose columns stand before its rows. The words of a `row` are its fields from 1 on; the record says how many there are
pub data Record : Type 0 where
  Fault : ℕ → Record
  Axis : AxisRecord → Record
  Area : AreaRecord → Record
  Name : AxisName → Record
  Track : AxisName → ℕ → ℕ → Record
  Repeat : AxisName → RepeatRecord → Record
  End : AxisName → Record
  Spare : AxisName → ℕ → ℕ → Record
  Extra : AxisName → ℕ → ℕ → Record
  Item : AxisName → ℕ → Record
  Place : AxisName → PlaceEnd → PlaceEnd → Record
  PictureRow : ℕ → Record
  Cell : PlaceEnd → PlaceEnd → PlaceEnd → PlaceEnd → Record
