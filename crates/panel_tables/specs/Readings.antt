-- What reading needs of a panel, in document 01's numbers, and the numbers of the types that hold it.
use Rattle.std.specs.Prelude.{ℕ, Bool, Option, Some, None}
use Rattle.axis_tables.specs.Readings.{AxisReading, axis_reading}
use Rattle.panel_tables.specs.declared.stage.Stage.{Stage}
use Rattle.panel_tables.specs.declared.stage.Stage.TheVariants.{Axes, Areas, Rows, Rest}
use Rattle.panel_tables.specs.declared.PictureReading.{PictureReading as HeldPicture}
use Rattle.panel_tables.specs.declared.Reading.{Reading as HeldReading}

-- how many rows were read, the number of words of the last, 0 before the first, and whether the cells of a name are no rectangle
pub record PictureReading : Type 0 where
  pub rows : ℕ
  pub width : ℕ
  pub broken : Bool

-- the kind order (0 where nothing but `axis` records was read, 1 after an `area`, 2 after a `row`, 3 after any other), how many lines were
-- accepted, the picture, and what each axis needs
pub record Reading : Type 0 where
  pub stage : ℕ
  pub lines : ℕ
  pub picture : PictureReading
  pub columns : AxisReading
  pub rows : AxisReading

-- ---- the numbers of what is held

abbrev pub stage_number : Stage → ℕ
stage_number Axes = 0
stage_number Areas = 1
stage_number Rows = 2
stage_number Rest = 3

abbrev pub width_number : Option ℕ → ℕ
width_number None = 0
width_number (Some width) = width

abbrev pub picture_reading : HeldPicture → PictureReading
picture_reading p = record { rows = p.rows; width = width_number p.width; broken = p.broken }

abbrev pub panel_reading : HeldReading → Reading
panel_reading r = record { stage = stage_number r.stage; lines = r.lines; picture = picture_reading r.picture; columns = axis_reading r.columns; rows = axis_reading r.rows }
