-- What a record is written to, and the faults of a record before it is written over no more than they look at.
use Rattle.std.specs.Prelude.{ℕ, List, [], ◌∷◌, cond}
use Rattle.coordinates.specs.declared.axis.Axis.{Axis}
use Rattle.coordinates.specs.declared.axis.Axis.TheVariants.{Column, Row}
use Rattle.sheet_forms.specs.Said.{Record}
use Rattle.sheet_forms.specs.Said.{Fault, Axis as AxisLine, Area, Name, Track, Repeat, End, Spare, Extra, Item, Place, PictureRow, Cell}
use Rattle.sheet_forms.specs.Said.{PlaceEnd}
use Rattle.sheet_forms.specs.Faults.{first_of}
use Rattle.sheet_forms.specs.Records.{fault_of}
use Rattle.panel_tables.specs.declared.Panel.{Panel}
use Rattle.panel_tables.specs.Readings.{Reading}
use Rattle.panel_tables.specs.declared.AreaEdges.{AreaEdges}
use Rattle.panel_tables.specs.View.{next_line}
use Rattle.panel_tables.specs.Areas.{has_area_in, InAreas, put_area}
use Rattle.panel_cells.specs.Steps.{first_sharing_in}
use Rattle.panel_tables.specs.Placements.{put_placement, put_cell}
use Rattle.panel_tables.specs.Axes.{reading_in}
use Rattle.panel_tables.specs.Written.{PanelHeld, PanelStepped, of_areas, of_placements}
use Rattle.picture_rules.specs.Picture.{Word}
use Rattle.sheet_rules.specs.Lines.{late_at, edges_of, placed_end}
use Rattle.sheet_rules.specs.Steps.{stayed, on_held, held_row}
use Rattle.sheet_faults.specs.Lines.{late_in}

-- ---- what a record is written to

-- the tables of an axis, the areas, the placements (of a cell by the ends of its columns and of its rows), or the picture, a row of which has so
-- many words
pub data Part : Type 0 where
  Nothing Columns Rows : Part
  Areas : AreaEdges → Part
  Placements : Axis → PlaceEnd → PlaceEnd → Part
  Picture : ℕ → Part
  Cells : PlaceEnd → PlaceEnd → PlaceEnd → PlaceEnd → Part

-- an axis: its tables
abbrev pub axis_part : Axis → Part
axis_part Column = Columns
axis_part Row = Rows

-- any record: where it is written
abbrev pub part_of : Record → Part
part_of (Fault n) = Nothing
part_of (AxisLine a) = axis_part a.axis
part_of (Area a) = Areas (edges_of a)
part_of (Name a) = axis_part a
part_of (Track a min max) = axis_part a
part_of (Repeat a n) = axis_part a
part_of (End a) = axis_part a
part_of (Spare a min max) = axis_part a
part_of (Extra a n p) = axis_part a
part_of (Item a i) = axis_part a
part_of (Place a s e) = Placements a s e
part_of (PictureRow n) = Picture n
part_of (Cell cs ce rs re) = Cells cs ce rs re

-- the fields of a `name` record as far as its name
abbrev pub named : List ℕ → List (List ℕ)
named name = [] ∷ [] ∷ name ∷ []

-- a placement with its names
abbrev pub place_in : Panel → List ℕ → List ℕ → Axis → PlaceEnd → List ℕ → PlaceEnd → List ℕ → InAreas
place_in p words bytes a s first e second =
    put_placement p words bytes a (placed_end first s) (placed_end second e)

-- the names of a record, as far as it has them
pub record Names : Type 0 where
  pub first : List ℕ
  pub second : List ℕ
  pub third : List ℕ
  pub fourth : List ℕ

-- a cell with its names, and its line
abbrev pub cell_in : Panel → List ℕ → List ℕ → ℕ → PlaceEnd → PlaceEnd → PlaceEnd → PlaceEnd → Names → InAreas
cell_in p words bytes line cs ce rs re n =
    put_cell p words bytes line (placed_end n.first cs) (placed_end n.second ce) (placed_end n.third rs) (placed_end n.fourth re)

-- the record written there, with its names and the words of a row
abbrev pub part_step : PanelHeld → Names → List Word → Record → Part → PanelStepped
part_step h n ws r Nothing = stayed h
part_step h n ws r Columns = on_held h Column (named n.first) r
part_step h n ws r Rows = on_held h Row (named n.first) r
part_step h n ws r (Areas e) = of_areas h (put_area h.panel h.areas h.area_bytes n.first e)
part_step h n ws r (Placements a s e) = of_placements h (place_in h.panel h.placements h.placement_bytes a s n.first e n.second)
part_step h n ws r (Picture width) = cond (late_at 2 h.reading.stage) (stayed h) (held_row h ws width)
part_step h n ws r (Cells cs ce rs re) = of_placements h (cell_in h.panel h.placements h.placement_bytes (next_line h.reading.lines) cs ce rs re n)

-- what a record does with them
abbrev pub named_step : PanelHeld → Names → List Word → Record → PanelStepped
named_step h n ws r = part_step h n ws r (part_of r)

-- ---- the faults before

-- an axis record again
abbrev pub axis_twice : Reading → Axis → ℕ
axis_twice r a = cond (reading_in r a).seen 6 0

-- an area name again
abbrev pub area_twice : ℕ → List ℕ → List ℕ → List ℕ → ℕ
area_twice areas words bytes n = cond (has_area_in areas words bytes n) 6 0

-- either, where a record's first name is `name`
abbrev pub twice_of : ℕ → Reading → List ℕ → List ℕ → List ℕ → Record → ℕ
twice_of areas reading words bytes name (Fault n) = 0
twice_of areas reading words bytes name (AxisLine a) = axis_twice reading a.axis
twice_of areas reading words bytes name (Area a) = area_twice areas words bytes name
twice_of areas reading words bytes name (Name a) = 0
twice_of areas reading words bytes name (Track a min max) = 0
twice_of areas reading words bytes name (Repeat a n) = 0
twice_of areas reading words bytes name (End a) = 0
twice_of areas reading words bytes name (Spare a min max) = 0
twice_of areas reading words bytes name (Extra a n p) = 0
twice_of areas reading words bytes name (Item a i) = 0
twice_of areas reading words bytes name (Place a s e) = 0
twice_of areas reading words bytes name (PictureRow n) = 0
twice_of areas reading words bytes name (Cell cs ce rs re) = 0

-- of the faults before, the one that comes first
abbrev pub before_of : ℕ → Reading → List ℕ → List ℕ → List ℕ → Record → ℕ
before_of areas reading words bytes name r = first_of (fault_of r) (first_of (twice_of areas reading words bytes name r) (late_in reading.stage r))

-- ---- the overlap

-- the first area that shares a cell with a record's, over no more than it looks at
abbrev pub shared_of : ℕ → List ℕ → Record → ℕ
shared_of areas words (Fault n) = 0
shared_of areas words (AxisLine a) = 0
shared_of areas words (Area a) = first_sharing_in areas words (edges_of a)
shared_of areas words (Name a) = 0
shared_of areas words (Track a min max) = 0
shared_of areas words (Repeat a n) = 0
shared_of areas words (End a) = 0
shared_of areas words (Spare a min max) = 0
shared_of areas words (Extra a n p) = 0
shared_of areas words (Item a i) = 0
shared_of areas words (Place a s e) = 0
shared_of areas words (PictureRow n) = 0
shared_of areas words (Cell cs ce rs re) = 0
