-- A record written into its regions of the lent words and bytes, which are then put back.
use Rattle.std.specs.Prelude.{ℕ, ◌+◌, List, cond, leb}
use Rattle.coordinates.specs.declared.axis.Axis.{Axis}
use Rattle.sheet_forms.specs.Said.{Record}
use Rattle.sheet_forms.specs.Said.{PlaceEnd}
use Rattle.axis_tables.specs.declared.AxisState.{AxisState}
use Rattle.axis_tables.specs.Readings.{AxisReading}
use Rattle.axis_tables.specs.Runs.{with_part}
use Rattle.axis_tables.specs.Store.{put}
use Rattle.axis_tables.specs.Written.{Held}
use Rattle.panel_tables.specs.declared.Panel.{Panel}
use Rattle.panel_tables.specs.Readings.{Reading}
use Rattle.panel_tables.specs.declared.AreaEdges.{AreaEdges}
use Rattle.panel_tables.specs.View.{End}
use Rattle.panel_tables.specs.Areas.{InAreas, put_area}
use Rattle.panel_tables.specs.Placements.{put_placement, put_cell}
use Rattle.panel_tables.specs.Axes.{state_in, reading_in, PanelRead}
use Rattle.panel_tables.specs.Regions.{first_word, first_mark, axis_words_in, marks_in, area_words_in, area_bytes_in, placement_words_in, placement_bytes_in}
use Rattle.sheet_forms.specs.Faults.{first_of}
use Rattle.picture_rules.specs.Picture.{Word}
use Rattle.picture_areas.specs.Runs.{Drawn, InPicture}
use Rattle.picture_rows.specs.Steps.{row_in}
use Rattle.sheet_rules.specs.Lines.{late_at}
use Rattle.sheet_rules.specs.Steps.{axis_record, width_fault, with_row}
use Rattle.sheet_faults.specs.Parts.{named, Names, place_in, cell_in}

-- ---- an axis

-- what its regions hold, with the bytes of its names
abbrev pub axis_in : Axis → Panel → Reading → List ℕ → List ℕ → List ℕ → Held
axis_in a p r words bytes store = record { answer = put 0 (state_in p a) (reading_in r a); words = axis_words_in a words; marks = marks_in a bytes; bytes = store }

-- the words and the marks put back
abbrev pub axis_back : Axis → List ℕ → List ℕ → Held → Held
axis_back a words bytes x =
    record { answer = x.answer; words = with_part words (first_word a) 12480 x.words; marks = with_part bytes (first_mark a) 30000 x.marks; bytes = x.bytes }

-- a record written to an axis so far
abbrev pub on_axis_after : Axis → AxisState → AxisReading → List ℕ → List ℕ → List ℕ → List ℕ → Record → Held
on_axis_after a s t words bytes store name said =
    axis_back a words bytes (axis_record (record { answer = put 0 s t; words = axis_words_in a words; marks = marks_in a bytes; bytes = store }) (named name) said)

unfoldable pub on_axis : Axis → Panel → Reading → List ℕ → List ℕ → List ℕ → List ℕ → Record → Held
on_axis a p r words bytes store name said = axis_back a words bytes (axis_record (axis_in a p r words bytes store) (named name) said)

-- ---- the areas and the placements

-- `n` words from `f` on and `m` bytes from `g` on put back
abbrev pub parts_back : ℕ → ℕ → ℕ → ℕ → List ℕ → List ℕ → InAreas → InAreas
parts_back f n g m words bytes x = record { answer = x.answer; words = with_part words f n x.words; bytes = with_part bytes g m x.bytes }

unfoldable pub on_areas : Panel → List ℕ → List ℕ → List ℕ → AreaEdges → InAreas
on_areas p words bytes name e = parts_back 24960 128 60000 2048 words bytes (put_area p (area_words_in words) (area_bytes_in bytes) name e)

-- a placement by its ends with their names
abbrev pub on_ends : Panel → List ℕ → List ℕ → Axis → End → End → InAreas
on_ends p words bytes a s e = parts_back 25088 1280 62048 32768 words bytes (put_placement p (placement_words_in words) (placement_bytes_in bytes) a s e)

unfoldable pub on_placements : Panel → List ℕ → List ℕ → Axis → PlaceEnd → List ℕ → PlaceEnd → List ℕ → InAreas
on_placements p words bytes a s first e second =
    parts_back 25088 1280 62048 32768 words bytes (place_in p (placement_words_in words) (placement_bytes_in bytes) a s first e second)

-- a cell by its ends with their names, and its line
abbrev pub on_halves : Panel → List ℕ → List ℕ → ℕ → End → End → End → End → InAreas
on_halves p words bytes line cs ce rs re = parts_back 25088 1280 62048 32768 words bytes (put_cell p (placement_words_in words) (placement_bytes_in bytes) line cs ce rs re)

unfoldable pub on_cell : Panel → List ℕ → List ℕ → ℕ → PlaceEnd → PlaceEnd → PlaceEnd → PlaceEnd → Names → InAreas
on_cell p words bytes line cs ce rs re n =
    parts_back 25088 1280 62048 32768 words bytes (cell_in p (placement_words_in words) (placement_bytes_in bytes) line cs ce rs re n)

-- ---- a row of a picture

abbrev pub picture_back : List ℕ → List ℕ → InPicture → InPicture
picture_back words bytes x = record { answer = x.answer; words = with_part words 24960 128 x.words; bytes = with_part bytes 60000 2048 x.bytes }

-- drawn into the areas' regions, which are then put back
unfoldable pub on_drawing : Panel → List ℕ → List ℕ → List Word → ℕ → InPicture
on_drawing p words bytes ws row = picture_back words bytes (row_in p (area_words_in words) (area_bytes_in bytes) ws row)

-- the answer to a row that was drawn
abbrev pub drawn_read : Reading → ℕ → Drawn → PanelRead
drawn_read r width d =
    record {
      fault = first_of d.fault (width_fault r.picture width);
      panel = d.panel;
      reading = record { stage = r.stage; lines = r.lines; picture = with_row r.picture width d.broken; columns = r.columns; rows = r.rows };
    }

-- the answer with the words and the bytes
pub record InPanel : Type 0 where
  pub answer : PanelRead
  pub words : List ℕ
  pub bytes : List ℕ

abbrev pub unchanged : ℕ → Panel → Reading → List ℕ → List ℕ → InPanel
unchanged fault p r words bytes = record { answer = record { fault = fault; panel = p; reading = r }; words = words; bytes = bytes }

abbrev pub drawn_in : Reading → ℕ → InPicture → InPanel
drawn_in r width x = record { answer = drawn_read r width x.answer; words = x.words; bytes = x.bytes }

-- a late row draws nothing; 8 for a row too many
unfoldable pub on_picture : Panel → Reading → List ℕ → List ℕ → List Word → ℕ → InPanel
on_picture p r words bytes ws width =
    cond (late_at 2 r.stage) (unchanged 0 p r words bytes)
    (cond (leb 10000 r.picture.rows) (unchanged 8 p r words bytes) (drawn_in r width (on_drawing p words bytes ws (r.picture.rows + 1))))
