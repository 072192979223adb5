-- What the state and the tables of a panel hold for a view.
use Rattle.std.specs.Prelude.{ℕ, List, [], ◌∷◌, map, false, length}
use Rattle.coordinates.specs.declared.axis.Axis.TheVariants.{Column, Row}
use Rattle.axis_tables.specs.Lay.{pad, Region, region, lay}
use Rattle.axis_tables.specs.Runs.{bytes_of, words_from}
use Rattle.name_entries.specs.Places.{name_word}
use Rattle.axis_tables.specs.Store.{zero_axis_grid, zero_axis_room, zero_reading}
use Rattle.axis_tables.specs.Written.{grid_of, room_of, reading_of, axis_words, names_store}
use Rattle.picture_rules.specs.Picture.{Picture, width_of}
use Rattle.picture_rules.specs.Steps.{taken_of}
use Rattle.panel_tables.specs.declared.Panel.{Panel}
use Rattle.panel_tables.specs.Readings.{PictureReading, Reading}
use Rattle.panel_tables.specs.View.{Area, End, Placement, PanelView, PanelOutcome}
use Rattle.panel_tables.specs.Areas.{edges_word, InAreas}
use Rattle.panel_tables.specs.Placements.{end_word, axis_mark}
use Rattle.panel_tables.specs.Regions.{axis_words_in, area_words_in, placement_words_in, marks_in, area_bytes_in, placement_bytes_in}

abbrev pub zero_panel : Panel
zero_panel =
    record {
      grid = record { columns = zero_axis_grid; rows = zero_axis_grid; areas = 0; placements = 0; cells = 0 };
      room = record { columns = zero_axis_room; rows = zero_axis_room; areabytes = 0; placementbytes = 0 };
    }

abbrev pub zero_panel_reading : Reading
zero_panel_reading = record { stage = 0; lines = 0; picture = record { rows = 0; width = 0; broken = false }; columns = zero_reading; rows = zero_reading }

-- ---- areas
abbrev pub area_name_of : Area → List ℕ
area_name_of a = a.name

abbrev pub area_edges_word : Area → ℕ
area_edges_word a = edges_word a.edges

abbrev pub area_name_word : Area → ℕ → ℕ
area_name_word a offset = name_word 0 0 offset (length a.name)

abbrev pub area_bytes_of : List Area → List ℕ
area_bytes_of list = bytes_of area_name_of list

unfoldable pub area_regions : List Area → List Region
area_regions list = region 64 (map area_edges_word list) ∷ region 64 (words_from area_name_word area_name_of 0 list) ∷ []

unfoldable pub area_words : List Area → List ℕ
area_words list = lay (area_regions list)

unfoldable pub area_store : List Area → List ℕ
area_store list = pad 2048 (area_bytes_of list)

-- ---- placements: the ends one after the other, the start with its axis' mark; then the lines of the cells
pub record AxisEnd : Type 0 where
  pub axis : ℕ
  pub end : End

abbrev pub ends_of : List Placement → List AxisEnd
ends_of [] = []
ends_of (p ∷ ps) = record { axis = axis_mark p.axis p.cell; end = p.start } ∷ record { axis = 0; end = p.end } ∷ ends_of ps

abbrev pub end_name_of : AxisEnd → List ℕ
end_name_of e = e.end.name

abbrev pub axis_end_word : AxisEnd → ℕ → ℕ
axis_end_word e offset = end_word e.axis e.end.end offset (length e.end.name)

abbrev pub placement_bytes_of : List Placement → List ℕ
placement_bytes_of ps = bytes_of end_name_of (ends_of ps)

unfoldable pub placement_regions : List Placement → List ℕ → List Region
placement_regions ps lines = region 1024 (words_from axis_end_word end_name_of 0 (ends_of ps)) ∷ region 256 lines ∷ []

unfoldable pub placement_words : List Placement → List ℕ → List ℕ
placement_words ps lines = lay (placement_regions ps lines)

unfoldable pub placement_store : List Placement → List ℕ
placement_store ps = pad 32768 (placement_bytes_of ps)

-- ---- the panel
abbrev pub panel_of : PanelView → Panel
panel_of v =
    record {
      grid = record {
        columns = grid_of v.columns;
        rows = grid_of v.rows;
        areas = length v.areas;
        placements = length v.placements;
        cells = length v.cells;
      };
      room = record {
        columns = room_of v.columns;
        rows = room_of v.rows;
        areabytes = length (area_bytes_of v.areas);
        placementbytes = length (placement_bytes_of v.placements);
      };
    }

-- what is kept of a picture
unfoldable pub picture_reading_of : Picture → PictureReading
picture_reading_of p = record { rows = length p; width = width_of p; broken = (taken_of p).broken }

abbrev pub panel_reading_of : PanelView → Reading
panel_reading_of v = record { stage = v.stage; lines = v.lines; picture = picture_reading_of v.picture; columns = reading_of v.columns; rows = reading_of v.rows }

-- state and tables together
pub record PanelHeld : Type 0 where
  pub panel : Panel
  pub reading : Reading
  pub columns : List ℕ
  pub rows : List ℕ
  pub column_marks : List ℕ
  pub row_marks : List ℕ
  pub column_bytes : List ℕ
  pub row_bytes : List ℕ
  pub areas : List ℕ
  pub area_bytes : List ℕ
  pub placements : List ℕ
  pub placement_bytes : List ℕ

-- the same, of the words and the bytes that are lent, and the names' bytes of both axes
unfoldable pub panel_held_of : Panel → Reading → List ℕ → List ℕ → List ℕ → List ℕ → PanelHeld
panel_held_of p r words bytes column_bytes row_bytes =
    record {
      panel = p;
      reading = r;
      columns = axis_words_in Column words;
      rows = axis_words_in Row words;
      column_marks = marks_in Column bytes;
      row_marks = marks_in Row bytes;
      column_bytes = column_bytes;
      row_bytes = row_bytes;
      areas = area_words_in words;
      area_bytes = area_bytes_in bytes;
      placements = placement_words_in words;
      placement_bytes = placement_bytes_in bytes;
    }

unfoldable pub held_panel : PanelView → PanelHeld
held_panel v =
    record {
      panel = panel_of v;
      reading = panel_reading_of v;
      columns = axis_words v.columns;
      rows = axis_words v.rows;
      column_marks = v.columns.marks;
      row_marks = v.rows.marks;
      column_bytes = names_store v.columns;
      row_bytes = names_store v.rows;
      areas = area_words v.areas;
      area_bytes = area_store v.areas;
      placements = placement_words v.placements v.cells;
      placement_bytes = placement_store v.placements;
    }

-- a fault with what is held
pub record PanelStepped : Type 0 where
  pub fault : ℕ
  pub held : PanelHeld

abbrev pub stepped : PanelOutcome → PanelStepped
stepped o = record { fault = o.fault; held = held_panel o.panel }

-- what `area` and `place` leave beside the tables that they do not touch
abbrev pub of_areas : PanelHeld → InAreas → PanelStepped
of_areas h x =
    record {
      fault = x.answer.fault;
      held = record {
        panel = x.answer.panel;
        reading = h.reading;
        columns = h.columns;
        rows = h.rows;
        column_marks = h.column_marks;
        row_marks = h.row_marks;
        column_bytes = h.column_bytes;
        row_bytes = h.row_bytes;
        areas = x.words;
        area_bytes = x.bytes;
        placements = h.placements;
        placement_bytes = h.placement_bytes;
      };
    }

abbrev pub of_placements : PanelHeld → InAreas → PanelStepped
of_placements h x =
    record {
      fault = x.answer.fault;
      held = record {
        panel = x.answer.panel;
        reading = h.reading;
        columns = h.columns;
        rows = h.rows;
        column_marks = h.column_marks;
        row_marks = h.row_marks;
        column_bytes = h.column_bytes;
        row_bytes = h.row_bytes;
        areas = h.areas;
        area_bytes = h.area_bytes;
        placements = x.words;
        placement_bytes = x.bytes;
      };
    }
