-- A panel as lists, in the words of document 01's panel sheet and of document 02's request 10, and what `area`, `place` and `cell` do to it.
use Rattle.std.specs.Prelude.{ℕ, ◌+◌, ◌-◌, max, min, List, [], ◌∷◌, ◌++◌, Bool, true, false, cond, eqb, leb, ltb, ℤ, pos, negsuc, length}
use Rattle.coordinates.specs.declared.axis.Axis.{Axis}
use Rattle.coordinates.specs.declared.axis.Axis.TheVariants.{Column, Row}
use Rattle.text.specs.Split.{same}
use Rattle.picture_rules.specs.Picture.{Picture}
use Rattle.axis_tables.specs.View.{AxisView, named_fault, empty_axis}
use Rattle.panel_tables.specs.declared.AreaEdges.{AreaEdges}
use Rattle.panel_tables.specs.declared.PlacementEnd.{PlacementEnd}

-- `area`, name, row start, row end, column start, column end
pub record Area : Type 0 where
  pub name : List ℕ
  pub edges : AreaEdges

-- an end of a `place` or `cell` line: kind, number and name, which is empty where it is unused
pub record End : Type 0 where
  pub end : PlacementEnd
  pub name : List ℕ

-- `place`, axis, start, end; or a half of a `cell`: start and end of its columns, or of its rows
pub record Placement : Type 0 where
  pub axis : Axis
  -- whether it is a cell's half
  pub cell : Bool
  pub start : End
  pub end : End

-- what stands past the end of a list: zeros
abbrev pub no_area : Area
no_area = record { name = []; edges = record { rowstart = 0; rowend = 0; columnstart = 0; columnend = 0 } }

abbrev pub no_end : End
no_end = record { end = record { kind = 0; number = pos 0 }; name = [] }

abbrev pub no_placement : Placement
no_placement = record { axis = Column; cell = false; start = no_end; end = no_end }

pub record PanelView : Type 0 where
  pub columns : AxisView
  pub rows : AxisView
  pub areas : List Area
  -- the rows of words that were drawn
  pub picture : Picture
  -- in sheet order; a cell is two of them, its columns and then its rows
  pub placements : List Placement
  -- the lines of the cells in the sheet
  pub cells : List ℕ
  -- kind order: 0 where nothing but `axis` records was read, 1 after an `area`, 2 after a `row`, 3 after any other
  pub stage : ℕ
  -- how many lines were accepted
  pub lines : ℕ

unfoldable pub empty_view : PanelView
empty_view = record { columns = empty_axis; rows = empty_axis; areas = []; picture = []; placements = []; cells = []; stage = 0; lines = 0 }

-- whether an area has that name
abbrev pub has_area : List ℕ → List Area → Bool
has_area n [] = false
has_area n (a ∷ rest) = cond (same a.name n) true (has_area n rest)

-- ---- what a record does: a refusal's number, 0 where there is none, and the panel after it
pub record PanelOutcome : Type 0 where
  pub fault : ℕ
  pub panel : PanelView

abbrev pub refused : ℕ → PanelView → PanelOutcome
refused n v = record { fault = n; panel = v }

abbrev pub accepted : PanelView → PanelOutcome
accepted v = refused 0 v

-- an axis whose areas' track count is raised to an area's end - 1
abbrev pub raised : AxisView → ℕ → AxisView
raised v end =
    record {
      line = v.line;
      template = v.template;
      unended = v.unended;
      spares = v.spares;
      negative = v.negative;
      positive = v.positive;
      marks = v.marks;
      areas = max v.areas (end - 1);
    }

-- area edges are 1 to 10,001
abbrev pub edge_outside : ℕ → Bool
edge_outside e = cond (leb 1 e) (ltb 10001 e) true

abbrev pub edges_outside : AreaEdges → Bool
edges_outside e =
    cond (edge_outside e.rowstart) true (cond (edge_outside e.rowend) true (cond (edge_outside e.columnstart) true (edge_outside e.columnend)))

-- a name above 32 bytes is 2, an edge outside its range 4, a 65th area 8
unfoldable pub area_step : PanelView → List ℕ → AreaEdges → PanelOutcome
area_step v n e =
    cond (edges_outside e) (refused (named_fault (length n) 4) v)
    (cond (ltb 32 (length n)) (refused 2 v)
    (cond (leb 64 (length v.areas)) (refused 8 v)
    (accepted (record {
      columns = raised v.columns e.columnend;
      rows = raised v.rows e.rowend;
      areas = v.areas ++ (record { name = n; edges = e } ∷ []);
      picture = v.picture;
      placements = v.placements;
      cells = v.cells;
      stage = v.stage;
      lines = v.lines;
    }))))

-- line indexes are -32,768 to 32,767, spans 0 to 65,535; there are five kinds
abbrev pub number_outside : ℤ → Bool
number_outside (pos n) = ltb 65535 n
number_outside (negsuc k) = ltb 32767 k

abbrev pub end_outside : PlacementEnd → Bool
end_outside e = cond (ltb 4 e.kind) true (number_outside e.number)

-- of an end: a name above 32 bytes is 2, a kind or number outside its range 4
unfoldable pub end_fault : PlacementEnd → ℕ → ℕ
end_fault e length = named_fault length (cond (end_outside e) 4 0)

-- of two refusals the one with the lower number; 0 is none
unfoldable pub lower : ℕ → ℕ → ℕ
lower a b = cond (eqb a 0) b (cond (eqb b 0) a (min a b))

abbrev pub ends_fault : End → End → ℕ
ends_fault s e = lower (end_fault s.end (length s.name)) (end_fault e.end (length e.name))

-- ---- `place` and `cell`: "cells count among the 256 placements"
abbrev pub most_items : ℕ
most_items = 256

-- how many `place` and `cell` lines: each cell is two of the placements
abbrev pub items : PanelView → ℕ
items v = length v.placements - length v.cells

-- the panel after one of them whose ends have that fault; a 257th is 8
unfoldable pub limited_step : PanelView → ℕ → PanelView → PanelOutcome
limited_step v fault after = cond (eqb fault 0) (cond (leb most_items (items v)) (refused 8 v) (accepted after)) (refused fault v)

abbrev pub with_item : PanelView → List Placement → List ℕ → PanelView
with_item v placements cells =
    record {
      columns = v.columns;
      rows = v.rows;
      areas = v.areas;
      picture = v.picture;
      placements = placements;
      cells = cells;
      stage = v.stage;
      lines = v.lines;
    }

abbrev pub with_placement : PanelView → Placement → PanelView
with_placement v p = with_item v (v.placements ++ (p ∷ [])) v.cells

unfoldable pub place_step : PanelView → Axis → End → End → PanelOutcome
place_step v axis start end = limited_step v (ends_fault start end) (with_placement v (record { axis = axis; cell = false; start = start; end = end }))

-- the line after those that were accepted; a sheet of 32,768 bytes has no further line
abbrev pub most_lines : ℕ
most_lines = 32768

abbrev pub next_line : ℕ → ℕ
next_line lines = min (lines + 1) most_lines

-- the half of a cell in an axis
abbrev pub half : Axis → End → End → Placement
half axis start end = record { axis = axis; cell = true; start = start; end = end }

abbrev pub with_cell : PanelView → Placement → Placement → PanelView
with_cell v columns rows = with_item v ((v.placements ++ (columns ∷ [])) ++ (rows ∷ [])) (v.cells ++ (next_line v.lines ∷ []))

-- "one item, the six fields of a column placement and then six for its row"
unfoldable pub cell_step : PanelView → End → End → End → End → PanelOutcome
cell_step v column_start column_end row_start row_end =
    limited_step v (lower (ends_fault column_start column_end) (ends_fault row_start row_end)) (with_cell v (half Column column_start column_end) (half Row row_start row_end))
