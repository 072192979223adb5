-- What a sheet is read into, as a panel's state and tables; the names of a line, and what its cell does to them.
use Rattle.std.specs.Prelude.{List, ℕ}
use Rattle.text.specs.Places.{part_at}
use Rattle.panel_tables.specs.View.{next_line}
use Rattle.panel_tables.specs.Readings.{panel_reading}
use Rattle.panel_tables.specs.Written.{PanelHeld, PanelStepped, panel_held_of, of_placements}
use Rattle.sheet_forms.specs.declared.CellRecord.{CellRecord}
use Rattle.sheet_forms.specs.Answers.{place_end}
use Rattle.sheet_lines.specs.declared.LineRecord.{LineRecord}
use Rattle.sheet_faults.specs.Parts.{Names, cell_in}
use Rattle.sheet_step.specs.declared.Draft.{Draft}

abbrev pub held_of : Draft → PanelHeld
held_of d = panel_held_of d.panel (panel_reading d.reading) d.words d.bytes d.column_bytes d.row_bytes

-- the names of a line, at their places
abbrev pub names_at : List ℕ → LineRecord → Names
names_at line r = record { first = part_at line r.first; second = part_at line r.second; third = part_at line r.third; fourth = part_at line r.fourth }

-- a cell with its names
abbrev pub held_cell : PanelHeld → CellRecord → Names → PanelStepped
held_cell h c n =
    of_placements h
    (cell_in h.panel h.placements h.placement_bytes (next_line h.reading.lines)
    (place_end c.columns.start) (place_end c.columns.end) (place_end c.rows.start) (place_end c.rows.end) n)
