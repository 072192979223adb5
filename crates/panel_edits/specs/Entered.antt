-- What texts of edits do to what is held after what comes after the last line of a sheet: direct entries are entered.
use Rattle.panel_tables.specs.Written.{PanelHeld, PanelStepped}
use Rattle.sheet_rules.specs.Steps.{stayed}
use Rattle.panel_rules.specs.Calls.{NameTables, EnteredName, enter_name}
use Rattle.panel_rules.specs.Runs.{Call}
use Rattle.edit_rules.specs.Edits.{Edit, line, enter, unread, edit_of}
use Rattle.panel_edits.specs.Steps.{TextStep}

-- what holds the names: the words of both axes, and their bytes as stores
abbrev pub names_in : PanelHeld → NameTables
names_in h = record { columns = h.columns; rows = h.rows; column_store = h.column_bytes; row_store = h.row_bytes }

abbrev pub with_names : PanelHeld → EnteredName → PanelStepped
with_names h x =
    record {
      fault = x.answer.refusal.number;
      held = record {
        panel = x.answer.panel;
        reading = h.reading;
        columns = x.tables.columns;
        rows = x.tables.rows;
        column_marks = h.column_marks;
        row_marks = h.row_marks;
        column_bytes = x.tables.column_store;
        row_bytes = x.tables.row_store;
        areas = h.areas;
        area_bytes = h.area_bytes;
        placements = h.placements;
        placement_bytes = h.placement_bytes;
      };
    }

abbrev pub call_entered : PanelHeld → Call → PanelStepped
call_entered h c = with_names h (enter_name h.panel (names_in h) c.axis c.line c.name)

abbrev pub edit_entered : PanelHeld → Edit → PanelStepped
edit_entered h (line fs) = stayed h
edit_entered h (enter c) = call_entered h c
edit_entered h unread = stayed h

unfoldable pub entered : TextStep
entered h text = edit_entered h (edit_of text)
