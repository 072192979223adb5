-- `palgwern_resize`: a panel with another inner size of an axis by its number; a number that is no axis is 4, after 3.
use Rattle.std.specs.Prelude.{ℕ, cond}
use Rattle.coordinates.specs.Axes.{axis_of}
use Rattle.panel_tables.specs.declared.Panel.{Panel}
use Rattle.panel_rules.specs.Calls.{NameTables}
use Rattle.library_numbers.specs.Answers.{is_axis, PanelEntered}
use Rattle.panel_sizes.specs.Sizes.{no_axis_size}
use Rattle.panel_resized.specs.Resized.{ResizedPanel, resized_panel}

abbrev pub resized_numbers : ResizedPanel → PanelEntered
resized_numbers r =
    record { answer = record { number = r.answer.refusal.number; line = r.answer.refusal.line; panel = r.answer.panel }; tables = r.tables }

unfoldable pub resized_by_number : Panel → NameTables → ℕ → ℕ → PanelEntered
resized_by_number p t axis inner =
    cond (is_axis axis) (resized_numbers (resized_panel p t (axis_of axis) inner))
    (record { answer = record { number = no_axis_size inner; line = 0; panel = p }; tables = t })
