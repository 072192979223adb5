-- What is lent of a panel: the line names, the areas and the placements.
use Rattle.panel_rules.specs.Calls.{NameTables, NamedWords, name_tables_in, area_table_in, placement_table_in}
use Rattle.panel_tables.specs.declared.LentPanel.{LentPanel}

abbrev pub lent_names : LentPanel → NameTables
lent_names x = name_tables_in x.words.now x.columnstore.now x.rowstore.now

abbrev pub lent_areas : LentPanel → NamedWords
lent_areas x = area_table_in x.words.now x.bytes.now

abbrev pub lent_placements : LentPanel → NamedWords
lent_placements x = placement_table_in x.words.now x.bytes.now
