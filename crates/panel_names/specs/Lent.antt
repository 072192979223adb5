-- What is lent of a panel to read its line names.
use Rattle.panel_rules.specs.Calls.{NameTables, name_tables_in}
use Rattle.panel_names.specs.declared.LentNames.{LentNames}

abbrev pub lent_tables : LentNames → NameTables
lent_tables x = name_tables_in x.words.now x.columnstore.now x.rowstore.now
