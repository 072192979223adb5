use Rattle.std.proofs.Common.{rules}
use Rattle.sheet_rules.specs.Panels.{tables_in}
use Rattle.panel_answer.proofs.Printed.{refused_printed, placed_printed}
use Rattle.panel_answer.proofs.begin.begin_answer.Goals as goal

pub returns-in-Err-clause-printed : goal.returns-in-Err-clause-printed
returns-in-Err-clause-printed c = refused_printed _ c.in-Err.fault _ _ c.read_sheet.ensures.read c.in-Err.is (search rules)

pub returns-clause-printed : goal.returns-clause-printed
unfolding tables_in
returns-clause-printed c = placed_printed _ c.in-Ok.panel _ _ _ c.read_sheet.ensures.read c.in-Ok.is c.place_cells.ensures c.first_line-first.ensures
