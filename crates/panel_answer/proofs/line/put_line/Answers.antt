use Rattle.sheet_rules.specs.Panels.{tables_in}
use Rattle.panel_rules.proofs.Lent.{words_of, marks_of_lem}
use Rattle.panel_answer.proofs.line.put_line.Goals as goal

pub returns-in-Record : goal.returns-in-Record
unfolding tables_in
returns-in-Record c =
    let a = c.args in
    let lent = c.lent_on-lent.ensures in
    rw (c.in-Some.is, c.in-Record.is, words_of c.in-Record.axis a.lent.words.now, marks_of_lem c.in-Record.axis a.lent.bytes.now)
    (rw (lent.grid, lent.tables, lent.items) at c.put_record.ensures)

pub returns-in-Place : goal.returns-in-Place
unfolding tables_in
returns-in-Place c = rw (c.in-Some.is, c.in-Place.is) c.put_place.ensures
