use Rattle.coordinates.specs.declared.axis.Axis.TheVariants.{Column, Row}
use Rattle.panel_tables.specs.Axes.{state_in}
use Rattle.panel_names.proofs.Entered.{entered, others-entered}
use Rattle.panel_names.proofs.entering.enter_in.Goals as goal

pub returns-in-Column-clause-rowstore_after : goal.returns-in-Column-clause-rowstore_after
returns-in-Column-clause-rowstore_after c = let a = c.args in
    rw c.in-Column.is (entered a.words.now a.columnstore.now a.rowstore.now a.line a.name.now _ a.panel.now Column (rw c.in-Column.is at c.requires.few) c.enter_on.ensures)

pub returns-in-Column-clause-others : goal.returns-in-Column-clause-others
returns-in-Column-clause-others c = let a = c.args in
    others-entered a.words.now a.columnstore.now a.rowstore.now a.line a.name.now _ (state_in a.panel.now Column) Column _ (rw c.in-Column.is at c.requires.few) c.enter_on.ensures

pub returns-in-Row-clause-rowstore_after : goal.returns-in-Row-clause-rowstore_after
returns-in-Row-clause-rowstore_after c = let a = c.args in
    rw c.in-Row.is (entered a.words.now a.columnstore.now a.rowstore.now a.line a.name.now _ a.panel.now Row (rw c.in-Row.is at c.requires.few) c.enter_on-in-Row.ensures)

pub returns-in-Row-clause-others : goal.returns-in-Row-clause-others
returns-in-Row-clause-others c = let a = c.args in
    others-entered a.words.now a.columnstore.now a.rowstore.now a.line a.name.now _ (state_in a.panel.now Row) Row _ (rw c.in-Row.is at c.requires.few) c.enter_on-in-Row.ensures
