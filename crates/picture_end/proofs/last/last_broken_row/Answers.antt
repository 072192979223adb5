-- `picture_end::last_broken_row` meets its contract. Assumes nothing.
use Rattle.std.proofs.Common.{rules, tests, ◌≡◌, true, ap}
use Rattle.text.specs.Split.{split}
use Rattle.sheet_rules.specs.Contents.{lines_from}
use Rattle.picture_end.specs.Steps.{class_number}
use Rattle.picture_end.specs.declared.class.LineClass.TheVariants.{Row}
use Rattle.picture_end.proofs.Follows.{broken-either, broken-row}
use Rattle.picture_end.proofs.last.last_broken_row.Goals as goal

pub returns-else-eq : goal.returns-else-eq
returns-else-eq c =
    let a = c.args in
    let rest = lines_from (split 10 a.rest.now) in
    let other : c.line_class.result ≡ Row → a.broken ≡ true → ⊥ = search (rules, tests) in
    search (rules, broken-either (split 9 a.line.now) rest a.broken c.line_class.result c.line_class.ensures other)

pub returns-then-eq : goal.returns-then-eq
returns-then-eq c =
    let a = c.args in
    let rest = lines_from (split 10 a.rest.now) in
    let is : c.line_class.result ≡ Row = search (rules, tests) in
    let broken : a.broken ≡ true = search (rules, tests) in
    broken-row (split 9 a.line.now) rest a.broken (class_number c.line_class.result) c.line_class.ensures broken (ap class_number is) c.row_follows.result c.row_follows.ensures
