use mathlib.Core.Path.{◌≡◌}
use mathlib.Core.Bool.{false, cond}
use Rattle.name_resolver.specs.Questions.{found_by}
use Rattle.panel_resolving.specs.Names.{names_beside}
use Rattle.panel_resolving.specs.Asking.{asks_own, found_from}
use Rattle.panel_resolving.proofs.find.find_named_line.Given as goal

abbrev pub invariant-loop-line : goal.invariant-loop-line
invariant-loop-line l =
    (l.own ≡ false → asks_own l.question.edge ≡ false) × (found_from (names_beside l.beside) l.name l.question l.own ≡ found_by (names_beside l.beside) l.name l.question)

abbrev pub decreases-loop-line : goal.decreases-loop-line
decreases-loop-line l = cond l.own 0 1
