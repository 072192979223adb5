use lib.ListN.{drop}
use Rattle.name_rules.specs.Rule.{any}
use Rattle.name_lines.specs.Areas.{areas_of, edged?, side_of}
use Rattle.name_search.proofs.Marked.{Left}
use Rattle.name_search.proofs.marks.Marks.mark_areas.Given as goal

abbrev pub invariant-loop-i : goal.invariant-loop-i
invariant-loop-i l =
    Left l.initial.self l.self (λ n. any (edged? l.name (side_of l.end) n) (areas_of l.axis (drop l.i l.areas.edges.now) (drop l.i l.areas.names.now) l.areas.store.now))
    (λ n. any (edged? l.name (side_of l.end) n) (areas_of l.axis l.areas.edges.now l.areas.names.now l.areas.store.now))
