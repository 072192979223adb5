use lib.ListN.{drop}
use Rattle.name_rules.specs.Rule.{any}
use Rattle.name_lines.specs.Areas.{areas_of, edged?, side_of}
use Rattle.name_search.specs.Nearest.{number_at}
use Rattle.name_search.proofs.Passes.{Rest}
use Rattle.name_search.proofs.areas.nearest_areas.Given as goal

abbrev pub invariant-loop-i : goal.invariant-loop-i
invariant-loop-i l = Rest (λ d. any (edged? l.name (side_of l.end) (number_at l.sought.nth.way l.sought.nth.from d)) (areas_of l.sought.axis (drop l.i l.areas.edges.now) (drop l.i l.areas.names.now) l.areas.store.now)) (λ d. any (edged? l.name (side_of l.end) (number_at l.sought.nth.way l.sought.nth.from d)) (areas_of l.sought.axis l.areas.edges.now l.areas.names.now l.areas.store.now)) l.limit l.best
