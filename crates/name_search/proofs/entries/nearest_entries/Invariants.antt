use mathlib.Core.List.{◌++◌}
use lib.ListN.{drop}
use Rattle.name_rules.specs.Rule.{any, written?}
use Rattle.name_entries.specs.Entries.{entries_of}
use Rattle.name_lines.specs.Suffixes.{tail_of}
use Rattle.name_search.specs.Nearest.{number_at}
use Rattle.name_search.proofs.Passes.{Rest}
use Rattle.name_search.proofs.entries.nearest_entries.Given as goal

abbrev pub invariant-loop-word : goal.invariant-loop-word
invariant-loop-word l = Rest (λ d. any (written? (l.name.stem.now ++ tail_of l.name.edge) (number_at l.sought.nth.way l.sought.nth.from d)) (entries_of (drop l.word-index l.names.entries.now) l.names.store.now)) (λ d. any (written? (l.name.stem.now ++ tail_of l.name.edge) (number_at l.sought.nth.way l.sought.nth.from d)) (entries_of l.names.entries.now l.names.store.now)) l.limit l.best
