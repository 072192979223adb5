use mathlib.Core.List.{◌++◌}
use lib.ListN.{drop}
use Rattle.name_rules.specs.Rule.{any, written?}
use Rattle.name_entries.specs.Entries.{entries_of}
use Rattle.name_lines.specs.Suffixes.{tail_of}
use Rattle.name_search.proofs.Marked.{Left}
use Rattle.name_search.proofs.marks.Marks.mark_entries.Given as goal

abbrev pub invariant-loop-word : goal.invariant-loop-word
invariant-loop-word l =
    Left l.initial.self l.self (λ n. any (written? (l.name.stem.now ++ tail_of l.name.edge) n) (entries_of (drop l.word-index l.names.entries.now) l.names.store.now))
    (λ n. any (written? (l.name.stem.now ++ tail_of l.name.edge) n) (entries_of l.names.entries.now l.names.store.now))
