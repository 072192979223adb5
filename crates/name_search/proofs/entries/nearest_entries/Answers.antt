-- The loop's invariant says what is still to be passed: the lines of the entries from i on.
use native.Mathlib.Omega.{arith}
use Prim.Native.Nat.{◌+◌}
use mathlib.Core.List.{◌++◌}
use lib.ListN.{drop, get_or}
use Rattle.name_rules.specs.Rule.{any, written?}
use Rattle.name_entries.specs.Entries.{entry_of, named_entry, entries_of}
use Rattle.name_lines.specs.Suffixes.{tail_of}
use Rattle.name_lines.proofs.Tables.{entries-step, entries-end}
use Rattle.name_search.specs.Nearest.{number_at}
use Rattle.name_search.proofs.Passes.{rest-step, rest_end}
use Rattle.name_search.proofs.entries.nearest_entries.Goals as goal

pub loop-word-preserved : goal.loop-word-preserved
loop-word-preserved c = let a = c.args in let l = c.loop-word in
    rest-step (λ d. any (written? (a.name.stem.now ++ tail_of a.name.edge) (number_at a.sought.nth.way a.sought.nth.from d)) (entries_of (drop l.word-index a.names.entries.now) a.names.store.now)) (λ d. written? (a.name.stem.now ++ tail_of a.name.edge) (number_at a.sought.nth.way a.sought.nth.from d) (named_entry a.names.store.now (entry_of (get_or a.names.entries.now l.word-index 0)))) (λ d. any (written? (a.name.stem.now ++ tail_of a.name.edge) (number_at a.sought.nth.way a.sought.nth.from d)) (entries_of (drop (l.word-index + 1) a.names.entries.now) a.names.store.now)) (λ d. any (written? (a.name.stem.now ++ tail_of a.name.edge) (number_at a.sought.nth.way a.sought.nth.from d)) (entries_of a.names.entries.now a.names.store.now)) a.limit l.best c.nearest_entry-best.result
    (λ d. entries-step (written? (a.name.stem.now ++ tail_of a.name.edge) (number_at a.sought.nth.way a.sought.nth.from d)) a.names.entries.now a.names.store.now l.word-index (omega arith)) l.invariant c.nearest_entry-best.ensures

pub returns : goal.returns
returns c = let a = c.args in let l = c.loop-word in
    rest_end (λ d. any (written? (a.name.stem.now ++ tail_of a.name.edge) (number_at a.sought.nth.way a.sought.nth.from d)) (entries_of (drop l.word-index a.names.entries.now) a.names.store.now)) (λ d. any (written? (a.name.stem.now ++ tail_of a.name.edge) (number_at a.sought.nth.way a.sought.nth.from d)) (entries_of a.names.entries.now a.names.store.now)) a.limit l.best (λ d. entries-end (written? (a.name.stem.now ++ tail_of a.name.edge) (number_at a.sought.nth.way a.sought.nth.from d)) a.names.entries.now a.names.store.now l.word-index (omega arith)) l.invariant
