-- The loop's invariant says what is still to be marked: the lines of the entries from i on.
use native.Mathlib.Omega.{arith}
use Prim.Native.Nat.{◌+◌}
use mathlib.Core.List.{◌++◌}
use lib.ListN.{drop, get_or}
use Rattle.name_rules.specs.Rule.{any, written?}
use Rattle.name_entries.specs.Entries.{entry_of, named_entry, entries_of}
use Rattle.name_lines.specs.Suffixes.{tail_of}
use Rattle.name_lines.proofs.Tables.{entries-step, entries-end}
use Rattle.name_search.proofs.Marked.{left-step, left_end}
use Rattle.name_search.proofs.marks.Marks.mark_entries.Goals as goal

pub loop-word-preserved : goal.loop-word-preserved
loop-word-preserved c = let a = c.args in let l = c.loop-word in
    left-step a.self.now l.self c.mark_entry.new.self (λ n. any (written? (a.name.stem.now ++ tail_of a.name.edge) n) (entries_of (drop l.word-index a.names.entries.now) a.names.store.now)) (λ n. written? (a.name.stem.now ++ tail_of a.name.edge) n (named_entry a.names.store.now (entry_of (get_or a.names.entries.now l.word-index 0)))) (λ n. any (written? (a.name.stem.now ++ tail_of a.name.edge) n) (entries_of (drop (l.word-index + 1) a.names.entries.now) a.names.store.now)) (λ n. any (written? (a.name.stem.now ++ tail_of a.name.edge) n) (entries_of a.names.entries.now a.names.store.now))
    (λ n. entries-step (written? (a.name.stem.now ++ tail_of a.name.edge) n) a.names.entries.now a.names.store.now l.word-index (omega arith)) l.invariant c.mark_entry.ensures

pub returns : goal.returns
returns c = let a = c.args in let l = c.loop-word in
    left_end a.self.now l.self (λ n. any (written? (a.name.stem.now ++ tail_of a.name.edge) n) (entries_of (drop l.word-index a.names.entries.now) a.names.store.now)) (λ n. any (written? (a.name.stem.now ++ tail_of a.name.edge) n) (entries_of a.names.entries.now a.names.store.now)) (λ n. entries-end (written? (a.name.stem.now ++ tail_of a.name.edge) n) a.names.entries.now a.names.store.now l.word-index (omega arith)) l.invariant
