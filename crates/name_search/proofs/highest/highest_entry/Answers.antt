use Rattle.std.proofs.Common.{rules, ◌∙◌}
use Rattle.std.proofs.lemmas.Iterator.{YieldsList-from_slice}
use Rattle.std.proofs.lemmas.Iterator.Consumers.{fold_from_yields_List}
use Prim.Native.Nat.{max}
use Rattle.name_entries.specs.Entries.{entry_of}
use Rattle.name_lines.proofs.HighestLine.{entries_fold}
use Rattle.name_search.proofs.highest.highest_entry.Goals as goal

pub returns : goal.returns
returns c =
    let a = c.args in
    fold_from_yields_List _ (λ m w. max m (entry_of w).line) 0 c.fold.result c.fold.ensures.ran (YieldsList-from_slice a.entries.now cc) (λ m x b q k. search rules)
    ∙ entries_fold 0 a.entries.now
