use Rattle.std.proofs.Common.{arith, rules, tests, leb, leb-true, leb-false}
use Rattle.std.proofs.lemmas.List.Sorted.{IsPartitionPoint-from_clause, IsPartitionedBy-leb}
use Rattle.name_entries.specs.Entries.{entry_of}
use Rattle.panel_resolving.proofs.Places.{parted-count, non_decreasing_lem}
use Rattle.panel_resolving.proofs.listed.lines_up_to.Goals as goal

pub returns : goal.returns
returns c =
    let ws = c.args.words.now in
    let n = c.args.number in
    let parted = IsPartitionedBy-leb (λ w. (entry_of w).line) ws n (non_decreasing_lem ws c.requires.rises) in
    let point = IsPartitionPoint-from_clause (λ w. leb (entry_of w).line n) ws _ c.partition_point.ensures.partitioned parted (λ a r q k. search (rules, tests)) in
    parted-count ws n c.partition_point.result
    record {
      within = c.partition_point.ensures.bound;
      below = λ i h. leb-true _ _ (point.0 i 0 (omega arith) h);
      above = λ i a b. leb-false _ _ (point.1 i 0 a b);
    }
