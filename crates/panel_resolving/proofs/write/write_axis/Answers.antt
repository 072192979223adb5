use lib.ListN.{length}
use native.Mathlib.Omega.{arith}
use Rattle.name_groups.specs.declared.key.Grouping.TheVariants.{Whole}
use Rattle.name_groups.proofs.Ungrouped.{whole_grouped}
use Rattle.panel_tables.specs.Regions.{area_bytes_in, area_words_in, placement_bytes_in, placement_words_in}
use Rattle.panel_resolving.proofs.GroupedRuns.{few-entries, many-entries, grouped_run}
use Rattle.panel_resolving.proofs.write.write_axis.Goals as goal

pub write_beside-last-requires : goal.write_beside-last-requires
write_beside-last-requires c = let a = c.args in
    record { count_bound = rw c.run_grouped-grouped.ensures c.requires; lists = rw c.in-Whole.is (whole_grouped a.names.entries.now a.names.store.now).lists }

pub write_grouped-requires : goal.write_grouped-requires
write_grouped-requires c = let a = c.args in let kept = rw c.run_grouped-grouped.ensures at c.in-Few.is in
    record { count_bound = rw c.run_grouped-grouped.ensures c.requires; keys_bound = omega arith; words_bound = omega arith; grouped = rw (c.run_grouped-grouped.ensures, kept) (few-entries (length a.names.entries.now) a.run.count c.grouping_for.result c.grouping_for.ensures kept) }

pub write_grouped-requires-in-Many : goal.write_grouped-requires-in-Many
write_grouped-requires-in-Many c = let a = c.args in let kept = rw c.run_grouped-grouped.ensures at c.in-Many.is in
    record { count_bound = rw c.run_grouped-grouped.ensures c.requires; keys_bound = omega arith; words_bound = omega arith; grouped = rw (c.run_grouped-grouped.ensures, kept) (many-entries (length a.names.entries.now) a.run.count c.grouping_for.result c.grouping_for.ensures kept) }

pub returns-in-Whole : goal.returns-in-Whole
returns-in-Whole c = let a = c.args in let kept = rw c.run_grouped-grouped.ensures at c.in-Whole.is in
    grouped_run a.run c.run_grouped-grouped.result Whole (rw kept at c.run_grouped-grouped.ensures) a.names.entries.now a.names.entries.now a.names.store.now (area_words_in a.words.now) (area_bytes_in a.bytes.now) (placement_words_in a.words.now) (placement_bytes_in a.bytes.now) (whole_grouped a.names.entries.now a.names.store.now) a.numbers.now _ c.write_beside-last.ensures.0

pub returns-in-Few : goal.returns-in-Few
returns-in-Few c = rw c.run_grouped-grouped.ensures at c.write_grouped.ensures

pub returns-in-Many : goal.returns-in-Many
returns-in-Many c = rw c.run_grouped-grouped.ensures at c.write_grouped-in-Many.ensures
