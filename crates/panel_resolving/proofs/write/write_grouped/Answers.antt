use mathlib.Core.Path.{refl}
use Prim.Native.Nat.{ℕ}
use lib.ListN.{length-replicate}
use Rattle.panel_tables.specs.Regions.{area_bytes_in, area_words_in, placement_bytes_in, placement_words_in}
use Rattle.panel_resolving.proofs.GroupedRuns.{grouped_run}
use Rattle.panel_resolving.proofs.write.write_grouped.Goals as goal

pub write_beside-last-requires : goal.write_beside-last-requires
write_beside-last-requires g c = let k = c.requires in record { count_bound = k.count_bound; lists = (c.group_entries.ensures.grouped k.grouped.parted (rw (length-replicate {A = ℕ} g.row.KEYS 0, length-replicate {A = ℕ} g.row.WORDS 0) k.grouped.fit)).lists }

pub returns : goal.returns
returns g c = let a = c.args in let k = c.requires in
    grouped_run a.run a.run a.run.around.grouping refl a.names.entries.now _ a.names.store.now (area_words_in a.words.now) (area_bytes_in a.bytes.now) (placement_words_in a.words.now) (placement_bytes_in a.bytes.now) (c.group_entries.ensures.grouped k.grouped.parted (rw (length-replicate {A = ℕ} g.row.KEYS 0, length-replicate {A = ℕ} g.row.WORDS 0) k.grouped.fit)) a.numbers.now _ c.write_beside-last.ensures.0
