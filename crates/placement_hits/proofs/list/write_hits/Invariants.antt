use mathlib.Core.Path.{◌≡◌}
use Prim.Native.Nat.{◌*◌, ◌-◌, ◌≤◌, min}
use lib.ListN.{length, drop}
use Rattle.std.specs.Iterator.Adapters.{zip_first, zip_second}
use Rattle.std.specs.Slice.Iter.{chunks_exact_rest, chunks_exact_size}
use Rattle.placement_hits.specs.Steps.{is_hit, listed_from}
use Rattle.placement_hits.proofs.list.write_hits.Given as goal

abbrev pub invariant-loop-index : goal.invariant-loop-index
invariant-loop-index l =
    (l.written ≤ length l.yielded) × (length l.yielded ≤ min l.count 512) × ((zip_first l.index-iterator).start ≡ length l.yielded) × ((zip_first l.index-iterator).end ≡ l.count)
    × (chunks_exact_size (zip_second l.index-iterator) ≡ 8) × (chunks_exact_rest (zip_second l.index-iterator) ≡ drop (8 * length l.yielded) l.numbers)
    × (listed_from (is_hit l.asked l.numbers) (length l.yielded) (min l.count 512 - length l.yielded) (record { count = l.written; hits = l.hits }) ≡ listed_from (is_hit l.asked l.numbers) 0 (min l.count 512) (record { count = 0; hits = l.initial.hits }))
