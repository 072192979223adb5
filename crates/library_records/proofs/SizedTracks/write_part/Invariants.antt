use Prim.Native.Nat.{◌+◌, ◌%◌, ◌≤◌}
use mathlib.Core.Path.{◌≡◌}
use lib.ListN.{length}
use lib.Seq.{sets}
use Rattle.library_records.specs.Pairs.{joined, part_pair}
use Rattle.library_records.proofs.Pairs.{written}
use Rattle.library_records.proofs.SizedTracks.write_part.Given as goal

abbrev pub invariant-loop-done : goal.invariant-loop-done
invariant-loop-done l =
    (l.done ≤ l.tracks.count) × (l.inner ≡ (l.offset + l.done) % l.part.length) × (length l.words ≡ length l.initial.words)
    × (written (part_pair l.self.sizes.minimums.now l.self.sizes.maximums.now l.self.items.now l.part l.offset l.tracks.first l.self.gutters) l.words l.tracks.place l.tracks.first l.tracks.count l.done
    ≡ sets l.initial.words l.tracks.place (joined (part_pair l.self.sizes.minimums.now l.self.sizes.maximums.now l.self.items.now l.part l.offset l.tracks.first l.self.gutters) l.tracks.first l.tracks.count))
