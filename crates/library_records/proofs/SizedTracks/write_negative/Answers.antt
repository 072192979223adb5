use Prim.Native.Nat.{◌+◌, ◌-◌, ◌%◌}
use lib.ListN.{length}
use Rattle.track_rules.specs.declared.TrackSource.TheVariants.{Negative}
use Rattle.track_rules.specs.Written.{spares_of}
use Rattle.library_records.specs.Pairs.{spare_pair}
use Rattle.library_records.proofs.Pairs.{put-none}
use Rattle.library_records.proofs.SizedTracks.write_negative.Goals as goal

pub returns-then-tracks-eq0 : goal.returns-then-tracks-eq0
returns-then-tracks-eq0 c =
    let a = c.args in
    let n = length a.self.sizes.minimums.now in
    put-none (spare_pair Negative (spares_of a.self.sizes.minimums.now a.self.sizes.maximums.now) a.self.items.now (n - a.negative % n + a.tracks.first) a.tracks.first a.self.gutters) a.words.now a.tracks.place a.tracks.first a.tracks.count c.if-tracks-eq0.true
