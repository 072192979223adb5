use mathlib.Core.Path.{ap, ◌∙◌}
use mathlib.Core.Bool.{false}
use lib.ListN.{length}
use lib.Seq.{sets}
use Rattle.track_rules.specs.Written.{spares_of}
use Rattle.library_records.specs.Pairs.{part_pair, spare_pair}
use Rattle.library_records.proofs.Pairs.{joined_same}
use Rattle.library_records.proofs.Axes.{pair-or}
use Rattle.library_records.proofs.SizedTracks.write_spares.Goals as goal

pub returns : goal.returns
returns c =
    let a = c.args in
    let mi = a.self.sizes.minimums.now in
    let ma = a.self.sizes.maximums.now in
    let s = c.sizes_or-sizes in
    c.write_part.ensures
    ∙ ap (sets a.words.now a.tracks.place)
    (joined_same (part_pair s.result.minimums.now s.result.maximums.now a.self.items.now (record { first = 0; length = length s.result.minimums.now; source = a.source; fit = false }) a.offset a.tracks.first a.self.gutters) (spare_pair a.source (spares_of mi ma) a.self.items.now a.offset a.tracks.first a.self.gutters) a.tracks.first a.tracks.count
    (λ j h. pair-or mi ma a.self.items.now a.source a.offset a.tracks.first a.self.gutters s.result.minimums.now s.result.maximums.now c.from.result c.from.ensures s.ensures.minimums s.ensures.maximums j))
