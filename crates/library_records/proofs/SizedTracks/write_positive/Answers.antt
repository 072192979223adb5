use Rattle.track_rules.specs.Written.{spares_of}
use Rattle.library_records.proofs.Axes.{positive-cut}
use Rattle.library_records.proofs.SizedTracks.write_positive.Goals as goal

pub returns : goal.returns
returns c =
    let a = c.args in
    let s = c.cut in
    positive-cut (spares_of a.self.sizes.minimums.now a.self.sizes.maximums.now) a.self.items.now a.end a.offset a.tracks.first a.self.gutters c.before_end-areas.result a.tracks.count a.tracks.place
    a.words.now c.write_spares.new.words c.write_spares-2.new.words
    s.result.0.first s.result.0.count s.result.0.place s.result.1.first s.result.1.count s.result.1.place s.ensures.early s.ensures.late
    c.before_end-areas.ensures c.write_spares.ensures c.write_spares-2.ensures
